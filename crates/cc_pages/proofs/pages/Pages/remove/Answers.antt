use Rattle.std.proofs.Common.{◌<◌, rules, None}
use Rattle.cc_pages.proofs.Numbers.{values-changed}
use Rattle.cc_pages.proofs.pages.Pages.remove.Goals as goal

pub returns-clause-values : goal.returns-clause-values
returns-clause-values c =
    let small : c.args.number < 4294967296 = search rules in
    values-changed c.args.self.now (record { groups = c.take.new.groups }) c.args.number None small c.take.ensures.here c.take.ensures.others

use Rattle.std.proofs.Common.{◌<◌, rules, Some}
use Rattle.cc_pages.proofs.Numbers.{values-changed, values-same}
use Rattle.cc_pages.proofs.Places.{err-then, ok-both}
use Rattle.cc_pages.proofs.pages.Pages.insert.Goals as goal

pub returns-clause-values : goal.returns-clause-values
returns-clause-values c =
    let small : c.args.number < 4294967296 = search rules in
    ok-both c.put.result c.put.ensures.here c.put.ensures.others
    (λ here others. values-changed c.args.self.now (record { groups = c.put.new.groups }) c.args.number (Some c.args.value) small here others)

pub returns-clause-err : goal.returns-clause-err
returns-clause-err c = err-then c.put.result c.put.ensures.err (λ same n. values-same c.args.self.now (record { groups = c.put.new.groups }) n (same n))

use Rattle.std.proofs.Common.{◌<◌, rules, sym, ◌∙◌}
use Rattle.cc_pages.proofs.Numbers.{value-within}
use Rattle.cc_pages.proofs.pages.Pages.get.Goals as goal

pub returns : goal.returns
returns c =
    let small : c.args.number < 4294967296 = search rules in
    c.value_of.ensures ∙ sym (value-within c.args.self.now c.args.number small)

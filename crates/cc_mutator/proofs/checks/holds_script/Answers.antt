use Rattle.std.proofs.Common.{◌∙◌}
use Rattle.cc_mutator.proofs.ContentNames.{is_script_held-named}
use Rattle.cc_mutator.proofs.checks.holds_script.Goals as goal

pub returns : goal.returns
returns c =
    let e = c.native_content.ensures in
    c.is_script.ensures ∙ is_script_held-named c.requires.order.0 c.args.heaps.now c.requires.order.1 _ _ e.name e.there

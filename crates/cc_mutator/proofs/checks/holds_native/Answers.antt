use Rattle.std.proofs.Common.{◌∙◌}
use Rattle.cc_mutator.proofs.ContentNames.{is_native_held-named}
use Rattle.cc_mutator.proofs.checks.holds_native.Goals as goal

pub returns : goal.returns
returns c =
    let e = c.native_content.ensures in
    c.is_native.ensures ∙ is_native_held-named c.requires.order.0 c.args.heaps.now c.requires.order.1 _ _ e.name e.there

use Rattle.std.proofs.Common.{◌∙◌}
use Rattle.cc_model.specs.Deeds.{script_held}
use Rattle.cc_mutator.proofs.Carrying.{named-as}
use Rattle.cc_mutator.proofs.ContentNames.{as_script-named, is_native_held-named}
use Rattle.cc_mutator.proofs.scripts.get_script.Goals as goal

pub as_script-content-requires : goal.as_script-content-requires
as_script-content-requires c =
    let e = c.native_content.ensures in
    is_native_held-named c.requires.order.0 c.args.heaps.now c.requires.order.1 _ _ e.name e.there ∙ c.requires.content

pub returns : goal.returns
returns c = λ t.
    named-as (script_held c.args.d) _ _ _ _ _ _ _ (as_script-named c.args.heaps.now _ _ _ c.as_script-content.ensures c.native_content.ensures.name) (c.hold.ensures t)

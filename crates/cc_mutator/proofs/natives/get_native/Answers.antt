use Rattle.std.proofs.Common.{◌∙◌}
use Rattle.cc_model.specs.Deeds.{native_held}
use Rattle.cc_mutator.proofs.Carrying.{named-as}
use Rattle.cc_mutator.proofs.ContentNames.{as_native-named, is_script_held-named}
use Rattle.cc_mutator.proofs.natives.get_native.Goals as goal

pub as_native-content-requires : goal.as_native-content-requires
as_native-content-requires g c =
    let e = c.native_content.ensures in
    is_script_held-named c.requires.order.0 c.args.heaps.now c.requires.order.1 _ _ e.name e.there ∙ c.requires.content

pub returns : goal.returns
returns g c =
    named-as (native_held c.args.d) _ _ _ _ _ _ _ (as_native-named c.args.heaps.now _ _ _ c.as_native-content.ensures c.native_content.ensures.name) c.hold.ensures

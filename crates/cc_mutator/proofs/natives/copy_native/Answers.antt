use Rattle.cc_model.specs.Deeds.{native_held}
use Rattle.cc_mutator.proofs.Carrying.{named-as}
use Rattle.cc_mutator.proofs.natives.copy_native.Goals as goal

pub returns : goal.returns
returns g c = named-as (native_held c.args.d) _ _ _ _ _ _ _ c.native_reg-content.ensures.name c.hold.ensures

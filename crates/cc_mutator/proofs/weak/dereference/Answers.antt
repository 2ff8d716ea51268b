use Rattle.cc_model.specs.Deeds.{native_held}
use Rattle.cc_mutator.proofs.Carrying.{named-as}
use Rattle.cc_mutator.proofs.weak.dereference.Goals as goal

pub returns : goal.returns
returns g c =
    named-as (native_held c.args.d) _ _ _ _ _ _ _ (c.resolve-content.ensures.noted c.requires.order.0 c.requires.order.1 c.requires.keys) c.hold.ensures

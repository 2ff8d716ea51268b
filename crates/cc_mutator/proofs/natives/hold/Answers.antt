use Rattle.std.proofs.Common.{refl, arith}
use Rattle.cc_model.specs.declared.item.Refusal.TheVariants.{NoMemory}
use Rattle.cc_model.specs.Effects.{done_in, hold_native}
use Rattle.cc_heaps.specs.Changes.{native_name}
use Rattle.cc_mutator.proofs.Carrying.{answered-left, named-not_refused}
use Rattle.cc_mutator.proofs.natives.hold.Goals as goal

pub set_native_reg-requires-clause-within : goal.set_native_reg-requires-clause-within
set_native_reg-requires-clause-within g c = omega (arith, c.requires.within, c.requires.order.1.sound.well_formed.registers.0.enough)

pub returns : goal.returns
unfolding done_in
returns g c =
    let v = c.args.heaps.now in
    let e = c.set_native_reg.ensures in
    answered-left _ _ _ _ _ _ _ (hold_native v.heap c.args.d (native_name v c.args.content)) refl c.naming_native-reply.ensures (named-not_refused _ NoMemory) e.heap e.told e.kept.order refl

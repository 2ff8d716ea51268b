use Rattle.std.proofs.Common.{None, refl, arith}
use Rattle.cc_model.specs.declared.item.Refusal.TheVariants.{NoMemory}
use Rattle.cc_model.specs.Effects.{done_in, hold_native}
use Rattle.cc_mutator.proofs.Carrying.{answered-left, done-not_refused}
use Rattle.cc_mutator.proofs.natives.drop_native.Goals as goal

pub set_native_reg-requires-clause-within : goal.set_native_reg-requires-clause-within
set_native_reg-requires-clause-within g c = omega (arith, c.requires.within, c.requires.order.1.sound.well_formed.registers.0.enough)

pub returns : goal.returns
unfolding done_in
returns g c =
    let e = c.set_native_reg.ensures in
    answered-left _ _ _ _ _ _ _ (hold_native c.args.heaps.now.heap c.args.d None) refl refl (done-not_refused NoMemory) e.heap e.told e.kept.order refl

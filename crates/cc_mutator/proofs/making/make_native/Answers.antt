use Rattle.std.proofs.Common.{true, refl, ap, arith}
use Rattle.cc_model.specs.declared.item.Refusal.TheVariants.{NoMemory}
use Rattle.cc_model.specs.declared.item.Reply.TheVariants.{Named}
use Rattle.cc_model.specs.Effects.{done_in}
use Rattle.cc_mutator.proofs.Carrying.{answered-denied, answered-unexposed, name-not_refused}
use Rattle.cc_mutator.proofs.making.make_native.Goals as goal

pub new_native-requires-clause-within : goal.new_native-requires-clause-within
new_native-requires-clause-within g c = omega (arith, c.requires.within, c.requires.order.1.sound.well_formed.registers.0.enough)

pub returns-in-Ok : goal.returns-in-Ok
unfolding done_in
returns-in-Ok g c =
    let e = c.in-Ok.ensures in
    answered-unexposed _ _ _ _ _ _ _ true (ap (λ x. Named x) e.name) (name-not_refused _ NoMemory) e.heap e.told e.kept.keys e.kept.order e.kept.marks refl e.marks.by_names

pub returns-in-Err-NoMemory : goal.returns-in-Err-NoMemory
returns-in-Err-NoMemory g c = let e = c.in-Err-NoMemory.ensures in answered-denied _ _ _ _ _ _ _ true refl refl e.same e.silent

use Rattle.std.proofs.Common.{true, None, refl, ap, arith}
use Rattle.cc_names.specs.declared.kind.Kind.TheVariants.{Map}
use Rattle.cc_model.specs.declared.item.Refusal.TheVariants.{NoMemory}
use Rattle.cc_model.specs.declared.item.Reply.TheVariants.{Named}
use Rattle.cc_model.specs.Effects.{done_in, make_object}
use Rattle.cc_mutator.proofs.Carrying.{answered-denied, silently-unexposed, name-not_refused}
use Rattle.cc_mutator.proofs.making.make_map.Goals as goal

pub new_map-requires-clause-within : goal.new_map-requires-clause-within
new_map-requires-clause-within c = omega (arith, c.requires.within, c.requires.order.1.sound.well_formed.registers.1.enough)

pub returns-in-Ok : goal.returns-in-Ok
unfolding done_in
returns-in-Ok c = λ t.
    let e = c.in-Ok.ensures in
    silently-unexposed _ _ _ _ _ t true (make_object c.args.heaps.now.heap c.args.d Map 0 None) refl (ap (λ x. Named x) e.name) (name-not_refused _ NoMemory) e.heap e.kept.keys e.kept.order e.kept.marks refl e.marks.by_names

pub returns-in-Err-NoMemory : goal.returns-in-Err-NoMemory
returns-in-Err-NoMemory c = λ t. let e = c.in-Err-NoMemory.ensures in answered-denied _ _ _ _ _ _ _ true refl refl e.same refl

use Rattle.std.proofs.Common.{◌≡◌, ◌<◌, option_map, sym, ◌∙◌, ap, subst, arith}
use Rattle.cc_model.specs.Effects.{move_slot}
use Rattle.cc_model.specs.Heap.{Outcome}
use Rattle.cc_model.specs.Marking.{exposed_marks}
use Rattle.cc_model.specs.Telling.{TellsEvents}
use Rattle.cc_heaps.specs.Changes.{moved_in}
use Rattle.cc_heaps.specs.Keyed.{the_number}
use Rattle.cc_heaps.specs.NewMarks.{marks_of}
use Rattle.cc_mutator.proofs.NativesRead.{held-number, slots-as_many, slots-few}
use Rattle.cc_mutator.proofs.Storing.{held-slot, moved-moves}
use Rattle.cc_mutator.proofs.natives.hand_over.Given as given
use Rattle.cc_mutator.proofs.natives.hand_over.Goals as goal

pub overflow_cast-i : goal.overflow_cast-i
overflow_cast-i g c =
    omega (arith, slots-few c.requires.order.0 c.args.heaps.now c.requires.order.1 c.args.d c.in-Some.to c.in-Some.ensures.name c.in-Some.ensures.there, c.requires.to_slot)

pub overflow_cast-j : goal.overflow_cast-j
overflow_cast-j g c =
    let e = c.in-Some-native_reg in
    omega (arith, slots-few c.requires.order.0 c.args.heaps.now c.requires.order.1 c.args.s e.from e.ensures.name e.ensures.there, c.requires.from_slot)

pub move_slot-requires-clause-to_within : goal.move_slot-requires-clause-to_within
move_slot-requires-clause-to_within g c =
    subst (λ n. c.args.i < n) (sym (slots-as_many c.requires.order.0 c.args.heaps.now c.requires.order.1 c.args.d c.in-Some.to c.in-Some.ensures.name c.in-Some.ensures.there)) c.requires.to_slot

pub move_slot-requires-clause-from_within : goal.move_slot-requires-clause-from_within
move_slot-requires-clause-from_within g c =
    let e = c.in-Some-native_reg in
    subst (λ n. c.args.j < n) (sym (slots-as_many c.requires.order.0 c.args.heaps.now c.requires.order.1 c.args.s e.from e.ensures.name e.ensures.there)) c.requires.from_slot

-- what moves by the numbers of the natives moves by their registers
moves : (g : given.Over) (c : goal.After-move_slot g) →
    moved_in c.args.heaps.now.heap (the_number c.args.heaps.now c.in-Some.to.0) c.args.i (the_number c.args.heaps.now c.in-Some-native_reg.from.0) c.args.j
    ≡ move_slot c.args.heaps.now.heap c.args.d c.args.i c.args.s c.args.j
moves g c =
    let v = c.args.heaps.now in
    let f = c.requires.order in
    let e = c.in-Some-native_reg in
    moved-moves v.heap c.args.d _ c.args.i c.args.s _ c.args.j
    (held-number f.0 v f.1 c.args.d c.in-Some.to c.in-Some.ensures.name c.in-Some.ensures.there)
    (held-number f.0 v f.1 c.args.s e.from e.ensures.name e.ensures.there)

pub returns-clause-heap : goal.returns-clause-heap
returns-clause-heap g c = c.move_slot.ensures.heap ∙ ap (λ (o : Outcome). o.heap) (moves g c)

pub returns-clause-told : goal.returns-clause-told
returns-clause-told g c =
    subst (λ (o : Outcome). TellsEvents (g.N.Notices.telling c.args.out.now) (g.N.Notices.telling c.move_slot.new.out) o.events) (moves g c) c.move_slot.ensures.told

pub returns-clause-marks : goal.returns-clause-marks
returns-clause-marks g c = c.move_slot.ensures.kept.marks

pub returns-clause-marking : goal.returns-clause-marking
returns-clause-marking g c =
    let v = c.args.heaps.now in
    let f = c.requires.order in
    let e = c.in-Some-native_reg in
    subst (λ x. marks_of c.move_slot.new.self ≡ option_map (exposed_marks v.heap x) (marks_of v))
    (held-slot v.heap c.args.s _ c.args.j (held-number f.0 v f.1 c.args.s e.from e.ensures.name e.ensures.there)) c.move_slot.ensures.marking

use Rattle.std.proofs.Common.{◌≡◌, sym, ◌∙◌, ap, subst}
use Rattle.cc_lists.specs.Members.{Among}
use Rattle.cc_model.specs.Colours.{marked, HasColours}
use Rattle.cc_marking.specs.Marking.{marked_from}
use Rattle.cc_heaps.specs.Keyed.{IsInOrder}
use Rattle.cc_heaps.specs.Changes.{KeepsKeys}
use Rattle.cc_heaps.specs.Fields.{keyed_of, heap_of, IsLinked}
use Rattle.cc_heaps.specs.Marks.{KeepsMarks}
use Rattle.cc_heaps.specs.Roots.{keys_in_registers}
use Rattle.cc_heaps.proofs.ObjectsKept.{keys-counted, with_objects}
use Rattle.cc_heaps.proofs.EntryNames.{delegates-order}
use Rattle.cc_heaps.proofs.ReferenceNames.{few_slots-counted}
use Rattle.cc_heaps.proofs.RootNames.{register-there, native-there}
use Rattle.cc_heaps.proofs.MarkedObjects.{marked_objects, heap-marked, keys-marked, marks-marked, order-marked, linked-marked}
use Rattle.cc_laws_heap.proofs.Face.{HasColours-marked, marked-stands}
use Rattle.cc_heaps.proofs.FewCounts.{few-owned}
use Rattle.cc_heaps.proofs.MarksKept.{marks-go_on}
use Rattle.cc_heaps.proofs.heaps.Heaps.mark_scripts.Goals as goal

pub new-held-requires : goal.new-held-requires
new-held-requires c =
    let f = rw (← c.self.view_is) at c.requires.order in
    record { keyed = keys-counted f.0 c.self.inside c.self.invariant f.1; few_slots = few_slots-counted c.self.inside f.1.sound.well_formed }

-- the roots are the keys of registers, and those of natives
registers : (c : goal.After-mark_uncounted) → c.new-registers.result ≡ keys_in_registers c.self.inside.script_registers.items
registers c = c.new-registers.ensures ∙ ap keys_in_registers c.as_slice.ensures.value

pub mark_uncounted-requires-clause-whole : goal.mark_uncounted-requires-clause-whole
mark_uncounted-requires-clause-whole c = (rw (← c.self.view_is) at c.requires.order).1.whole

pub mark_uncounted-requires-clause-entries : goal.mark_uncounted-requires-clause-entries
mark_uncounted-requires-clause-entries c = (rw (← c.self.view_is) at c.requires.order).1.entries_there

pub mark_uncounted-requires-clause-delegates : goal.mark_uncounted-requires-clause-delegates
mark_uncounted-requires-clause-delegates c = let f = rw (← c.self.view_is) at c.requires.order in delegates-order f.0 (keyed_of c.self.inside) f.1

pub mark_uncounted-requires-clause-registers : goal.mark_uncounted-requires-clause-registers
mark_uncounted-requires-clause-registers c = λ k m.
    register-there c.self.inside c.self.invariant k
    (subst (Among k) (c.new-registers.ensures ∙ ap keys_in_registers c.as_slice.ensures.value) m)

pub mark_uncounted-requires-clause-held : goal.mark_uncounted-requires-clause-held
mark_uncounted-requires-clause-held c =
    let f = rw (← c.self.view_is) at c.requires.order in
    λ k m. native-there c.self.inside c.self.invariant (keys-counted f.0 c.self.inside c.self.invariant f.1) k (subst (Among k) c.new-held.ensures m)

-- the objects are those of the marking
objects : (c : goal.After-mark_uncounted) → marked_objects c.self.inside ≡ c.mark_uncounted.new.scripts
objects c =
    sym (c.mark_uncounted.ensures ∙ (λ i. marked_from (registers c i) (c.new-held.ensures i) c.self.inside.weak c.self.inside.scripts))

pub returns-clause-heap : goal.returns-clause-heap
returns-clause-heap c =
    let p = c.self.inside in
    rw (← c.self.view_is) (subst (λ os. heap_of (with_objects p os) ≡ marked (heap_of p)) (objects c) (heap-marked p c.self.invariant (rw (← c.self.view_is) at c.requires.order).1))

pub invariant_of-self : goal.invariant_of-self
invariant_of-self c =
    let p = c.self.inside in
    subst (λ os. IsLinked (with_objects p os)) (objects c) (linked-marked p c.self.invariant (rw (← c.self.view_is) at c.requires.order).1)

pub returns-clause-stands : goal.returns-clause-stands
returns-clause-stands c = rw (returns-clause-heap c) (λ g m t. marked-stands c.args.self.now.heap g c.requires.order.1.sound m t)

pub returns-clause-marks : goal.returns-clause-marks
returns-clause-marks c =
    let p = c.self.inside in
    rw (← c.self.view_is) (subst (λ os. KeepsMarks (keyed_of p) (keyed_of (with_objects p os))) (objects c) (marks-marked p c.self.invariant (rw (← c.self.view_is) at c.requires.order).1))

pub returns-clause-kept : goal.returns-clause-kept
returns-clause-kept c = record {
  keys = (let p = c.self.inside in
      rw (← c.self.view_is) (subst (λ os. KeepsKeys (keyed_of p) (keyed_of (with_objects p os))) (objects c) (keys-marked p c.self.invariant (rw (← c.self.view_is) at c.requires.order).1)));
  order = λ owned. (let p = c.self.inside in
      rw (← c.self.view_is) (λ o. subst (λ os. IsInOrder owned (keyed_of (with_objects p os))) (objects c) (order-marked p c.self.invariant o)));
  counts = few-owned _;
  colours = tt;
  fresh = tt;
  suspected = tt;
  marks = marks-go_on (returns-clause-marks c);
}

pub returns-clause-colours : goal.returns-clause-colours
returns-clause-colours c = subst HasColours (sym (returns-clause-heap c)) ((HasColours-marked c.args.self.now.heap))

use Rattle.std.proofs.Common.{◌≡◌, ℕ, sym, ◌∙◌, ap, subst}
use Rattle.cc_script.specs.ColourOrder.{HasColourOrder}
use Rattle.cc_script.specs.Objects.{AreWhole, name_at}
use Rattle.cc_marking.specs.Levels.{keys_at_least}
use Rattle.cc_marking.specs.Marking.{AreEntriesThere, marked_from}
use Rattle.cc_names.specs.declared.kind.Colour.TheVariants.{Black, Gray}
use Rattle.cc_heaps.specs.Keyed.{IsInOrder}
use Rattle.cc_heaps.specs.Ending.{coloured_by_marks}
use Rattle.cc_heaps.specs.Fields.{heap_of, keyed_of, IsLinked}
use Rattle.cc_heaps.proofs.Ended.{becomes-ended, colours-ordered, ended_objects, entries-exchanged, name_at-ended, whole-exchanged}
use Rattle.cc_heaps.proofs.ObjectsKept.{with_objects}
use Rattle.cc_heaps.proofs.heaps.Heaps.colour_by_new_marks.Goals as goal

pub exchange_marks-requires : goal.exchange_marks-requires
exchange_marks-requires c =
    let p = c.self.inside in
    let e = rw (← c.self.view_is) at c.requires.ending in
    record { order = colours-ordered p c.self.invariant (rw (← c.self.view_is) at c.requires.order).1 e.0 e.1 e.2 }

pub mark_on_uncounted-requires-clause-entries : goal.mark_on_uncounted-requires-clause-entries
mark_on_uncounted-requires-clause-entries c = subst (λ os. AreEntriesThere os c.self.inside.weak) (sym c.exchange_marks.ensures)
    (entries-exchanged c.self.inside c.self.invariant (rw (← c.self.view_is) at c.requires.order).1)

pub mark_on_uncounted-requires-clause-whole : goal.mark_on_uncounted-requires-clause-whole
mark_on_uncounted-requires-clause-whole c = subst AreWhole (sym c.exchange_marks.ensures)
    (whole-exchanged c.self.inside c.self.invariant (rw (← c.self.view_is) at c.requires.order).1)

pub mark_on_uncounted-requires-clause-ordered : goal.mark_on_uncounted-requires-clause-ordered
mark_on_uncounted-requires-clause-ordered c =
    let p = c.self.inside in
    let e = rw (← c.self.view_is) at c.requires.ending in
    subst HasColourOrder (sym c.exchange_marks.ensures) (colours-ordered p c.self.invariant (rw (← c.self.view_is) at c.requires.order).1 e.0 e.1 e.2)

-- the objects are those at the end of the marking
objects : (c : goal.After-mark_on_uncounted) → ended_objects c.self.inside ≡ c.mark_on_uncounted.new.scripts
objects c = sym (c.mark_on_uncounted.ensures
    ∙ ap (λ os. marked_from (keys_at_least Black os) (keys_at_least Gray os) c.self.inside.weak os) c.exchange_marks.ensures)

pub returns-clause-heap : goal.returns-clause-heap
returns-clause-heap c =
    let p = c.self.inside in
    rw (← c.self.view_is) (λ m is. subst (λ os. heap_of (with_objects p os) ≡ coloured_by_marks (heap_of p) m) (objects c)
    (becomes-ended p c.self.invariant (rw (← c.self.view_is) at c.requires.order).1 m is).heap)

pub invariant_of-self : goal.invariant_of-self
invariant_of-self c =
    let p = c.self.inside in
    let e = rw (← c.self.view_is) at c.requires.ending in
    subst (λ os. IsLinked (with_objects p os)) (objects c)
    (becomes-ended p c.self.invariant (rw (← c.self.view_is) at c.requires.order).1 e.0 e.1).linked

pub returns-clause-names : goal.returns-clause-names
returns-clause-names c =
    let p = c.self.inside in
    rw (← c.self.view_is) (subst (λ os. (key : ℕ) → name_at os key ≡ name_at p.scripts key) (objects c) (name_at-ended p))

pub returns-clause-order : goal.returns-clause-order
returns-clause-order c =
    let p = c.self.inside in
    let e = rw (← c.self.view_is) at c.requires.ending in
    λ owned. rw (← c.self.view_is) (λ o. subst (λ os. IsInOrder owned (keyed_of (with_objects p os))) (objects c)
    (becomes-ended p c.self.invariant o e.0 e.1).order)

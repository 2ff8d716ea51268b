use Rattle.std.proofs.Common.{◌≡◌, ◌∙◌, ap, subst}
use Rattle.cc_lists.specs.Members.{Among}
use Rattle.cc_heaps.specs.NewMarks.{IsRemarked}
use Rattle.cc_heaps.specs.Roots.{keys_in_registers}
use Rattle.cc_heaps.proofs.ObjectsKept.{keys-counted}
use Rattle.cc_heaps.proofs.ReferenceNames.{few_slots-counted}
use Rattle.cc_heaps.proofs.Remarked.{remarked-then, remarked-there}
use Rattle.cc_heaps.proofs.RemarkedHeaps.{AreRemarked, heaps-remarked}
use Rattle.cc_heaps.proofs.RootNames.{register-there, native-there}
use Rattle.cc_heaps.proofs.RootsInOrder.{begun-going_on, begun-marked, same-white}
use Rattle.cc_heaps.proofs.heaps.Heaps.begin_new.Goals as goal

-- the roots are the keys of registers
registers : (c : goal.After-registers-1) → c.new-registers.result ≡ keys_in_registers c.self.inside.script_registers.items
registers c = c.new-registers.ensures ∙ ap keys_in_registers c.as_slice.ensures.value

-- no object has a new mark at first
white : (c : goal.After-registers-1) → IsRemarked c.self.inside.scripts c.unmark_new.new.self
white c = same-white c.self.inside c.self.invariant (rw (← c.self.view_is) at c.requires.order).1 c.unmark_new.new.self c.begin.new.self c.unmark_new.ensures c.begin.ensures.marking

pub raise_roots-requires-clause-there : goal.raise_roots-requires-clause-there
raise_roots-requires-clause-there c = λ k m.
    remarked-there c.self.inside.scripts c.unmark_new.new.self (white c) k
    ∙ register-there c.self.inside c.self.invariant k (subst (Among k) (registers c) m)

pub raise_roots-requires-clause-going_on : goal.raise_roots-requires-clause-going_on
raise_roots-requires-clause-going_on c =
    begun-going_on c.self.inside c.self.invariant (rw (← c.self.view_is) at c.requires.order).1 c.unmark_new.new.self c.begin.new.self c.unmark_new.ensures c.begin.ensures.marking
    c.begin.ensures.room

pub new-held-requires-clause-keyed : goal.new-held-requires-clause-keyed
new-held-requires-clause-keyed c = let f = rw (← c.self.view_is) at c.requires.order in keys-counted f.0 c.self.inside c.self.invariant f.1

pub new-held-requires-clause-few_slots : goal.new-held-requires-clause-few_slots
new-held-requires-clause-few_slots c = let f = rw (← c.self.view_is) at c.requires.order in few_slots-counted c.self.inside f.1.sound.well_formed

pub raise_roots-requires-2-clause-there : goal.raise_roots-requires-2-clause-there
raise_roots-requires-2-clause-there c = λ k m.
    let f = rw (← c.self.view_is) at c.requires.order in
    remarked-there c.self.inside.scripts c.raise_roots.new.scripts
    (remarked-then c.self.inside.scripts c.unmark_new.new.self c.raise_roots.new.scripts
    (same-white c.self.inside c.self.invariant f.1 c.unmark_new.new.self c.begin.new.self c.unmark_new.ensures c.begin.ensures.marking) c.raise_roots.ensures.same) k
    ∙ native-there c.self.inside c.self.invariant (keys-counted f.0 c.self.inside c.self.invariant f.1) k (subst (Among k) c.new-held.ensures m)

-- and some have one then
same : (c : goal.After-raise_roots-2) → IsRemarked c.self.inside.scripts c.raise_roots-2.new.scripts
same c =
    remarked-then c.self.inside.scripts c.raise_roots.new.scripts c.raise_roots-2.new.scripts
    (remarked-then c.self.inside.scripts c.unmark_new.new.self c.raise_roots.new.scripts
    (same-white c.self.inside c.self.invariant (rw (← c.self.view_is) at c.requires.order).1 c.unmark_new.new.self c.begin.new.self c.unmark_new.ensures c.begin.ensures.marking)
    c.raise_roots.ensures.same)
    c.raise_roots-2.ensures.same

begun : (c : goal.After-raise_roots-2) → AreRemarked c.self.inside (record c.self.inside { scripts = c.raise_roots-2.new.scripts; to_scan = c.raise_roots-2.new.to_scan })
begun c = heaps-remarked c.self.inside c.self.invariant c.raise_roots-2.new.scripts c.raise_roots-2.new.to_scan (same c) c.raise_roots-2.ensures.going_on.room

pub invariant_of-self : goal.invariant_of-self
invariant_of-self c = (begun c).linked

pub returns-clause-marks : goal.returns-clause-marks
returns-clause-marks c = rw (← c.self.view_is)
    (begun-marked c.self.inside c.self.invariant (rw (← c.self.view_is) at c.requires.order).1 c.unmark_new.new.self c.begin.new.self c.unmark_new.ensures c.begin.ensures.marking
    c.new-registers.result (c.new-registers.ensures ∙ ap keys_in_registers c.as_slice.ensures.value) c.new-held.result c.new-held.ensures
    c.raise_roots.new.scripts c.raise_roots.new.to_scan c.raise_roots-2.new.scripts c.raise_roots-2.new.to_scan c.raise_roots.ensures.same
    c.raise_roots.ensures.marks c.raise_roots-2.ensures.marks)

pub returns-clause-heap : goal.returns-clause-heap
returns-clause-heap c = rw (← c.self.view_is) (begun c).heap

pub returns-clause-rest : goal.returns-clause-rest
returns-clause-rest c = rw (← c.self.view_is) (begun c).rest

pub returns-clause-same : goal.returns-clause-same
returns-clause-same c = rw (← c.self.view_is) (same c)

pub returns-clause-kept : goal.returns-clause-kept
returns-clause-kept c = rw (← c.self.view_is) (begun c).kept

pub returns-clause-stands : goal.returns-clause-stands
returns-clause-stands c = rw (← c.self.view_is) (begun c).stands

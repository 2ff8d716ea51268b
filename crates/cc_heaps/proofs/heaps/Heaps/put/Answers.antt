use Rattle.std.proofs.Common.{arith, sym, ap, subst, refl}
use Rattle.cc_lists.proofs.Members.{Among-map}
use Rattle.cc_heaps.specs.Keyed.{Keyed}
use Rattle.cc_heaps.specs.Named.{named_native}
use Rattle.cc_heaps.specs.Fields.{IsLinked}
use Rattle.cc_heaps.proofs.Linked.{with_counted}
use Rattle.cc_heaps.proofs.Owned.{callers-own}
use Rattle.cc_heaps.proofs.Made.{made-keyed, made-fit, made-kept}
use Rattle.cc_heaps.proofs.MarksKept.{marks-stay}
use Rattle.cc_heaps.proofs.heaps.Heaps.put.Goals as goal

pub create-requires-clause-above : goal.create-requires-clause-above
create-requires-clause-above c n m =
    let p = c.self.inside in
    omega (arith, (rw (← c.self.view_is) at c.requires.order).1.sound.well_formed.native_numbers (named_native p.scripts n) (Among-map (named_native p.scripts) n p.counted.natives m))

pub create-requires-clause-owned : goal.create-requires-clause-owned
create-requires-clause-owned c =
    let f = rw (← c.self.view_is) at c.requires.order in
    callers-own f.0 c.self.inside (record { order = f.1; linked = c.self.invariant })

pub returns-clause-heap : goal.returns-clause-heap
returns-clause-heap c =
    let p = c.self.inside in
    let e = c.in_ok-key.ensures in
    rw (← c.self.view_is) (ap (λ (v : Keyed). v.heap) (made-keyed p (record { order = (rw (← c.self.view_is) at c.requires.order).1; linked = c.self.invariant }) c.create.new.self c.args.slots c.in_ok-key.key e.natives e.buffer e.others e.vacant))

pub returns-clause-kept : goal.returns-clause-kept
returns-clause-kept c =
    let p = c.self.inside in
    let e = c.in_ok-key.ensures in
    rw (← c.self.view_is) (made-kept p (record { order = (rw (← c.self.view_is) at c.requires.order).1; linked = c.self.invariant }) c.create.new.self c.args.slots c.in_ok-key.key e.natives e.buffer e.others e.vacant)

pub invariant_of-self : goal.invariant_of-self
invariant_of-self c = subst (λ d. IsLinked (with_counted c.self.inside d)) (sym c.in_err-key.ensures.err) c.self.invariant

pub invariant_of-self-2 : goal.invariant_of-self-2
invariant_of-self-2 c =
    let p = c.self.inside in
    let e = c.in_ok-key.ensures in
    (made-fit p (record { order = (rw (← c.self.view_is) at c.requires.order).1; linked = c.self.invariant }) c.create.new.self c.args.slots c.in_ok-key.key e.natives e.buffer e.others e.vacant
    e.key e.reflector e.other_reflectors e.as_many c.requires.slots (rw (← c.self.view_is) at c.requires.allowed) e.keyed).linked

pub returns-clause-order : goal.returns-clause-order
returns-clause-order c owned =
    let p = c.self.inside in
    let e = c.in_ok-key.ensures in
    rw (← c.self.view_is)
    (λ o. (made-fit p (record { order = o; linked = c.self.invariant }) c.create.new.self c.args.slots c.in_ok-key.key e.natives e.buffer e.others e.vacant
    e.key e.reflector e.other_reflectors e.as_many c.requires.slots (rw (← c.self.view_is) at c.requires.allowed) e.keyed).order)

pub returns-clause-marks : goal.returns-clause-marks
returns-clause-marks c = rw (← c.self.view_is) (marks-stay _ _ refl refl)

pub returns-in_err-key-clause-marks : goal.returns-in_err-key-clause-marks
returns-in_err-key-clause-marks c = rw (← c.self.view_is) (marks-stay _ _ refl refl)

use Rattle.std.proofs.Common.{◌≡◌, ℕ, ◌+◌, List, Some, sym, ◌∙◌, ap, subst, arith}
use Rattle.cc_heaps.proofs.ObjectsKept.{named-there}
use Rattle.cc_names.specs.Names.{native}
use Rattle.cc_model.specs.Graph as graph
use Rattle.cc_heaps.specs.declared.heaps.Heaps.TheInside.{Inside}
use Rattle.cc_heaps.specs.ToScan.{HasRoom}
use Rattle.cc_heaps.specs.Keyed.{IsInOrder, the_number}
use Rattle.cc_heaps.specs.Fields.{keyed_of, IsLinked}
use Rattle.cc_heaps.specs.Standing.{KeepsColours, KeepsFresh, KeepsSuspected, StandsAfter, IsReached}
use Rattle.cc_heaps.proofs.Kept.{KeepsAll-same, KeepsAll-if_reached}
use Rattle.cc_heaps.proofs.Calls.{count-fits, number-there}
use Rattle.cc_heaps.proofs.FewCounts.{few-owned}
use Rattle.cc_heaps.proofs.Listing.{scripts-limited_to}
use Rattle.cc_heaps.proofs.Owned.{callers-own}
use Rattle.cc_heaps.proofs.ReflectingMade.{reflector_made-colours, reflector_made-keeps_fresh, reflector_made-keeps_suspected, reflector_made-stands}
use Rattle.cc_heaps.proofs.ReflectorMade.{IsReflectorMade, reflector-made}
use Rattle.cc_heaps.proofs.Reserved.{on-error, reserved-keyed, reserved-linked, with_lists, marks-unchanged}
use Rattle.cc_heaps.proofs.ScriptsChanged.{with_objects}
use Rattle.cc_heaps.proofs.MarksKept.{marks-go_on}
use Rattle.cc_heaps.proofs.heaps.Heaps.new_reflector.Goals as goal

pub overflow_add-len : goal.overflow_add-len
overflow_add-len c =
    let p = c.self.inside in
    let order = rw (← c.self.view_is) at c.requires.order in
    omega (arith, c.len.ensures, scripts-limited_to p order.0 order.1)

-- No memory for the lists: the heaps are as they were

unchanged : (c : goal.After-from_residual) → keyed_of (with_lists c.self.inside c.reserve.new.self) ≡ c.args.self.now
unchanged c = reserved-keyed c.self.inside c.reserve.new.self c.reserve.ensures.marking ∙ c.self.view_is

pub invariant_of-self : goal.invariant_of-self
invariant_of-self c = reserved-linked c.self.inside c.reserve.new.self c.reserve.ensures.marking c.reserve.ensures.more c.self.invariant

pub returns-in_err-reserve-clause-same : goal.returns-in_err-reserve-clause-same
returns-in_err-reserve-clause-same c = on-error c.from_residual.result (unchanged c)

pub returns-in_err-reserve-clause-kept : goal.returns-in_err-reserve-clause-kept
returns-in_err-reserve-clause-kept c =
    let v = c.args.self.now in
    KeepsAll-if_reached (IsReached v.heap (Some (native (the_number v c.args.key.0)))) v _ (KeepsAll-same v _ (unchanged c))

-- No memory for the object: the same

still : (c : goal.After-from_residual-in_err-made) → keyed_of (with_objects (with_lists c.self.inside c.reserve.new.self) c.create_reflector.new.self c.self.inside.scripts_made) ≡ c.args.self.now
still c =
    ap (λ os. keyed_of (with_objects (with_lists c.self.inside c.reserve.new.self) os c.self.inside.scripts_made)) c.in_err-made.ensures.err
    ∙ (reserved-keyed c.self.inside c.reserve.new.self c.reserve.ensures.marking ∙ c.self.view_is)

pub invariant_of-self-in_err-made : goal.invariant_of-self-in_err-made
invariant_of-self-in_err-made c =
    subst (λ os. IsLinked (with_objects (with_lists c.self.inside c.reserve.new.self) os c.self.inside.scripts_made)) (sym c.in_err-made.ensures.err)
    (reserved-linked c.self.inside c.reserve.new.self c.reserve.ensures.marking c.reserve.ensures.more c.self.invariant)

pub returns-in_err-made-clause-same : goal.returns-in_err-made-clause-same
returns-in_err-made-clause-same c = on-error c.from_residual-in_err-made.result (still c)

pub returns-in_err-made-clause-kept : goal.returns-in_err-made-clause-kept
returns-in_err-made-clause-kept c =
    let v = c.args.self.now in
    KeepsAll-if_reached (IsReached v.heap (Some (native (the_number v c.args.key.0)))) v _ (KeepsAll-same v _ (still c))

-- The reference

pub add_ref-requires-clause-below : goal.add_ref-requires-clause-below
add_ref-requires-clause-below c =
    let p = c.self.inside in
    let f = rw (← c.self.view_is) at c.requires.order in
    rw (c.set_reflector.ensures.reflectors) (omega (arith, count-fits f.0 p (the_number (keyed_of p) c.args.key.0) f.1, f.2 (the_number (keyed_of p) c.args.key.0)))

pub add_ref-requires-clause-owned : goal.add_ref-requires-clause-owned
add_ref-requires-clause-owned c =
    let known = rw (← c.self.view_is) at c.requires.order in
    let f = callers-own known.0 c.self.inside (record { order = known.1; linked = c.self.invariant }) in
    (f.0, c.set_reflector.ensures.owned f.0 f.1)

-- The reflector is made in THE PARTS WITH ROOM for one more, which stand for the same heaps

abbrev roomy : (c : goal.After-add_ref) → Inside
roomy c = with_lists c.self.inside c.reserve.new.self

is : (c : goal.After-add_ref) → keyed_of (roomy c) ≡ c.args.self.now
is c = reserved-keyed c.self.inside c.reserve.new.self c.reserve.ensures.marking ∙ c.self.view_is

linked : (c : goal.After-add_ref) → IsLinked (roomy c)
linked c = reserved-linked c.self.inside c.reserve.new.self c.reserve.ensures.marking c.reserve.ensures.more c.self.invariant

-- whatever is owned besides
made_owned : (c : goal.After-add_ref) (owned : List ℕ) → IsInOrder owned (keyed_of (roomy c)) →
    IsReflectorMade owned (roomy c) (record (roomy c) { counted = c.add_ref.new.self; scripts = c.create_reflector.new.self })
    (the_number (keyed_of (roomy c)) c.args.key.0) c.in_ok-made.made.0
made_owned c owned o = reflector-made (roomy c) (linked c) o c.args.key (rw (← is c) at c.requires.live)
    (rw (← is c) at c.requires.lacks) (subst (λ n. HasRoom c.reserve.new.self (n + 1)) c.len.ensures c.in_ok-reserve.ensures.room)
    c.in_ok-made.made.0 c.in_ok-made.ensures.vacant c.in-Some.number.0 c.in-Some.ensures
    c.create_reflector.new.self c.in_ok-made.ensures.made c.set_reflector.new.self c.set_reflector.ensures.reflectors c.add_ref.new.self c.add_ref.ensures.heap

made : (c : goal.After-add_ref) → IsReflectorMade c.requires.order.0 (roomy c) (record (roomy c) { counted = c.add_ref.new.self; scripts = c.create_reflector.new.self })
    (the_number (keyed_of (roomy c)) c.args.key.0) c.in_ok-made.made.0
made c = made_owned c c.requires.order.0 (subst (IsInOrder c.requires.order.0) (sym (is c)) c.requires.order.1)

pub invariant_of-self-2 : goal.invariant_of-self-2
invariant_of-self-2 c = (made c).linked

pub returns-clause-heap : goal.returns-clause-heap
returns-clause-heap c = rw (← is c) ((made c).heap)

pub returns-clause-name : goal.returns-clause-name
returns-clause-name c = rw (← is c) ((made c).name)

pub returns-clause-there : goal.returns-clause-there
returns-clause-there c = named-there c.create_reflector.new.self c.in_ok-made.made.0 _ ((made c).name)

-- What the laws make of it

pub returns-clause-stands : goal.returns-clause-stands
returns-clause-stands c reached =
    let v = c.args.self.now in
    let k = the_number v c.args.key.0 in
    subst (λ h. StandsAfter v.heap h (λ g. graph.wrapped g (Some (native k)))) (sym (returns-clause-heap c))
    (reflector_made-stands v.heap k c.requires.order.1.sound (number-there c.requires.order.0 v c.args.key.0 c.requires.order.1 c.requires.live) c.requires.lacks reached)

pub returns-clause-marks : goal.returns-clause-marks
returns-clause-marks c = rw (← is c) ((made c).marks)

pub returns-clause-kept : goal.returns-clause-kept
returns-clause-kept c = record {
  keys = rw (← is c) ((made c).keys);
  order = λ owned. (rw (← is c) (λ o. (made_owned c owned o).order));
  counts = few-owned _;
  colours = (let v = c.args.self.now in
      subst (KeepsColours v.heap) (sym (returns-clause-heap c))
      (reflector_made-colours v.heap (the_number v c.args.key.0) c.requires.order.1.sound (number-there c.requires.order.0 v c.args.key.0 c.requires.order.1 c.requires.live) c.requires.lacks));
  fresh = (let v = c.args.self.now in
      subst (KeepsFresh v.heap) (sym (returns-clause-heap c))
      (reflector_made-keeps_fresh v.heap (the_number v c.args.key.0) c.requires.order.1.sound (number-there c.requires.order.0 v c.args.key.0 c.requires.order.1 c.requires.live) c.requires.lacks));
  suspected = λ reached. (let v = c.args.self.now in
      subst (KeepsSuspected v.heap) (sym (returns-clause-heap c))
      (reflector_made-keeps_suspected v.heap (the_number v c.args.key.0) c.requires.order.1.sound (number-there c.requires.order.0 v c.args.key.0 c.requires.order.1 c.requires.live) c.requires.lacks reached));
  marks = marks-go_on (returns-clause-marks c);
}

pub returns-in_err-reserve-clause-marks : goal.returns-in_err-reserve-clause-marks
returns-in_err-reserve-clause-marks c = marks-unchanged c.args.self.now _ (unchanged c)

pub returns-in_err-made-clause-marks : goal.returns-in_err-made-clause-marks
returns-in_err-made-clause-marks c = marks-unchanged c.args.self.now _ (still c)

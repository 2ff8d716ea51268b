use Rattle.std.proofs.Common.{◌≡◌, ◌+◌, ℕ, List, refl, sym, ◌∙◌, ap, subst, arith}
use Rattle.cc_model.specs.Effects.{with_object}
use Rattle.cc_script.specs.Objects.{name_at}
use Rattle.cc_heaps.specs.ToScan.{HasRoom}
use Rattle.cc_heaps.specs.Keyed.{IsInOrder}
use Rattle.cc_heaps.specs.Fields.{heap_of, keyed_of, IsLinked}
use Rattle.cc_heaps.specs.Making.{delegate_name, kind_to_make, object_to_make, slots_to_make}
use Rattle.cc_heaps.specs.declared.heaps.Heaps.TheInside.{Inside}
use Rattle.cc_heaps.proofs.Listing.{scripts-limited_to}
use Rattle.cc_heaps.proofs.MarksKept.{marks-made}
use Rattle.cc_heaps.proofs.Reserved.{keys-unchanged, marks-unchanged, on-error, order-unchanged, reserved-keyed, reserved-linked, with_lists}
use Rattle.cc_heaps.proofs.ScriptsChanged.{with_objects}
use Rattle.cc_heaps.proofs.ScriptCalls.{Becomes, becomes-made, delegate_name-made, delegate_there-made, name_at-object}
use Rattle.cc_heaps.proofs.heaps.Heaps.add_object.Goals as goal

pub overflow_add-len : goal.overflow_add-len
overflow_add-len c =
    let p = c.self.inside in
    let order = rw (← c.self.view_is) at c.requires.order in
    omega (arith, c.len.ensures, scripts-limited_to p order.0 order.1)

-- Memory for the lists was wanting: the heaps are as they were

unchanged : (c : goal.After-from_residual) → keyed_of (with_lists c.self.inside c.reserve.new.self) ≡ c.args.self.now
unchanged c = reserved-keyed c.self.inside c.reserve.new.self c.reserve.ensures.marking ∙ c.self.view_is

pub invariant_of-self : goal.invariant_of-self
invariant_of-self c = reserved-linked c.self.inside c.reserve.new.self c.reserve.ensures.marking c.reserve.ensures.more c.self.invariant

pub returns-in_err-reserve-clause-same : goal.returns-in_err-reserve-clause-same
returns-in_err-reserve-clause-same c = on-error c.from_residual.result (unchanged c)

pub returns-in_err-reserve-clause-keys : goal.returns-in_err-reserve-clause-keys
returns-in_err-reserve-clause-keys c = keys-unchanged c.args.self.now _ (unchanged c)

pub returns-in_err-reserve-clause-marks : goal.returns-in_err-reserve-clause-marks
returns-in_err-reserve-clause-marks c = marks-unchanged c.args.self.now _ (unchanged c)

pub returns-in_err-reserve-clause-order : goal.returns-in_err-reserve-clause-order
returns-in_err-reserve-clause-order c owned o = order-unchanged c.args.self.now _ (unchanged c) owned o

-- Memory for the object was wanting: the same

still : (c : goal.After-from_residual-in_err-key) → keyed_of (with_objects (with_lists c.self.inside c.reserve.new.self) c.create.new.scripts c.self.inside.scripts_made) ≡ c.args.self.now
still c =
    ap (λ os. keyed_of (with_objects (with_lists c.self.inside c.reserve.new.self) os c.self.inside.scripts_made)) c.in_err-key.ensures.err
    ∙ (reserved-keyed c.self.inside c.reserve.new.self c.reserve.ensures.marking ∙ c.self.view_is)

pub invariant_of-self-in_err-key : goal.invariant_of-self-in_err-key
invariant_of-self-in_err-key c =
    subst (λ os. IsLinked (with_objects (with_lists c.self.inside c.reserve.new.self) os c.self.inside.scripts_made)) (sym c.in_err-key.ensures.err)
    (reserved-linked c.self.inside c.reserve.new.self c.reserve.ensures.marking c.reserve.ensures.more c.self.invariant)

pub returns-in_err-key-clause-same : goal.returns-in_err-key-clause-same
returns-in_err-key-clause-same c = on-error c.from_residual-in_err-key.result (still c)

pub returns-in_err-key-clause-keys : goal.returns-in_err-key-clause-keys
returns-in_err-key-clause-keys c = keys-unchanged c.args.self.now _ (still c)

pub returns-in_err-key-clause-marks : goal.returns-in_err-key-clause-marks
returns-in_err-key-clause-marks c = marks-unchanged c.args.self.now _ (still c)

pub returns-in_err-key-clause-order : goal.returns-in_err-key-clause-order
returns-in_err-key-clause-order c owned o = order-unchanged c.args.self.now _ (still c) owned o

-- The object is made in THE PARTS WITH ROOM for one more, which stand for the same heaps

abbrev roomy : (c : goal.After-self-1) → Inside
roomy c = with_lists c.self.inside c.reserve.new.self

is : (c : goal.After-self-1) → keyed_of (roomy c) ≡ c.args.self.now
is c = reserved-keyed c.self.inside c.reserve.new.self c.reserve.ensures.marking ∙ c.self.view_is

linked : (c : goal.After-self-1) → IsLinked (roomy c)
linked c = reserved-linked c.self.inside c.reserve.new.self c.reserve.ensures.marking c.reserve.ensures.more c.self.invariant

-- whatever is owned besides
made_owned : (c : goal.After-self-1) (owned : List ℕ) → IsInOrder owned (keyed_of (roomy c)) →
    Becomes owned (roomy c) (with_objects (roomy c) c.create.new.scripts ((roomy c).scripts_made + 1))
    (with_object (heap_of (roomy c)) (kind_to_make c.args.what) (slots_to_make c.args.what) (delegate_name (keyed_of (roomy c)) c.args.what))
made_owned c owned o = becomes-made (roomy c) (linked c) o c.in_ok-key.key.0 c.args.what (rw (← is c) at c.requires.may) c.in_ok-key.ensures.vacant
    (rw (← is c) at c.requires.room) (subst (λ n. HasRoom c.reserve.new.self (n + 1)) c.len.ensures c.in_ok-reserve.ensures.room) c.create.new.scripts c.in_ok-key.ensures.made

order : (c : goal.After-self-1) → (owned : List ℕ) × IsInOrder owned (keyed_of (roomy c))
order c = rw (← is c) at c.requires.order

made : (c : goal.After-self-1) → Becomes (order c).0 (roomy c) (with_objects (roomy c) c.create.new.scripts ((roomy c).scripts_made + 1))
    (with_object (heap_of (roomy c)) (kind_to_make c.args.what) (slots_to_make c.args.what) (delegate_name (keyed_of (roomy c)) c.args.what))
made c = made_owned c (order c).0 (order c).1

pub invariant_of-self-2 : goal.invariant_of-self-2
invariant_of-self-2 c = (made c).linked

pub returns-clause-heap : goal.returns-clause-heap
returns-clause-heap c = rw (← is c) (made c).heap

pub returns-clause-name : goal.returns-clause-name
returns-clause-name c =
    rw (← is c) (ap (λ os. name_at os c.in_ok-key.key.0) c.in_ok-key.ensures.made
    ∙ name_at-object (roomy c) (linked c) (order c).1 c.in_ok-key.key.0 c.args.what (rw (← is c) at c.requires.may) c.in_ok-key.ensures.vacant)

pub returns-clause-delegate : goal.returns-clause-delegate
returns-clause-delegate c =
    rw (← is c) (delegate_name-made (roomy c) (linked c) (order c).1 c.in_ok-key.key.0 c.args.what (rw (← is c) at c.requires.may) c.in_ok-key.ensures.vacant
    (keyed_of (with_objects (roomy c) c.create.new.scripts ((roomy c).scripts_made + 1))) c.in_ok-key.ensures.made)

pub returns-clause-there : goal.returns-clause-there
returns-clause-there c =
    delegate_there-made (roomy c) (linked c) (order c).1 c.in_ok-key.key.0 c.args.what (rw (← is c) at c.requires.may) c.in_ok-key.ensures.vacant
    c.create.new.scripts c.in_ok-key.ensures.made

pub returns-clause-keys : goal.returns-clause-keys
returns-clause-keys c = rw (← is c) (made c).keys

pub returns-clause-marks : goal.returns-clause-marks
returns-clause-marks c =
    rw (← is c) (marks-made (keyed_of (roomy c)) (keyed_of (with_objects (roomy c) c.create.new.scripts ((roomy c).scripts_made + 1)))
    (object_to_make c.in_ok-key.key.0 (c.self.inside.scripts_made + 1) c.args.what) refl c.in_ok-key.ensures.made refl)

pub returns-clause-order : goal.returns-clause-order
returns-clause-order c owned = rw (← is c) (λ o. (made_owned c owned o).order)

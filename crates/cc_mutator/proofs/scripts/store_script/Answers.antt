use Rattle.std.proofs.Common.{◌<◌, length, List, sym, subst, ap, arith}
use Rattle.cc_script.specs.Objects.{Object}
use Rattle.cc_script.specs.Objects as objects
use Rattle.cc_heaps.specs.Keyed.{Keyed}
use Rattle.cc_heaps.proofs.MarksKept.{marks-stay-changed, marks-stay-then, marks-then}
use Rattle.cc_mutator.proofs.ScriptsRead.{script_slots-as_many, script_slots-few}
use Rattle.cc_mutator.proofs.scripts.store_script.Goals as goal

pub overflow_cast-i : goal.overflow_cast-i
overflow_cast-i c =
    omega (arith, script_slots-few c.requires.order.0 c.args.heaps.now c.requires.order.1 c.args.d c.in-Some.key c.in-Some.ensures.name c.in-Some.ensures.there, c.requires.slot)

pub store_script-requires-clause-within : goal.store_script-requires-clause-within
store_script-requires-clause-within c =
    let many = script_slots-as_many c.requires.order.0 c.args.heaps.now c.requires.order.1 c.args.d c.in-Some.key c.in-Some.ensures.name c.in-Some.ensures.there in
    subst (λ (os : List Object). c.args.i < length (objects.slots_at os c.in-Some.key.0)) (sym (ap (λ (w : Keyed). w.scripts) c.preserve-is_reflector.ensures.heap))
    (subst (λ n. c.args.i < n) (sym many) c.requires.slot)

-- the reflector preserved, where it is one, leaves the heaps in order
pub store_script-requires-clause-order : goal.store_script-requires-clause-order
store_script-requires-clause-order c = let f = c.requires.order in (f.0, c.preserve-is_reflector.ensures.kept.order f.0 f.1)

pub returns-clause-order : goal.returns-clause-order
returns-clause-order c owned o = c.store_script.ensures.kept.order owned (c.preserve-is_reflector.ensures.kept.order owned o)

pub returns-clause-keys : goal.returns-clause-keys
returns-clause-keys c = grind arith

pub returns-clause-marks : goal.returns-clause-marks
returns-clause-marks c = marks-then c.preserve-is_reflector.ensures.kept.marks c.store_script.ensures.kept.marks

pub returns-clause-marking : goal.returns-clause-marking
returns-clause-marking c = (marks-stay-then (marks-stay-changed c.args.heaps.now _ _ c.preserve-is_reflector.ensures.heap) c.store_script.ensures.marks).by_names

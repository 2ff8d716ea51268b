use Rattle.std.proofs.Common.{option_map, refl, sym, ◌∙◌, ap, arith}
use Rattle.cc_model.specs.Marking.{exposed_marks}
use Rattle.cc_heaps.specs.Changes.{script_name}
use Rattle.cc_heaps.specs.NewMarks.{marks_of}
use Rattle.cc_heaps.proofs.MarksKept.{marks-same}
use Rattle.cc_heaps.proofs.ExposedMarks.{nothing-marked}
use Rattle.cc_mutator.proofs.Carrying.{exposed-none}
use Rattle.cc_mutator.proofs.scripts.touch.Goals as goal

pub returns-in_default-clause-heap : goal.returns-in_default-clause-heap
returns-in_default-clause-heap c = grind (arith, exposed-none)

pub returns-in-Some-clause-keys : goal.returns-in-Some-clause-keys
returns-in-Some-clause-keys c = c.expose.ensures.kept.keys

pub returns-in-Some-clause-order : goal.returns-in-Some-clause-order
returns-in-Some-clause-order c = c.expose.ensures.kept.order

pub returns-in_default-clause-order : goal.returns-in_default-clause-order
returns-in_default-clause-order c owned o = o

pub returns-in-Some-clause-marks : goal.returns-in-Some-clause-marks
returns-in-Some-clause-marks c = c.expose.ensures.kept.marks

pub returns-in_default-clause-marks : goal.returns-in_default-clause-marks
returns-in_default-clause-marks c = marks-same c.args.heaps.now c.args.heaps.now refl refl

pub returns-in-Some-clause-marking : goal.returns-in-Some-clause-marking
returns-in-Some-clause-marking c =
    let v = c.args.heaps.now in
    c.expose.ensures.marking ∙ ap (λ x. option_map (exposed_marks v.heap (script_name v x)) (marks_of v)) (sym c.in-Some.is)

pub returns-in_default-clause-marking : goal.returns-in_default-clause-marking
returns-in_default-clause-marking c = nothing-marked c.args.heaps.now c.args.heaps.now.heap c.args.content c.in_default.not-Some

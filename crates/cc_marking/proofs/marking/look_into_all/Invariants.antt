use Rattle.std.proofs.Common.{◌≡◌, ◌+◌}
use Rattle.cc_script.specs.Objects.{AreWhole}
use Rattle.cc_script.specs.Marking.{to_do}
use Rattle.cc_script.specs.Underway.{marks_of}
use Rattle.cc_marking.specs.Carrying.{is_looked_into}
use Rattle.cc_marking.specs.Looking.{sides_left}
use Rattle.cc_marking.proofs.Underway.{IsUnderWay}
use Rattle.cc_marking.proofs.marking.look_into_all.Given as goal

abbrev pub invariant-loop-key : goal.invariant-loop-key
invariant-loop-key g l =
    IsUnderWay l.to l.weak l.initial.marking.objects (l.initial.steps + sides_left (is_looked_into l.to (marks_of l.initial.marking)) l.weak) l.steps (marks_of l.marking)
    × (l.marking.to ≡ l.to) × AreWhole l.marking.objects

abbrev pub decreases-loop-key : goal.decreases-loop-key
decreases-loop-key g l = to_do l.to (marks_of l.marking)

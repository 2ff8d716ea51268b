use Rattle.cc_weakmaps.proofs.Sought.{places_left}
use Rattle.cc_marking.proofs.Turns.{IsLooking}
use Rattle.cc_marking.proofs.marking.mark_entries.Given as goal

abbrev pub invariant-loop-place : goal.invariant-loop-place
invariant-loop-place g l = IsLooking l.to l.weak l.object.0 l.initial.marking l.initial.steps l.marking l.steps l.place

abbrev pub decreases-loop-place : goal.decreases-loop-place
decreases-loop-place g l = places_left l.place

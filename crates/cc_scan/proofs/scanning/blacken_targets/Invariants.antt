use Rattle.cc_scan.proofs.BlackenedTargets.{AreFollowed}
use Rattle.cc_scan.proofs.Passing.{places_left}
use Rattle.cc_scan.proofs.scanning.blacken_targets.Given as goal

abbrev pub invariant-loop-place : goal.invariant-loop-place
invariant-loop-place l = AreFollowed l.fn.graph l.graph l.node l.place

abbrev pub decreases-loop-place : goal.decreases-loop-place
decreases-loop-place l = places_left l.fn.graph.edges l.place

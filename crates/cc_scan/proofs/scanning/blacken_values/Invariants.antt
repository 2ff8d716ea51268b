use Rattle.cc_scan.proofs.LookedAt.{AreLookedAt}
use Rattle.cc_scan.proofs.Passing.{places_left}
use Rattle.cc_scan.proofs.scanning.blacken_values.Given as goal

abbrev pub invariant-loop-place : goal.invariant-loop-place
invariant-loop-place g l = AreLookedAt l.fn.graph l.graph l.node l.fn.steps l.steps l.place

abbrev pub decreases-loop-place : goal.decreases-loop-place
decreases-loop-place g l = places_left l.fn.graph.hyperedges l.place

use Rattle.std.proofs.Common.{length}
use Rattle.cc_heaps.proofs.RaisedEach.{IsRaising}
use Rattle.cc_heaps.proofs.heaps.new_marks.raise_roots.Given as goal

abbrev pub invariant-loop-key : goal.invariant-loop-key
invariant-loop-key g l = IsRaising l.to (g.R.Roots.left l.initial.roots) l.initial.scripts l.initial.to_scan (g.R.Roots.left l.roots) l.scripts l.to_scan

abbrev pub decreases-loop-key : goal.decreases-loop-key
decreases-loop-key g l = length (g.R.Roots.left l.roots)

use Rattle.cc_heaps.proofs.WhitesSwept.{Sweeps, objects_left}
use Rattle.cc_heaps.proofs.heaps.sweeping.sweep_whites.Given as goal

abbrev pub invariant-loop-at : goal.invariant-loop-at
invariant-loop-at g l = Sweeps l.fn.scripts l.scripts l.fn.counted l.counted l.at l.swept (g.N.Notices.telling l.fn.out) (g.N.Notices.telling l.out)

abbrev pub decreases-loop-at : goal.decreases-loop-at
decreases-loop-at g l = objects_left l.scripts l.at

use Rattle.std.proofs.Common.{length}
use Rattle.cc_marking.proofs.Turns.{IsStarting}
use Rattle.cc_marking.proofs.marking.start_each.Given as goal

abbrev pub invariant-loop-key : goal.invariant-loop-key
invariant-loop-key g l = IsStarting (g.R.Roots.left l.initial.roots) l.initial.marking (g.R.Roots.left l.roots) l.marking

abbrev pub decreases-loop-key : goal.decreases-loop-key
decreases-loop-key g l = length (g.R.Roots.left l.roots)

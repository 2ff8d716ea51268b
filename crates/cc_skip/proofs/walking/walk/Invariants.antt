use Rattle.cc_skip.specs.Walked.{left_to_give}
use Rattle.cc_skip.proofs.Taking.{IsTaking}
use Rattle.cc_skip.proofs.walking.walk.Given as goal

abbrev pub invariant-walk : goal.invariant-walk
invariant-walk l = IsTaking l.fn.heaps l.heaps l.forgotten

abbrev pub decreases-walk : goal.decreases-walk
decreases-walk l = left_to_give l.heaps

use Rattle.cc_lists.specs.Members.{Among}
use Rattle.cc_model.specs.Derivations.{named}
use Rattle.cc_check.proofs.Through.{HoldsBefore}
use Rattle.cc_check.proofs.causes.first_unlisted.Given as goal

abbrev pub invariant-loop-i : goal.invariant-loop-i
invariant-loop-i l = HoldsBefore (λ x. Among x l.listed) (named l.reach) l.i

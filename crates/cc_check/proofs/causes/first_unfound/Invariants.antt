use Rattle.cc_lists.specs.Members.{Among}
use Rattle.cc_model.specs.Derivations.{named}
use Rattle.cc_check.proofs.Through.{HoldsBefore}
use Rattle.cc_check.proofs.causes.first_unfound.Given as goal

abbrev pub invariant-loop-name : goal.invariant-loop-name
invariant-loop-name l = HoldsBefore (λ x. Among x (named l.reach)) l.names l.name-index

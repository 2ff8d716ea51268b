use Rattle.cc_script.proofs.ReachedLeast.{reached-decided, reached-raised, unreached-kept}
use Rattle.cc_script.proofs.laws.raised_is_least.Goals as goal

pub returns-clause-list : goal.returns-clause-list
returns-clause-list c = reached-decided

pub returns-clause-raised : goal.returns-clause-raised
returns-clause-raised c = λ objects keys to o m r. reached-raised objects keys to o m r

pub returns-clause-kept : goal.returns-clause-kept
returns-clause-kept c = λ objects keys to o m none. unreached-kept objects keys to o m none

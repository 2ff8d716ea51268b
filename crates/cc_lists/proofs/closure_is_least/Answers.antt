use Rattle.cc_lists.proofs.Closure.{closure-derived, derived-closure, closure-decides}
use Rattle.cc_lists.proofs.closure_is_least.Goals as goal

pub returns-clause-same : goal.returns-clause-same
returns-clause-same g c = λ same rules x exact. (closure-derived same exact rules x, derived-closure same exact rules x)

pub returns-clause-decided : goal.returns-clause-decided
returns-clause-decided g c = λ same rules x exact. closure-decides same exact rules x

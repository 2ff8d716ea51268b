use Rattle.cc_laws_heap.proofs.ReachedAlike.{reached-there, reached-in, in-reached}
use Rattle.cc_laws_heap.proofs.stands.reached_alike.Goals as goal

pub returns-clause-alike : goal.returns-clause-alike
returns-clause-alike c = λ h g x w m s there. (reached-in h g w m s x, in-reached h g w m s x)

pub returns-clause-there : goal.returns-clause-there
returns-clause-there c = λ h g x s d. reached-there h g x s d

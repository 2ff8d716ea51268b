use Rattle.cc_laws_heap.proofs.MarkingSpares.{ended-not_marked, ended-held}
use Rattle.cc_laws_heap.proofs.markings.markings_spare_what_is_held.Goals as goal

pub returns-clause-marked : goal.returns-clause-marked
returns-clause-marked c = λ h m x s u script i. ended-not_marked h m s u x script i

pub returns-clause-held : goal.returns-clause-held
returns-clause-held c = λ h m n x s u there script i. ended-held h m s u n x there script i

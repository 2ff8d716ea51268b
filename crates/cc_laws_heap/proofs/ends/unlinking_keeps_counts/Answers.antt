use Rattle.cc_laws_heap.proofs.Unlinking.{unlink-keeps, unlink-left}
use Rattle.cc_laws_heap.proofs.Apart.{unlink-stands}
use Rattle.cc_laws_heap.proofs.ends.unlinking_keeps_counts.Goals as goal

pub returns-clause-sound : goal.returns-clause-sound
returns-clause-sound c = λ owned h k s own. (unlink-keeps owned h k s own).1

pub returns-clause-left : goal.returns-clause-left
returns-clause-left c = λ owned h k n s own m. unlink-left owned h k s own n m

pub returns-clause-stands : goal.returns-clause-stands
returns-clause-stands c = unlink-stands

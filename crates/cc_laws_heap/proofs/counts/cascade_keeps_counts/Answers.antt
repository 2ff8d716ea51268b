use Rattle.cc_laws_heap.proofs.Cascades.{cascade-sound, cascade-frees}
use Rattle.cc_laws_heap.proofs.counts.cascade_keeps_counts.Goals as goal

pub returns-clause-sound : goal.returns-clause-sound
returns-clause-sound c = λ owned h k s. cascade-sound owned h k s

pub returns-clause-frees : goal.returns-clause-frees
returns-clause-frees c = λ owned h k s. cascade-frees owned h k s

use Rattle.cc_laws_heap.proofs.RoundsStand.{collect_scripts-stands, collect_scripts-unreached}
use Rattle.cc_laws_heap.proofs.rounds.rounds_stand.Goals as goal

pub returns-clause-stands : goal.returns-clause-stands
returns-clause-stands c = λ h g s m t. collect_scripts-stands h g s m t

pub returns-clause-freed : goal.returns-clause-freed
returns-clause-freed c = λ h g x s m t i. collect_scripts-unreached h g x s m t i

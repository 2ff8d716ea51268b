use Rattle.cc_laws_heap.proofs.CollectedColours.{collect_scripts-sound, collect_scripts-colours, collect_scripts-invariant, collect_scripts-frees}
use Rattle.cc_laws_heap.proofs.RoundsEnd.{collect_scripts-marked}
use Rattle.cc_laws_heap.proofs.rounds.rounds_keep_counts.Goals as goal

pub returns-clause-sound : goal.returns-clause-sound
returns-clause-sound c = λ h s. collect_scripts-sound h s

pub returns-clause-colours : goal.returns-clause-colours
returns-clause-colours c = λ h. collect_scripts-colours h

pub returns-clause-last : goal.returns-clause-last
returns-clause-last c = λ h. collect_scripts-marked h

pub returns-clause-invariant : goal.returns-clause-invariant
returns-clause-invariant c = λ h s. collect_scripts-invariant h s

pub returns-clause-frees : goal.returns-clause-frees
returns-clause-frees c = λ h s. collect_scripts-frees h s

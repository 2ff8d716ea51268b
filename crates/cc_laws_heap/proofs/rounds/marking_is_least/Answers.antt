use Rattle.cc_laws_heap.proofs.Marking.{HasColours-marked, black-marked, gray-marked}
use Rattle.cc_laws_heap.proofs.rounds.marking_is_least.Goals as goal

pub returns-clause-colours : goal.returns-clause-colours
returns-clause-colours c = λ h. HasColours-marked h

pub returns-clause-black : goal.returns-clause-black
returns-clause-black c = λ h o m. black-marked h o m

pub returns-clause-gray : goal.returns-clause-gray
returns-clause-gray c = λ h o m. gray-marked h o m

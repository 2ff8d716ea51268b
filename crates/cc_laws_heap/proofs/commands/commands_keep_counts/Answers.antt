use Rattle.cc_model.specs.Heap.{objects_of}
use Rattle.cc_laws_heap.proofs.Taken.{IsTaken-from}
use Rattle.cc_laws_heap.proofs.CommandsSound.{effects-sound}
use Rattle.cc_laws_heap.proofs.CountBound.{count-bound}
use Rattle.cc_laws_heap.proofs.commands.commands_keep_counts.Goals as goal

pub returns-clause-command : goal.returns-clause-command
returns-clause-command c = λ h command s r e. effects-sound h command s r (IsTaken-from (objects_of h) command e)

pub returns-clause-bound : goal.returns-clause-bound
returns-clause-bound c = count-bound

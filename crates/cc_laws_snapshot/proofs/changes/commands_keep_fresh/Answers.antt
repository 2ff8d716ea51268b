use Rattle.cc_model.specs.Heap.{objects_of}
use Rattle.cc_laws_heap.proofs.Taken.{IsTaken-from}
use Rattle.cc_laws_snapshot.proofs.CommandsGentle.{effects-fresh}
use Rattle.cc_laws_snapshot.proofs.changes.commands_keep_fresh.Goals as goal

pub returns : goal.returns
returns c = λ h s command sound fresh r e. effects-fresh h s command sound fresh r (IsTaken-from (objects_of h) command e)

use Rattle.cc_model.specs.Heap.{objects_of}
use Rattle.cc_laws_heap.proofs.Taken.{IsTaken-from}
use Rattle.cc_laws_heap.proofs.MarkingBegun.{IsUnderMarking-begun}
use Rattle.cc_laws_heap.proofs.CommandsMarking.{effects-marking}
use Rattle.cc_laws_heap.proofs.markings.commands_keep_marking.Goals as goal

pub returns-clause-begun : goal.returns-clause-begun
returns-clause-begun c = λ h s. IsUnderMarking-begun h

pub returns-clause-command : goal.returns-clause-command
returns-clause-command c = λ h m command s u r e. effects-marking h m command s u r (IsTaken-from (objects_of h) command e)

use Rattle.cc_model.specs.Heap.{objects_of}
use Rattle.cc_laws_heap.proofs.Taken.{IsTaken-from}
use Rattle.cc_laws_heap.proofs.MarkingBegun.{IsScannedSoFar-begun}
use Rattle.cc_laws_heap.proofs.EdgesBut.{effects-scanned}
use Rattle.cc_laws_heap.proofs.markings.commands_keep_scanned.Goals as goal

pub returns-clause-begun : goal.returns-clause-begun
returns-clause-begun c = λ h s. IsScannedSoFar-begun h s

pub returns-clause-command : goal.returns-clause-command
returns-clause-command c = λ h m command s u scanned r e. effects-scanned h m command s u scanned r (IsTaken-from (objects_of h) command e)

use Rattle.cc_model.specs.Heap.{objects_of}
use Rattle.cc_laws_heap.proofs.Taken.{IsTaken-from}
use Rattle.cc_laws_marking.proofs.Waiting.{HasListsInOrder-scanned}
use Rattle.cc_laws_marking.proofs.CommandsOrder.{HasListsInOrder-begun, HasListsInOrder-command}
use Rattle.cc_laws_marking.proofs.lists.markings_keep_order.Goals as goal

pub returns-clause-begun : goal.returns-clause-begun
returns-clause-begun c = HasListsInOrder-begun

pub returns-clause-scanned : goal.returns-clause-scanned
returns-clause-scanned c = λ h m s l. HasListsInOrder-scanned h m s l

pub returns-clause-command : goal.returns-clause-command
returns-clause-command c = λ h m command s u l r e. HasListsInOrder-command h m command s u l r (IsTaken-from (objects_of h) command e)

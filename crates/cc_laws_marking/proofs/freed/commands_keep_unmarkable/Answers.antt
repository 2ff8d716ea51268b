use Rattle.cc_model.specs.Heap.{objects_of}
use Rattle.cc_laws_heap.proofs.Taken.{IsTaken-from}
use Rattle.cc_laws_marking.proofs.CommandsUnmarkable.{effects-unmarkable, effects-unmarkable_left, effects-there}
use Rattle.cc_laws_marking.proofs.Wrapped.{wrapped-nowhere}
use Rattle.cc_laws_marking.proofs.freed.commands_keep_unmarkable.Goals as goal

pub returns-clause-command : goal.returns-clause-command
returns-clause-command c = λ h m them command s u w r e apart. effects-unmarkable h m them command s u w r (IsTaken-from (objects_of h) command e) apart

pub returns-clause-wrapped : goal.returns-clause-wrapped
returns-clause-wrapped c = λ h m them command s u w r e nowhere. effects-unmarkable_left h m them command s u w r (IsTaken-from (objects_of h) command e)
    (λ x k i. nowhere x k)

pub returns-clause-stands : goal.returns-clause-stands
returns-clause-stands c = λ h g m them command s stands u w r e.
    let t = IsTaken-from (objects_of h) command e in
    effects-unmarkable_left h m them command s u w r t
    (λ x k i. wrapped-nowhere h g command s stands r t x k (w.held x i) (u.there x (u.within x (w.unmarked x i))))

pub returns-clause-there : goal.returns-clause-there
returns-clause-there c = λ h command x s r e i. effects-there h command s r (IsTaken-from (objects_of h) command e) x i

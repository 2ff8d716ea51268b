use Rattle.cc_laws_run.proofs.InARow.{turns-append, machine_after-append, one_list}
use Rattle.cc_laws_run.proofs.memory.runs_compose.Goals as goal

pub returns-clause-one_then_other : goal.returns-clause-one_then_other
returns-clause-one_then_other c = λ m xs ys. turns-append m xs ys

pub returns-clause-machines : goal.returns-clause-machines
returns-clause-machines c = λ m xs ys. machine_after-append m xs ys

pub returns-clause-one_list : goal.returns-clause-one_list
returns-clause-one_list c = λ m n asks answers d. let o = one_list m n asks answers d in (o.memory, o.answered, o.after, o.said_no)

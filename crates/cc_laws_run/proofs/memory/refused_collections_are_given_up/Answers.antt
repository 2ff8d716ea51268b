use Rattle.cc_laws_run.proofs.GivingUp.{slice-gives_up, collect-gives_up, finish-gives_up, given_up-suspects, given_up-rest}
use Rattle.cc_laws_run.proofs.memory.refused_collections_are_given_up.Goals as goal

pub returns-clause-slice : goal.returns-clause-slice
returns-clause-slice c = slice-gives_up

pub returns-clause-collect : goal.returns-clause-collect
returns-clause-collect c = collect-gives_up

pub returns-clause-finished : goal.returns-clause-finished
returns-clause-finished c = finish-gives_up

pub returns-clause-suspects : goal.returns-clause-suspects
returns-clause-suspects c = given_up-suspects

pub returns-clause-rest : goal.returns-clause-rest
returns-clause-rest c = given_up-rest

use Rattle.cc_laws_run.proofs.PlainLawful.{run-lawful}
use Rattle.cc_laws_run.proofs.PlainQuiet.{run-quiet}
use Rattle.cc_laws_run.proofs.PlainRanges.{asks_of-range}
use Rattle.cc_laws_run.proofs.plain_run.plain_run_is_lawful.Goals as goal

pub returns-clause-lawful : goal.returns-clause-lawful
returns-clause-lawful c = λ limits memory asks i. run-lawful limits memory asks i

pub returns-clause-quiet : goal.returns-clause-quiet
returns-clause-quiet c = λ limits memory asks i. run-quiet limits memory asks i

pub returns-clause-in_range : goal.returns-clause-in_range
returns-clause-in_range c = λ bytes. asks_of-range bytes

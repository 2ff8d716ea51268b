use Rattle.cc_laws_run.proofs.RunsOn.{empty-runs}
use Rattle.cc_laws_run.proofs.PlainLawful.{any-answers, any-runs}
use Rattle.cc_laws_run.proofs.turns.commands_are_lawful.Goals as goal

pub returns-clause-start : goal.returns-clause-start
returns-clause-start c = λ limits memory. empty-runs limits memory

pub returns-clause-answered : goal.returns-clause-answered
returns-clause-answered c = λ m s ask r i t. any-answers m s ask r i

pub returns-clause-runs : goal.returns-clause-runs
returns-clause-runs c = λ m s ask r i t. any-runs m s ask r i

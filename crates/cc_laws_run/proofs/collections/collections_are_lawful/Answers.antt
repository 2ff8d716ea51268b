use Rattle.cc_laws_run.proofs.PlainLawful.{any-answers, any-runs, moving-in_range}
use Rattle.cc_laws_run.proofs.collections.collections_are_lawful.Goals as goal

pub returns-clause-answered : goal.returns-clause-answered
returns-clause-answered c = λ m s ask r e. any-answers m s ask r (moving-in_range ask e)

pub returns-clause-runs : goal.returns-clause-runs
returns-clause-runs c = λ m s ask r e. any-runs m s ask r (moving-in_range ask e)

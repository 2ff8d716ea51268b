use Rattle.cc_laws_run.proofs.WholeRuns.{run-misses_nothing, run-misses_nothing_at_all}
use Rattle.cc_laws_run.proofs.runs.runs_after_gc_miss_nothing.Goals as goal

pub returns-clause-nothing : goal.returns-clause-nothing
returns-clause-nothing c = run-misses_nothing

pub returns-clause-nothing_at_all : goal.returns-clause-nothing_at_all
returns-clause-nothing_at_all c = run-misses_nothing_at_all

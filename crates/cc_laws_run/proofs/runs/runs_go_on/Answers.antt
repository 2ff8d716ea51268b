use Rattle.cc_laws_run.proofs.WholeRuns.{run-runs}
use Rattle.cc_laws_run.proofs.runs.runs_go_on.Goals as goal

pub returns : goal.returns
returns c = run-runs

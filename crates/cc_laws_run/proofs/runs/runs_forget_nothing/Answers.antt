use Rattle.cc_laws_run.proofs.WholeRuns.{run-suspected}
use Rattle.cc_laws_run.proofs.runs.runs_forget_nothing.Goals as goal

pub returns : goal.returns
returns c = run-suspected

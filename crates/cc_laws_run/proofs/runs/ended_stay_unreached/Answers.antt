use Rattle.cc_laws_run.proofs.EndedUnreached.{run-unreached}
use Rattle.cc_laws_run.proofs.runs.ended_stay_unreached.Goals as goal

pub returns : goal.returns
returns c = run-unreached

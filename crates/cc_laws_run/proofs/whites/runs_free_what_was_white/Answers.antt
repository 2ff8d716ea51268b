use Rattle.cc_laws_run.proofs.WhitesFreed.{run-whites}
use Rattle.cc_laws_run.proofs.whites.runs_free_what_was_white.Goals as goal

pub returns : goal.returns
returns c = run-whites

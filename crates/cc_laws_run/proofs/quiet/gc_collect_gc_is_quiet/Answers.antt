use Rattle.cc_laws_run.proofs.QuietRow.{row-quiet}
use Rattle.cc_laws_run.proofs.quiet.gc_collect_gc_is_quiet.Goals as goal

pub returns : goal.returns
returns c = row-quiet

use Rattle.cc_laws_run.proofs.AsksSuspected.{ask-suspected}
use Rattle.cc_laws_run.proofs.plain_run.asks_keep_suspected.Goals as goal

pub returns : goal.returns
returns c = λ m s ask r i t. ask-suspected m s ask r i t

use Rattle.std.proofs.Common.{arith}
use Rattle.cc_check.proofs.Texts.{short-event}
use Rattle.cc_check.proofs.heard.Heard.event.Goals as goal

pub returns-in_default-clause-complete : goal.returns-in_default-clause-complete
returns-in_default-clause-complete c = grind (arith, short-event)

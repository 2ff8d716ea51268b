use Rattle.std.proofs.Common.{arith}
use Rattle.cc_check.proofs.heard.Heard.is.Goals as goal

pub returns-in-Long : goal.returns-in-Long
returns-in-Long c = grind arith

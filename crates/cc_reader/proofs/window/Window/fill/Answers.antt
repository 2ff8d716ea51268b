use Rattle.std.proofs.Common.{arith}
use Rattle.cc_reader.proofs.Using.{Refills-failed}
use Rattle.cc_reader.proofs.window.Window.fill.Goals as goal

pub returns-in-Err-clause-refilled : goal.returns-in-Err-clause-refilled
returns-in-Err-clause-refilled g c = grind (arith, Refills-failed, g.S.Source.left)

use Rattle.std.proofs.Common.{arith}
use Rattle.cc_check.proofs.Texts.{short-decimal}
use Rattle.cc_check.proofs.lengths.numbers_are_short.Goals as goal

pub returns : goal.returns
returns c = short-decimal c.args.number (omega arith)

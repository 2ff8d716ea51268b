use Rattle.std.proofs.Common.{arith}
use Rattle.cc_counted.proofs.Reading.{count_of-cell}
use Rattle.cc_counted.proofs.counted.Counted.count.Goals as goal

pub returns : goal.returns
returns c = grind (arith, count_of-cell)

use Rattle.std.proofs.Common.{arith}
use Rattle.cc_counted.proofs.Reflecting.{preserved_of-cell}
use Rattle.cc_counted.proofs.counted.Counted.preserved.Goals as goal

pub returns : goal.returns
returns c = grind (arith, preserved_of-cell)

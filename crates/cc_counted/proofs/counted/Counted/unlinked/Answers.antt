use Rattle.std.proofs.Common.{arith}
use Rattle.cc_counted.proofs.Reflecting.{unlinked_of-cell}
use Rattle.cc_counted.proofs.counted.Counted.unlinked.Goals as goal

pub returns : goal.returns
returns c = grind (arith, unlinked_of-cell)

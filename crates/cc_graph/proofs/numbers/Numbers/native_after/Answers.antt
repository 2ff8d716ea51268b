use Rattle.std.proofs.Common.{arith}
use Rattle.cc_graph.proofs.numbers.Numbers.native_after.Goals as goal

pub returns-in-Some-clause-next : goal.returns-in-Some-clause-next
returns-in-Some-clause-next c = grind (arith)

pub returns-in-None-clause-last : goal.returns-in-None-clause-last
returns-in-None-clause-last c = grind (arith)

use Rattle.std.proofs.Common.{arith}
use Rattle.cc_graph.proofs.NodesByName.{next-some, last-none}
use Rattle.cc_graph.proofs.nodes.Nodes.native_after.Goals as goal

pub returns-clause-next : goal.returns-clause-next
returns-clause-next c = grind (arith, next-some)

pub returns-clause-last : goal.returns-clause-last
returns-clause-last c = grind (arith, last-none)

use Rattle.std.proofs.Common.{arith}
use Rattle.cc_graph.proofs.graph.Graph.reserve.Goals as goal

pub returns-clause-no_need : goal.returns-clause-no_need
returns-clause-no_need c h = grind (arith)

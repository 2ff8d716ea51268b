use Rattle.std.proofs.Common.{arith}
use Rattle.cc_graph.proofs.Numbering.{number-within}
use Rattle.cc_graph.proofs.nodes.Nodes.number_of.Goals as goal

pub returns-clause-within : goal.returns-clause-within
returns-clause-within c = grind (arith, number-within)

use Rattle.std.proofs.Common.{arith}
use Rattle.cc_graph.proofs.Numbering.{length-vertices}
use Rattle.cc_graph.proofs.graph.Graph.has_white.Goals as goal

pub returns : goal.returns
returns c = grind (arith, length-vertices)

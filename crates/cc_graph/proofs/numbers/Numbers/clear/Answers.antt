use Rattle.cc_graph.proofs.NodesByName.{numbers-none}
use Rattle.cc_graph.proofs.numbers.Numbers.clear.Goals as goal

pub returns : goal.returns
returns c = numbers-none _ c.clear.ensures.values c.clear-2.ensures.values c.clear-3.ensures.values

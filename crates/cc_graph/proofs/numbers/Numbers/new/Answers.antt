use Rattle.cc_graph.proofs.NodesByName.{numbers-none}
use Rattle.cc_graph.proofs.numbers.Numbers.new.Goals as goal

pub returns : goal.returns
returns c = numbers-none _ c.new.ensures.values c.new-2.ensures.values c.new-3.ensures.values

use Rattle.std.proofs.Common.{refl}
use Rattle.cc_object_graph.proofs.object_graph.ObjectGraph.new.Goals as goal

pub returns : goal.returns
returns c = rw (c.in_ok-empty.ensures, c.in_ok-empty-2.ensures, c.in_ok-empty-3.ensures, c.new.ensures, c.new-2.ensures, c.new-3.ensures) refl

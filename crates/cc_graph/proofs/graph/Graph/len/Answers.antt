use Rattle.std.proofs.Common.{subst}
use Rattle.cc_graph.specs.Closed.{IsClosed}
use Rattle.cc_graph.proofs.Whole.{whole-closed}
use Rattle.cc_graph.proofs.graph.Graph.len.Goals as goal

pub returns-clause-closed : goal.returns-clause-closed
returns-clause-closed c = subst IsClosed c.self.view_is (whole-closed _ _ _ _ _ c.self.invariant)

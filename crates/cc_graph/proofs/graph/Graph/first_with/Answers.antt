use Rattle.std.proofs.Common.{arith}
use Rattle.cc_graph.specs.Shown.{is_with}
use Rattle.cc_graph.proofs.Chains.{place-within, place-passes}
use Rattle.cc_graph.proofs.graph.Graph.first_with.Goals as goal

pub returns-clause-place : goal.returns-clause-place
returns-clause-place c = grind (arith)

pub returns-clause-within : goal.returns-clause-within
returns-clause-within c = place-within (is_with c.args.node) c.args.self.now.hyperedges 0 c.widen.result (omega arith) (returns-clause-place c)

pub returns-clause-member : goal.returns-clause-member
returns-clause-member c = place-passes (is_with c.args.node) c.args.self.now.hyperedges 0 c.widen.result (omega arith) (returns-clause-place c)

use Rattle.std.proofs.Common.{subst}
use Rattle.std.specs.Prelude.{IfNone, IfSome}
use Rattle.cc_graph.specs.Natives.{IsLast, IsNext}
use Rattle.cc_graph.specs.Shown.{Shown, number_of}
use Rattle.cc_graph.proofs.NodesByName.{next-within}
use Rattle.cc_graph.proofs.Numbering.{number-inside}
use Rattle.cc_graph.proofs.graph.Graph.native_node_after.Goals as goal

pub returns-clause-next : goal.returns-clause-next
returns-clause-next c = subst (λ (v : Shown). IfSome c.native_after.result (λ r. IsNext (number_of v.nodes) c.args.after r.0.0 r.1)) c.self.view_is c.native_after.ensures.next

pub returns-clause-within : goal.returns-clause-within
returns-clause-within c = next-within c.args.self.now.nodes c.args.after c.native_after.result (number-inside c.args.self.now.nodes) (returns-clause-next c)

pub returns-clause-last : goal.returns-clause-last
returns-clause-last c = subst (λ (v : Shown). IfNone c.native_after.result (IsLast (number_of v.nodes) c.args.after)) c.self.view_is c.native_after.ensures.last

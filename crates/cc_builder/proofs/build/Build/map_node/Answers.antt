use Rattle.std.proofs.Common.{subst}
use Rattle.cc_builder.specs.BuildSteps.{IsMapNode}
use Rattle.cc_builder.proofs.EntryMappings.{known-member}
use Rattle.cc_builder.proofs.build.Build.map_node.Goals as goal

pub returns-in-Some-clause-names : goal.returns-in-Some-clause-names
returns-in-Some-clause-names c =
    let v = c.args.heaps.now in
    let vs = c.args.self.now.graph.nodes in
    let last : IsMapNode v vs c.in-Some.last.the_map.0 c.in-Some.last.node =
    rw c.in-Some.is at c.requires.last in
    (known-member v vs c.args.the_map.0 c.in-Some.last.node (subst (λ k. IsMapNode v vs k c.in-Some.last.node) c.if-last-the_map.true last)).names

use Rattle.std.proofs.Common.{◌<◌, ◌∙◌, ap, arith, length}
use Rattle.cc_graph.proofs.Numbering.{length-vertices}
use Rattle.cc_graph.proofs.Whole.{rooms-same, shown-same, vertices-changed, whole-put}
use Rattle.cc_graph.proofs.graph.Graph.sample.Goals as goal

pub invariant_of-self : goal.invariant_of-self
invariant_of-self c =
    let count = ap (λ v. length v.nodes) c.self.view_is in
    let inside : c.args.node < length c.self.inside.nodes.nodes = omega (arith, count, length-vertices c.self.inside.nodes.nodes, c.requires) in
    rw c.put.ensures (whole-put _ _ _ _ _ c.args.node c.at-sampled.result c.sample.new.self c.self.invariant inside
    (ap (λ k. k.noted) c.sample.ensures ∙ ap (λ k. k.noted) c.at-sampled.ensures.value)
    (ap (λ k. k.references) c.sample.ensures ∙ ap (λ k. k.references) c.at-sampled.ensures.value)
    (ap (λ k. k.mappings) c.sample.ensures ∙ ap (λ k. k.mappings) c.at-sampled.ensures.value))

pub returns-clause-sampled : goal.returns-clause-sampled
returns-clause-sampled c = grind (arith, length-vertices, vertices-changed, shown-same, rooms-same)

use Rattle.std.proofs.Common.{◌≡◌, ◌<◌, ◌∙◌, ap, subst, arith, length, option_map, Some}
use Rattle.std.specs.Prelude.{IfSome, slice_get}
use Rattle.cc_graph.specs.Shown.{place_from}
use Rattle.cc_graph.specs.Kept.{edges}
use Rattle.cc_graph.proofs.Numbering.{length-vertices}
use Rattle.cc_graph.proofs.Whole.{place-source}
use Rattle.cc_graph.proofs.graph.Graph.first_from.Goals as goal

pub returns-clause-source : goal.returns-clause-source
returns-clause-source c =
    let count = ap (λ v. length v.nodes) c.self.view_is in
    let inside : c.args.i < length c.self.inside.nodes.nodes = omega (arith, count, length-vertices c.self.inside.nodes.nodes, c.requires) in
    let first : c.widen.result ≡ place_from (edges c.self.inside.references.items) c.args.i 0 =
    c.widen.ensures ∙ (ap (λ k. k.references.first) c.at.ensures.value ∙ (c.self.invariant.referring c.args.i c.at.result inside).first) in
    subst (λ v. IfSome c.widen.result (λ j. option_map (λ e. e.source) (slice_get v.edges j) ≡ Some c.args.i)) c.self.view_is
    (place-source (edges c.self.inside.references.items) c.args.i 0 c.widen.result (omega arith) first)

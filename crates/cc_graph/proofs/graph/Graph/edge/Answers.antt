use Rattle.std.proofs.Common.{◌<◌, ◌∙◌, ap, subst, sym, arith, length, Some}
use Rattle.std.specs.Prelude.{slice_get}
use Rattle.std.proofs.lemmas.Option.{slice_get-get_or}
use Rattle.cc_graph.specs.Closed.{IsClosed}
use Rattle.cc_graph.specs.Kept.{edge_of, edges}
use Rattle.cc_graph.proofs.Numbering.{length-vertices}
use Rattle.cc_graph.proofs.Whole.{each-read, edge-at, length-edges, whole-closed}
use Rattle.cc_graph.proofs.graph.Graph.edge.Goals as goal

pub returns-then-j-len-clause-closed : goal.returns-then-j-len-clause-closed
returns-then-j-len-clause-closed c = subst IsClosed c.self.view_is (whole-closed _ _ _ _ _ c.self.invariant)

pub returns-clause-value : goal.returns-clause-value
returns-clause-value c =
    let inside : c.args.j < length c.self.inside.references.items = omega (arith, c.len.ensures.count, c.if-j-len.false) in
    sym (ap (λ v. slice_get v.edges c.args.j) (sym c.self.view_is)
    ∙ (slice_get-get_or (edges c.self.inside.references.items) c.args.j (edge_of c.at-reference.result.now) (omega (arith, inside, length-edges c.self.inside.references.items))
    ∙ ap Some (edge-at c.self.inside.references.items c.args.j c.at-reference.result.now inside ∙ ap edge_of (sym c.at-reference.ensures))))

pub returns-clause-source_within : goal.returns-clause-source_within
returns-clause-source_within c =
    let inside : c.args.j < length c.self.inside.references.items = omega (arith, c.len.ensures.count, c.if-j-len.false) in
    let within = each-read (λ e. e.source < length c.self.inside.nodes.nodes) (edges c.self.inside.references.items) c.args.j (edge_of c.at-reference.result.now) c.self.invariant.within.sources
    (omega (arith, inside, length-edges c.self.inside.references.items)) in
    let here = ap (λ e. e.source) (edge-at c.self.inside.references.items c.args.j c.at-reference.result.now inside ∙ ap edge_of (sym c.at-reference.ensures)) in
    let count = ap (λ v. length v.nodes) c.self.view_is in
    omega (arith, within, here, count, length-vertices c.self.inside.nodes.nodes)

pub returns-clause-target_within : goal.returns-clause-target_within
returns-clause-target_within c =
    let inside : c.args.j < length c.self.inside.references.items = omega (arith, c.len.ensures.count, c.if-j-len.false) in
    let within = each-read (λ e. e.target < length c.self.inside.nodes.nodes) (edges c.self.inside.references.items) c.args.j (edge_of c.at-reference.result.now) c.self.invariant.within.targets
    (omega (arith, inside, length-edges c.self.inside.references.items)) in
    let here = ap (λ e. e.target) (edge-at c.self.inside.references.items c.args.j c.at-reference.result.now inside ∙ ap edge_of (sym c.at-reference.ensures)) in
    let count = ap (λ v. length v.nodes) c.self.view_is in
    omega (arith, within, here, count, length-vertices c.self.inside.nodes.nodes)

pub returns-clause-closed : goal.returns-clause-closed
returns-clause-closed c = subst IsClosed c.self.view_is (whole-closed _ _ _ _ _ c.self.invariant)

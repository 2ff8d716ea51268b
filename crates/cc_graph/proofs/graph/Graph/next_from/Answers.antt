use Rattle.std.proofs.Common.{◌≡◌, ◌<◌, ◌+◌, ◌∙◌, ◌==◌, ap, subst, sym, arith, length, option_map, Some}
use Rattle.std.specs.Prelude.{IfSome, slice_get}
use Rattle.std.proofs.lemmas.Option.{slice_get-get_or}
use Rattle.cc_graph.specs.Shown.{Edge, Shown, place_from}
use Rattle.cc_graph.specs.Kept.{edge_of, edges}
use Rattle.cc_graph.proofs.Whole.{edge-at, length-edges, next-kept, place-source}
use Rattle.cc_graph.proofs.Chains.{place-behind, place-within}
use Rattle.cc_graph.proofs.graph.Graph.next_from.Goals as goal

inside : (c : goal.After-widen) → c.args.j < length c.self.inside.references.items
inside c = let count = ap (λ v. length v.edges) c.self.view_is in omega (arith, count, length-edges c.self.inside.references.items, c.requires)

next : (c : goal.After-widen) → c.at.result.now.next ≡ place_from (edges c.self.inside.references.items) c.at.result.now.source (c.args.j + 1)
next c =
    ap (λ r. r.next) c.at.ensures
    ∙ (next-kept c.self.inside.nodes.nodes c.self.inside.references.items c.args.j c.at.result.now c.self.invariant.referring c.self.invariant.within.sources (inside c)
    ∙ ap (λ r. place_from (edges c.self.inside.references.items) r.source (c.args.j + 1)) (sym c.at.ensures))

here : (c : goal.After-widen) → slice_get (edges c.self.inside.references.items) c.args.j ≡ Some (edge_of c.at.result.now)
here c =
    slice_get-get_or (edges c.self.inside.references.items) c.args.j (edge_of c.at.result.now) (omega (arith, inside c, length-edges c.self.inside.references.items))
    ∙ ap Some (edge-at c.self.inside.references.items c.args.j c.at.result.now (inside c) ∙ ap edge_of (sym c.at.ensures))

widened : (c : goal.After-widen) → c.widen.result ≡ place_from (edges c.self.inside.references.items) c.at.result.now.source (c.args.j + 1)
widened c = c.widen.ensures ∙ next c

pub returns-clause-place : goal.returns-clause-place
returns-clause-place c = grind (arith, here, widened)

pub returns-clause-within : goal.returns-clause-within
returns-clause-within c =
    subst (λ (v : Shown). IfSome c.widen.result (λ k. k < length v.edges)) c.self.view_is
    (place-within (λ (e : Edge). e.source == c.at.result.now.source) (edges c.self.inside.references.items) (c.args.j + 1) c.widen.result
    (omega (arith, inside c, length-edges c.self.inside.references.items)) (widened c))

pub returns-clause-behind : goal.returns-clause-behind
returns-clause-behind c =
    place-behind (λ (e : Edge). e.source == c.at.result.now.source) (edges c.self.inside.references.items) c.args.j c.widen.result
    (omega (arith, inside c, length-edges c.self.inside.references.items)) (widened c)

pub returns-clause-source : goal.returns-clause-source
returns-clause-source c =
    subst (λ (v : Shown). IfSome c.widen.result (λ k. option_map (λ e. e.source) (slice_get v.edges k) ≡ option_map (λ e. e.source) (slice_get v.edges c.args.j))) c.self.view_is
    (subst (λ o. IfSome c.widen.result (λ k. option_map (λ e. e.source) (slice_get (edges c.self.inside.references.items) k) ≡ o)) (sym (ap (option_map (λ e. e.source)) (here c)))
    (place-source (edges c.self.inside.references.items) c.at.result.now.source (c.args.j + 1) c.widen.result (omega (arith, inside c, length-edges c.self.inside.references.items)) (widened c)))

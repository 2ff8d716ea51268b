use Rattle.std.specs.Prelude.{slice_get, option_map}
use Rattle.std.proofs.Common.{◌≡◌, ◌+◌, Some, sym, subst}
use Rattle.cc_graph.specs.Shown.{Shown, place_from}
use Rattle.cc_scan.proofs.BlackenedTargets.{AreFollowed, followed-next, followed-end}
use Rattle.cc_scan.proofs.scanning.blacken_targets.Goals as goal

pub loop-place-preserved : goal.loop-place-preserved
loop-place-preserved c =
    let g = c.loop-place.graph in
    let next = c.next_from-place.result in
    let there = sym c.in-Some-edge.ensures.value in
    let now = subst (λ (z : Shown). option_map (λ e. place_from z.edges e.source (c.in-Some.j + 1)) (slice_get z.edges c.in-Some.j) ≡ Some next)
    c.blacken.ensures c.next_from-place.ensures.place in
    let found = subst (λ o. option_map (λ e. place_from g.edges e.source (c.in-Some.j + 1)) o ≡ Some next) there now in
    subst (λ z. AreFollowed c.args.graph.now z c.args.node next) (sym c.blacken.ensures)
    (followed-next c.args.graph.now g c.args.node c.in-Some.j
    (subst (AreFollowed c.args.graph.now g c.args.node) c.in-Some.is c.loop-place.invariant) _ next there (cc))

pub returns-clause-blacks : goal.returns-clause-blacks
returns-clause-blacks c = followed-end c.args.graph.now c.loop-place.graph c.args.node
    (subst (AreFollowed c.args.graph.now c.loop-place.graph c.args.node) c.in_default.is c.loop-place.invariant)

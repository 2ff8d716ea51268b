use Rattle.std.proofs.Common.{subst, sym, arith}
use Rattle.cc_scan.proofs.LookedAt.{AreLookedAt, looked-count, looked-end, looked-member, looked-next, looked-start, looked-within}
use Rattle.cc_scan.proofs.scanning.blacken_values.Goals as goal

pub loop-place-init : goal.loop-place-init
loop-place-init g c = looked-start c.args.graph.now c.args.node c.args.steps.now c.first_with-place.result c.first_with-place.ensures.place

pub blacken_value-requires : goal.blacken_value-requires
blacken_value-requires g c =
    let within = looked-within c.args.graph.now c.loop-place.graph c.args.node c.args.steps.now c.loop-place.steps c.in-Some.j
    (subst (AreLookedAt c.args.graph.now c.loop-place.graph c.args.node c.args.steps.now c.loop-place.steps) c.in-Some.is c.loop-place.invariant) in
    omega (arith, within)

pub next_with-place-requires : goal.next_with-place-requires
next_with-place-requires g c = looked-member c.args.graph.now c.loop-place.graph c.args.node c.args.steps.now c.loop-place.steps c.in-Some.j
    (subst (AreLookedAt c.args.graph.now c.loop-place.graph c.args.node c.args.steps.now c.loop-place.steps) c.in-Some.is c.loop-place.invariant)
    c.blacken_value.new.graph c.blacken_value.ensures.blacks c.blacken_value.ensures.rest

pub loop-place-preserved : goal.loop-place-preserved
loop-place-preserved g c =
    subst (λ s. AreLookedAt c.args.graph.now c.blacken_value.new.graph c.args.node c.args.steps.now s c.next_with-place.result) (sym c.tick.ensures)
    (looked-next c.args.graph.now c.loop-place.graph c.args.node c.args.steps.now c.loop-place.steps c.in-Some.j
    (subst (AreLookedAt c.args.graph.now c.loop-place.graph c.args.node c.args.steps.now c.loop-place.steps) c.in-Some.is c.loop-place.invariant)
    c.blacken_value.new.graph c.blacken_value.ensures.blacks c.blacken_value.ensures.rest c.next_with-place.result c.next_with-place.ensures.place)

pub returns-clause-blacks : goal.returns-clause-blacks
returns-clause-blacks g c = looked-end c.args.graph.now c.loop-place.graph c.args.node c.args.steps.now c.loop-place.steps
    (subst (AreLookedAt c.args.graph.now c.loop-place.graph c.args.node c.args.steps.now c.loop-place.steps) c.in_default.is c.loop-place.invariant)

pub returns-clause-steps : goal.returns-clause-steps
returns-clause-steps g c = looked-count c.args.graph.now c.loop-place.graph c.args.node c.args.steps.now c.loop-place.steps
    (subst (AreLookedAt c.args.graph.now c.loop-place.graph c.args.node c.args.steps.now c.loop-place.steps) c.in_default.is c.loop-place.invariant)

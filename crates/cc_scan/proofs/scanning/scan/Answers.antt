use Rattle.std.proofs.Common.{◌<◌, ◌^◌, subst, arith, length}
use Rattle.cc_graph.specs.Shown.{Shown}
use Rattle.cc_scan.proofs.Scanned.{scan-all, scan-below, scan-few, scan-next, scan-start}
use Rattle.cc_scan.proofs.scanning.scan.Goals as goal

pub loop-node-init : goal.loop-node-init
loop-node-init g c = scan-start c.args.graph.now c.blacken_held_elsewhere.new.graph c.blacken_values.new.graph c.args.steps.now c.blacken_values.new.steps
    c.blacken_held_elsewhere.ensures.rest c.blacken_held_elsewhere.ensures.marked c.blacken_values.ensures.blacks c.blacken_values.ensures.rest c.blacken_values.ensures.steps

pub loop-node-preserved : goal.loop-node-preserved
loop-node-preserved g c = scan-next c.args.graph.now c.loop-node.graph c.blacken_targets.new.graph c.blacken_values-in-Some.new.graph c.loop-node.place c.in-Some.node
    c.args.steps.now c.loop-node.steps c.blacken_values-in-Some.new.steps c.loop-node.invariant (cc) c.blacken_targets.ensures.blacks c.blacken_targets.ensures.rest
    c.blacken_values-in-Some.ensures.blacks c.blacken_values-in-Some.ensures.rest c.blacken_values-in-Some.ensures.steps

pub overflow_add-place : goal.overflow_add-place
overflow_add-place g c =
    let below = scan-below c.args.graph.now c.loop-node.graph c.loop-node.place c.in-Some.node c.args.steps.now c.loop-node.steps c.loop-node.invariant c.black_at.ensures.closed (cc) in
    let few : length c.args.graph.now.nodes < 2 ^ 32 = subst (λ (z : Shown). length z.nodes < 2 ^ 32) c.loop-node.invariant.rest c.black_at.ensures.closed.few in
    omega arith

pub loop-node-smaller : goal.loop-node-smaller
loop-node-smaller g c =
    let below = scan-below c.args.graph.now c.loop-node.graph c.loop-node.place c.in-Some.node c.args.steps.now c.loop-node.steps c.loop-node.invariant c.black_at.ensures.closed (cc) in
    omega arith

pub returns-clause-least : goal.returns-clause-least
returns-clause-least g c = scan-all c.args.graph.now c.loop-node.graph c.loop-node.place c.args.steps.now c.loop-node.steps c.loop-node.invariant (cc)

pub returns-clause-steps : goal.returns-clause-steps
returns-clause-steps g c = scan-few c.args.graph.now c.loop-node.graph c.loop-node.place c.args.steps.now c.loop-node.steps c.loop-node.invariant (cc) c.black_at.ensures.closed

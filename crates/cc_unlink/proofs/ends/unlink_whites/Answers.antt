use Rattle.cc_unlink.proofs.Looks.{passes-start, passes-next, passes-end}
use Rattle.cc_unlink.proofs.Unlinking.{IsUnlinking-start, IsUnlinking-owned, IsUnlinking-next}
use Rattle.cc_unlink.proofs.NodeKeys.{node-keys-left}
use Rattle.cc_unlink.proofs.ends.unlink_whites.Goals as goal

pub loop-next-init : goal.loop-next-init
loop-next-init g c = record {
  steps = IsUnlinking-start c.args.graph.now c.args.heaps.now c.next_white-next.result (g.N.Notices.telling c.args.out.now) c.requires.order
      c.next_white-next.ensures.number c.next_white-next.ensures.live;
  looked = passes-start c.args.graph.now c.next_white-next.result c.args.steps.now c.next_white-next.new.steps c.next_white-next.ensures.steps;
}

pub unlink-requires-clause-owned : goal.unlink-requires-clause-owned
unlink-requires-clause-owned g c = IsUnlinking-owned (rw c.in-Some.is at c.loop-next.invariant.steps)

pub loop-next-smaller : goal.loop-next-smaller
loop-next-smaller g c = rw c.in-Some.is ((IsUnlinking-next (rw c.in-Some.is at c.loop-next.invariant.steps) c.next_white-next-in-Some.result
    c.next_white-next-in-Some.ensures.number c.next_white-next-in-Some.ensures.live c.unlink.ensures.heap c.unlink.ensures.told c.unlink.ensures.kept.order).1)

pub loop-next-preserved : goal.loop-next-preserved
loop-next-preserved g c =
    let before = rw c.in-Some.is at c.loop-next.invariant.looked in
    record {
      steps = (IsUnlinking-next (rw c.in-Some.is at c.loop-next.invariant.steps) c.next_white-next-in-Some.result
          c.next_white-next-in-Some.ensures.number c.next_white-next-in-Some.ensures.live c.unlink.ensures.heap c.unlink.ensures.told c.unlink.ensures.kept.order).0;
      looked = passes-next c.args.graph.now c.in-Some.white c.next_white-next-in-Some.result c.args.steps.now c.loop-next.steps c.next_white-next-in-Some.new.steps before
          c.next_white-next-in-Some.ensures.steps;
    }

pub next_white-next-requires-in-Some-clause-keys : goal.next_white-next-requires-in-Some-clause-keys
next_white-next-requires-in-Some-clause-keys g c = node-keys-left c.args.graph.now c.args.heaps.now c.loop-next.heaps c.loop-next.heaps.heap c.loop-next.invariant.steps.pass.kept c.requires.keys

pub returns-clause-steps : goal.returns-clause-steps
returns-clause-steps g c = passes-end c.args.graph.now c.args.steps.now c.loop-next.steps (rw c.in_default.is at c.loop-next.invariant.looked)

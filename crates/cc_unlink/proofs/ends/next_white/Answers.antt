use Rattle.std.proofs.Common.{◌∙◌, sym}
use Rattle.std.proofs.lemmas.Bool.{false≢true}
use Rattle.cc_unlink.proofs.Looks.{looks-left, looks-next}
use Rattle.cc_unlink.proofs.NextWhite.{black-none, walking-start, walking-found, walking-next, walking-fewer, walking-none}
use Rattle.cc_unlink.proofs.ends.next_white.Goals as goal

pub returns-then-not-has_white-clause-number : goal.returns-then-not-has_white-clause-number
returns-then-not-has_white-clause-number g c =
    black-none c.args.graph.now c.args.heaps.now.heap _
    (λ i inside white. false≢true (sym c.if-not-has_white.true ∙ c.has_white.ensures.1 (i, inside, white)))

pub loop-next-init : goal.loop-next-init
loop-next-init g c =
    let e = c.look_at_next-next.ensures in
    record {
      walking = walking-start c.args.graph.now c.args.heaps.now.heap c.args.after c.look_at_next-next.result e.next e.within e.small e.last;
      looked = looks-left c.args.graph.now c.args.after c.look_at_next-next.result c.args.steps.now c.look_at_next-next.new.steps e.next e.looked e.ended;
    }

pub loop-next-smaller : goal.loop-next-smaller
loop-next-smaller g c =
    let w = rw c.in-Some.is at c.loop-next.invariant.walking in
    rw c.in-Some.is (walking-fewer c.args.graph.now c.args.heaps.now c.requires.order.0 c.requires.order.1 _ c.in-Some.number c.in-Some.node w
    c.look_at_next-next-in-Some.result c.look_at_next-next-in-Some.ensures.next)

pub loop-next-preserved : goal.loop-next-preserved
loop-next-preserved g c =
    let w = rw c.in-Some.is at c.loop-next.invariant.walking in
    let before = rw c.in-Some.is at c.loop-next.invariant.looked in
    let e = c.look_at_next-next-in-Some.ensures in
    let other = rw c.in_default-white_at.is at c.white_at.ensures.other in
    record {
      walking = walking-next c.args.graph.now c.args.heaps.now c.requires.order.0 c.requires.order.1 _ c.in-Some.number c.in-Some.node w c.requires.keys
          (rw c.counted-counted.ensures at other) c.look_at_next-next-in-Some.result e.next e.within e.small e.last;
      looked = looks-next c.args.graph.now _ c.in-Some.number c.look_at_next-next-in-Some.result c.args.steps.now c.loop-next.steps c.look_at_next-next-in-Some.new.steps before
          e.next e.looked e.ended;
    }

pub returns-clause-number : goal.returns-clause-number
returns-clause-number g c = walking-none c.args.graph.now c.args.heaps.now.heap _ (rw c.in_default.is at c.loop-next.invariant.walking)

pub returns-clause-steps : goal.returns-clause-steps
returns-clause-steps g c = rw c.in_default.is at c.loop-next.invariant.looked

pub returns-in-Some-white_at-clause-number : goal.returns-in-Some-white_at-clause-number
returns-in-Some-white_at-clause-number g c =
    let w = rw c.in-Some.is at c.loop-next.invariant.walking in
    let white = rw c.in-Some-white_at.is at c.white_at.ensures.white in
    walking-found c.args.graph.now c.args.heaps.now c.requires.order.0 c.requires.order.1 _ c.in-Some.number c.in-Some.node w c.in-Some-white_at.key.0 white.0
    (rw c.counted-counted.ensures at white.1)

pub returns-in-Some-white_at-clause-live : goal.returns-in-Some-white_at-clause-live
returns-in-Some-white_at-clause-live g c = rw c.counted-counted.ensures at ((rw c.in-Some-white_at.is at c.white_at.ensures.white).1)

pub returns-in-Some-white_at-clause-steps : goal.returns-in-Some-white_at-clause-steps
returns-in-Some-white_at-clause-steps g c = rw c.in-Some.is at c.loop-next.invariant.looked

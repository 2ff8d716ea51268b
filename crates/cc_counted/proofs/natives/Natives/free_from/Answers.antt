use Rattle.std.proofs.Common.{◌≡◌, ◌<◌, length, Option, ap, sym, subst}
use Rattle.cc_model.specs.Telling.{Telling}
use Rattle.cc_names.specs.declared.number.NKey.{NKey}
use Rattle.cc_counted.specs.Lists.{Lists, with_front}
use Rattle.cc_counted.specs.Stored.{Stored}
use Rattle.cc_counted.proofs.Draining.{DrainsSoFar, DrainsSoFar-start, DrainsSoFar-done, DrainsSoFar-more, fewer, put_back, put_back-taken, none-left}
use Rattle.cc_counted.proofs.natives.Natives.free_from.Goals as goal

-- what is drained so far, where the front is known
so_far-at : (start now : Lists) (before after : Telling) (front known : Option NKey) → front ≡ known → DrainsSoFar start (put_back front now) before after → DrainsSoFar start (put_back known now) before after
so_far-at start now before after front known e s = subst (λ (o : Option NKey). DrainsSoFar start (put_back o now) before after) e s

pub loop-front-init : goal.loop-front-init
loop-front-init g c = record {
  so_far = DrainsSoFar-start (with_front c.args.key.0 c.args.self.now.lists) (g.N.Notices.telling c.args.out.now) c.requires.placed c.requires.balanced;
  done = λ e. absurd (cc);
}

pub free-requires-clause-balanced : goal.free-requires-clause-balanced
free-requires-clause-balanced g c = (so_far-at _ _ _ _ _ _ c.in-Some.is c.loop-front.invariant.so_far).balanced

pub loop-front-smaller : goal.loop-front-smaller
loop-front-smaller g c =
    let s = so_far-at _ _ _ _ _ _ c.in-Some.is c.loop-front.invariant.so_far in
    let same = ap (λ (t : Stored). length t.lists.order) c.next_waiting-front.ensures.lists in
    subst (λ n. n < length c.loop-front.self.lists.order) (sym same)
    (fewer (with_front c.args.key.0 c.args.self.now.lists) (with_front c.in-Some.key.0 c.loop-front.self.lists) c.free.new.self.lists _ _ _ s c.free.ensures)

pub loop-front-preserved : goal.loop-front-preserved
loop-front-preserved g c =
    let s = so_far-at _ _ _ _ _ _ c.in-Some.is c.loop-front.invariant.so_far in
    let front = c.next_waiting-front.result in
    let taken = put_back-taken c.free.new.self c.next_waiting-front.new.self front c.next_waiting-front.ensures.first c.next_waiting-front.ensures.lists in
    record {
      so_far = subst (λ (l : Lists). DrainsSoFar (with_front c.args.key.0 c.args.self.now.lists) l (g.N.Notices.telling c.args.out.now) (g.N.Notices.telling c.free.new.out)) (sym taken)
          (DrainsSoFar-more (with_front c.args.key.0 c.args.self.now.lists) (with_front c.in-Some.key.0 c.loop-front.self.lists) c.free.new.self.lists _ _ _ s c.free.ensures);
      done = none-left c.free.new.self c.next_waiting-front.new.self front c.next_waiting-front.ensures.first c.next_waiting-front.ensures.lists;
    }

pub returns : goal.returns
returns g c =
    DrainsSoFar-done (with_front c.args.key.0 c.args.self.now.lists) c.loop-front.self.lists _ _
    (so_far-at _ _ _ _ _ _ c.in_default.is c.loop-front.invariant.so_far) (c.loop-front.invariant.done c.in_default.is)

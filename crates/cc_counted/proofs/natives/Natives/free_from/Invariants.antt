use Rattle.std.proofs.Common.{◌≡◌, length, [], None}
use Rattle.cc_counted.specs.Lists.{with_front}
use Rattle.cc_counted.proofs.Draining.{DrainsSoFar, put_back}
use Rattle.cc_counted.proofs.natives.Natives.free_from.Given as goal

abbrev pub invariant-loop-front : goal.invariant-loop-front
invariant-loop-front g l = record {
  so_far : DrainsSoFar (with_front l.fn.key.0 l.initial.self.lists) (put_back l.front l.self.lists) (g.N.Notices.telling l.initial.out) (g.N.Notices.telling l.out);
  done : l.front ≡ None → l.self.lists.queue ≡ [];
}

abbrev pub decreases-loop-front : goal.decreases-loop-front
decreases-loop-front g l = length l.self.lists.order

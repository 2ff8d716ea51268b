use Rattle.std.proofs.Common.{◌≡◌}
use Rattle.cc_heaps.specs.Roots.{keys_from, IsPlace}
use Rattle.cc_heaps.proofs.RootWalks.{natives_left}
use Rattle.cc_heaps.proofs.heaps.roots.held_from.Given as goal

abbrev pub invariant-loop-at : goal.invariant-loop-at
invariant-loop-at l = record {
  place : IsPlace l.counted l.at l.from;
  left : keys_from l.counted l.fn.native l.fn.next ≡ keys_from l.counted l.at l.from;
}

abbrev pub decreases-loop-at : goal.decreases-loop-at
decreases-loop-at l = natives_left l.counted l.at

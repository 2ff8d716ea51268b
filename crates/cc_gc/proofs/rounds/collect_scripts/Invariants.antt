use Rattle.std.proofs.Common.{length}
use Rattle.cc_gc.proofs.RoundsLeft.{IsCollecting}
use Rattle.cc_gc.proofs.rounds.collect_scripts.Given as goal

abbrev pub invariant-rounds : goal.invariant-rounds
invariant-rounds g l = record {
  steps : IsCollecting l.fn.heaps l.heaps (g.N.Notices.telling l.fn.out) (g.N.Notices.telling l.out);
}

abbrev pub decreases-rounds : goal.decreases-rounds
decreases-rounds g l = length l.heaps.heap.scripts

use Rattle.std.proofs.Common.{◌≡◌, ◌+◌, ◌<◌, ◌-◌, length}
use Rattle.cc_lists.specs.Walks.{first_key}
use Rattle.cc_heaps.specs.Changes.{IsNativeThere}
use Rattle.cc_host.proofs.WalksBuffer.{number_in, number_of_native, waiting_from}
use Rattle.cc_host.proofs.runtime.Runtime.count_suspects.Given as goal

abbrev pub invariant-loop-at : goal.invariant-loop-at
invariant-loop-at l = record {
  counted : l.count + length (waiting_from l.self.heaps l.at) ≡ length l.self.heaps.heap.buffer;
  few : l.count < 1000;
  stands : first_key number_in (waiting_from l.self.heaps l.at) ≡ number_of_native l.self.heaps l.at;
  there : IsNativeThere l.self.heaps l.at;
}

abbrev pub decreases-loop-at : goal.decreases-loop-at
decreases-loop-at l = 1000 - l.count

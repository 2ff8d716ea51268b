use Rattle.std.proofs.Common.{◌≡◌, ◌+◌, length}
use Rattle.std.specs.Prelude.{sum_by}
use Rattle.cc_heaps.specs.Changes.{IsNativeThere}
use Rattle.cc_host.specs.Walks.{bytes_of_native, natives_from}
use Rattle.cc_host.proofs.runtime.Runtime.bytes_of_natives.Given as goal

abbrev pub invariant-loop-at : goal.invariant-loop-at
invariant-loop-at l = record {
  there : IsNativeThere l.self.heaps l.at;
  counted : l.sum + sum_by bytes_of_native (natives_from l.self.heaps l.at) ≡ sum_by bytes_of_native l.self.heaps.heap.natives;
}

abbrev pub decreases-loop-at : goal.decreases-loop-at
decreases-loop-at l = length (natives_from l.self.heaps l.at)

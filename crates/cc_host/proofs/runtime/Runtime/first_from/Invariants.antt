use Rattle.std.proofs.Common.{◌≡◌, length}
use Rattle.cc_lists.specs.Walks.{first_of}
use Rattle.cc_heaps.specs.Changes.{IsNativeThere}
use Rattle.cc_host.specs.Walks.{names_from, natives_from}
use Rattle.cc_host.proofs.runtime.Runtime.first_from.Given as goal

abbrev pub invariant-loop-at : goal.invariant-loop-at
invariant-loop-at l = record {
  there : IsNativeThere l.self.heaps l.at;
  first : first_of (names_from l.self.heaps l.at) ≡ first_of (names_from l.fn.self.heaps l.fn.start);
}

abbrev pub decreases-loop-at : goal.decreases-loop-at
decreases-loop-at l = length (natives_from l.self.heaps l.at)

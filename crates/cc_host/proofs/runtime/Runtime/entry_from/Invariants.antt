use Rattle.std.proofs.Common.{◌≡◌}
use Rattle.std.specs.Prelude.{IfSome}
use Rattle.cc_lists.specs.Walks.{first_of}
use Rattle.cc_weakmaps.specs.Index.{IsPlaceOf}
use Rattle.cc_weakmaps.proofs.Sought.{places_left}
use Rattle.cc_host.specs.Walks.{entries_from}
use Rattle.cc_host.proofs.runtime.Runtime.entry_from.Given as goal

abbrev pub invariant-loop-at : goal.invariant-loop-at
invariant-loop-at l = record {
  there : IfSome l.at (IsPlaceOf l.self.heaps.entries l.fn.the_map.0);
  first : first_of (entries_from l.self.heaps.entries l.fn.the_map.0 l.at) ≡ first_of (entries_from l.fn.self.heaps.entries l.fn.the_map.0 l.fn.start);
}

abbrev pub decreases-loop-at : goal.decreases-loop-at
decreases-loop-at l = places_left l.at

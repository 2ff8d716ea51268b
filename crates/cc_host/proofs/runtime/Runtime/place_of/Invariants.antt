use Rattle.std.proofs.Common.{◌≡◌}
use Rattle.std.specs.Prelude.{IfSome}
use Rattle.cc_weakmaps.specs.Index.{IsPlaceOf}
use Rattle.cc_weakmaps.proofs.Sought.{places_left}
use Rattle.cc_host.specs.Walks.{behind_entry, entries_from, entry_behind}
use Rattle.cc_host.proofs.runtime.Runtime.place_of.Given as goal

abbrev pub invariant-loop-of_map : goal.invariant-loop-of_map
invariant-loop-of_map l = record {
  map_place : IfSome l.of_map (IsPlaceOf l.self.heaps.entries l.fn.the_map.0);
  key_place : IfSome l.of_key (IsPlaceOf l.self.heaps.entries l.fn.key.0);
  by_map : behind_entry l.self.heaps.entries l.fn.the_map.0 l.fn.key.0 ≡ entry_behind l.fn.key.0 (entries_from l.self.heaps.entries l.fn.the_map.0 l.of_map);
  by_key : behind_entry l.self.heaps.entries l.fn.the_map.0 l.fn.key.0 ≡ entry_behind l.fn.key.0 (entries_from l.self.heaps.entries l.fn.the_map.0 l.of_key);
}

abbrev pub decreases-loop-of_map : goal.decreases-loop-of_map
decreases-loop-of_map l = places_left l.of_map

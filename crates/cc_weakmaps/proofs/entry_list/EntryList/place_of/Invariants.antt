use Rattle.cc_weakmaps.proofs.Sought.{IsSought, places_left}
use Rattle.cc_weakmaps.proofs.entry_list.EntryList.place_of.Given as goal

abbrev pub invariant-loop-of_map : goal.invariant-loop-of_map
invariant-loop-of_map l = IsSought l.self-inside.entries.items l.the_map.0 l.key.0 l.of_map l.of_key

abbrev pub decreases-loop-of_map : goal.decreases-loop-of_map
decreases-loop-of_map l = places_left l.of_map

use Rattle.std.proofs.Common.{◌∙◌}
use Rattle.cc_object_graph.proofs.KeyedEntries.{are_places_by_names, is_place_by_keys, no_place_by_names, place_by_names}
use Rattle.cc_object_graph.proofs.entries.Entries.next_with.Goals as goal

pub next_with-requires : goal.next_with-requires
next_with-requires c = is_place_by_keys _ _ _ _ _ c.self.view_is c.in-Some.ensures.key c.requires

pub returns-in-Some-clause-place : goal.returns-in-Some-clause-place
returns-in-Some-clause-place c = c.next_with.ensures.place ∙ place_by_names _ _ _ _ _ c.self.view_is c.in-Some.ensures.key

pub returns-in-Some-clause-there : goal.returns-in-Some-clause-there
returns-in-Some-clause-there c = are_places_by_names _ _ _ _ _ c.self.view_is c.in-Some.ensures.key c.next_with.ensures.there

pub returns-in-None-clause-place : goal.returns-in-None-clause-place
returns-in-None-clause-place c = no_place_by_names _ _ _ _ c.self.view_is c.self.invariant c.in-None.ensures.none

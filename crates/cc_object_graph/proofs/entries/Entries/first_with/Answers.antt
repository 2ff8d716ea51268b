use Rattle.std.proofs.Common.{◌∙◌, ap}
use Rattle.cc_weakmaps.specs.Index as index
use Rattle.cc_object_graph.proofs.KeyedEntries.{are_places_by_names, length_by_names, no_place_by_names, place_by_names}
use Rattle.cc_object_graph.proofs.entries.Entries.first_with.Goals as goal

pub returns-in-Some-clause-place : goal.returns-in-Some-clause-place
returns-in-Some-clause-place c =
    c.first_with.ensures.place ∙ ap (index.place_below c.self.inside.maps c.in-Some.key.0) (length_by_names _ _ c.self.view_is)
    ∙ place_by_names _ _ _ _ _ c.self.view_is c.in-Some.ensures.key

pub returns-in-Some-clause-there : goal.returns-in-Some-clause-there
returns-in-Some-clause-there c = are_places_by_names _ _ _ _ _ c.self.view_is c.in-Some.ensures.key c.first_with.ensures.there

pub returns-in-None-clause-place : goal.returns-in-None-clause-place
returns-in-None-clause-place c = no_place_by_names _ _ _ _ c.self.view_is c.self.invariant c.in-None.ensures.none

use Rattle.std.proofs.Common.{◌≡◌, Some}
use Rattle.cc_names.specs.declared.name.Name.{Name}
use Rattle.cc_search.proofs.EntryPlaces.{IsCollecting, places_left}
use Rattle.cc_search.proofs.search.places_with.Given as goal

abbrev pub invariant-places : goal.invariant-places
invariant-places g l = (x : Name) → g.L.Leads.name_of l.leads l.object ≡ Some x → IsCollecting (g.L.Leads.leads l.leads).entries x l.entries.items l.place

abbrev pub decreases-places : goal.decreases-places
decreases-places g l = places_left l.place

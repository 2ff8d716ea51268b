use Rattle.std.proofs.Common.{◌≡◌, Some, length}
use Rattle.cc_names.specs.declared.name.Name.{Name}
use Rattle.cc_model.specs.Derivations.{with_entries}
use Rattle.cc_search.proofs.EntryPlaces.{IsGiving}
use Rattle.cc_search.proofs.search.Search.add_entries.Given as goal

abbrev pub invariant-entries : goal.invariant-entries
invariant-entries g l = record {
  same : l.self.0 ≡ l.fn.self.0;
  giving : (x : Name) → g.L.Leads.name_of l.fn.self.0 l.fn.object ≡ Some x →
      IsGiving (g.L.Leads.leads l.fn.self.0).entries l.entries.items l.self.1 (with_entries x (g.L.Leads.leads l.fn.self.0).entries l.fn.self.1);
}

abbrev pub decreases-entries : goal.decreases-entries
decreases-entries g l = length l.entries.items

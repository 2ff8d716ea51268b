use Rattle.std.proofs.Common.{◌≡◌}
use Rattle.cc_model.proofs.Derivations.{IsOnTheWay}
use Rattle.cc_search.proofs.Searched.{left_to_walk}
use Rattle.cc_search.proofs.search.Search.run.Given as goal

abbrev pub invariant-search : goal.invariant-search
invariant-search g l = record {
  same : l.self.0 ≡ l.fn.self.0;
  way : IsOnTheWay (g.L.Leads.leads l.fn.self.0) (g.L.Leads.names l.fn.self.0) l.self.1;
}

abbrev pub decreases-search : goal.decreases-search
decreases-search g l = left_to_walk (g.L.Leads.leads l.fn.self.0) l.self.1

use Rattle.cc_model.specs.Slots.{contents}
use Rattle.cc_model.specs.Derivations.{with_edges}
use Rattle.cc_search.proofs.Turned.{IsEdging}
use Rattle.cc_search.proofs.search.Search.add_places.Given as goal

abbrev pub invariant-loop-i : goal.invariant-loop-i
invariant-loop-i g l = let places = (g.L.Leads.leads l.fn.self.0).places l.name in IsEdging l.fn.self.0 l.name places l.i (with_edges l.name (contents places) l.fn.self.1) l.self

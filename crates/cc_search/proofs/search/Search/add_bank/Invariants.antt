use Rattle.cc_model.specs.Derivations.{with_bank}
use Rattle.cc_search.specs.Banks.{reg_in, slots_in}
use Rattle.cc_search.proofs.Turned.{IsBanking}
use Rattle.cc_search.proofs.search.Search.add_bank.Given as goal

abbrev pub invariant-loop-r : goal.invariant-loop-r
invariant-loop-r g l = let slots = slots_in (g.L.Leads.leads l.fn.self.0) l.bank in IsBanking l.fn.self.0 (reg_in l.bank) slots l.r (with_bank (reg_in l.bank) 0 slots l.fn.self.1) l.self

use Rattle.std.proofs.Common.{◌≤◌, subst, arith}
use Rattle.cc_model.specs.Derivations.{with_bank}
use Rattle.cc_search.specs.Banks.{AreEmptyFrom, reg_in, slots_in}
use Rattle.cc_search.proofs.Turned.{banking-end}
use Rattle.cc_search.proofs.search.Search.add_bank.Goals as goal

pub returns : goal.returns
returns g c =
    let start = c.args.self.now.0 in
    let reg = reg_in c.args.bank in
    let slots = slots_in (g.L.Leads.leads start) c.args.bank in
    let used = c.used-r-end in
    let past : used.result ≤ c.loop-r.r = omega (arith, c.loop-r-test.false) in
    let empty : AreEmptyFrom slots used.result = subst (λ a. AreEmptyFrom (slots_in (g.L.Leads.leads a) c.args.bank) used.result) c.leads-leads.ensures.leads used.ensures.empty in
    banking-end start reg slots used.result c.loop-r.r (with_bank reg 0 slots c.args.self.now.1) c.loop-r.self empty past c.loop-r.invariant

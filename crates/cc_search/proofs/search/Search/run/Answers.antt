use Rattle.std.proofs.Common.{◌≡◌, sym, ◌∙◌, ap}
use Rattle.cc_model.specs.Derivations.{with_bank, with_object}
use Rattle.cc_search.specs.Banks.{reg_in}
use Rattle.cc_search.specs.declared.bank.Bank.TheVariants.{Scripts}
use Rattle.cc_search.proofs.Searched.{search-found, search-idle, searching-smaller, searching-starts, searching-turn}
use Rattle.cc_search.proofs.search.Search.run.Goals as goal

pub search-init : goal.search-init
search-init g c =
    let l = g.L.Leads in
    let s = c.args.self.now in
    let t = c.add_bank.new.self in
    let u = c.add_bank-2.new.self in
    let one = c.in_ok-add_bank.ensures in
    let two = c.in_ok-add_bank-2.ensures in
    record {
      same = ap (λ p. p.0) two ∙ ap (λ p. p.0) one;
      way = searching-starts (l.leads s.0) (l.names s.0) (g.met.L.Leads.within s.0 c.requires.ready) s.1 t.1 u.1 c.requires.nothing (ap (λ p. p.1) one)
          (ap (λ p. p.1) two ∙ ap (λ a. with_bank (reg_in Scripts) 0 (l.leads a).script_registers t.1) (ap (λ p. p.0) one));
    }

pub returns-in_default : goal.returns-in_default
returns-in_default g c =
    let l = g.L.Leads in
    let s = c.args.self.now in
    search-idle (l.leads s.0) (l.names s.0) (g.met.L.Leads.within s.0 c.requires.ready) c.args.sought c.search.self.1 c.next.new.self.1 c.in_default.ensures.none.1 c.search.invariant.way

pub search-smaller : goal.search-smaller
search-smaller g c =
    let l = g.L.Leads in
    let s = c.args.self.now in
    let w = c.search.self in
    let v = c.next.new.self in
    let u = c.add_object.new.self in
    let first = c.in-Some.ensures.next in
    let given : u.1 ≡ with_object (l.leads s.0) c.in-Some.name v.1 =
    ap (λ p. p.1) c.in_ok-add_object.ensures ∙ ap (λ a. with_object (l.leads a) c.in-Some.name v.1) (first.same ∙ c.search.invariant.same) in
    searching-smaller (l.leads s.0) (l.names s.0) (g.met.L.Leads.within s.0 c.requires.ready) w.1 v.1 u.1 first.place c.in-Some.name first.first given c.search.invariant.way

pub search-preserved : goal.search-preserved
search-preserved g c =
    let l = g.L.Leads in
    let s = c.args.self.now in
    let w = c.search.self in
    let v = c.next.new.self in
    let u = c.add_object.new.self in
    let first = c.in-Some.ensures.next in
    let still = first.same ∙ c.search.invariant.same in
    let given : u.1 ≡ with_object (l.leads s.0) c.in-Some.name v.1 = ap (λ p. p.1) c.in_ok-add_object.ensures ∙ ap (λ a. with_object (l.leads a) c.in-Some.name v.1) still in
    record {
      same = ap (λ p. p.0) c.in_ok-add_object.ensures ∙ still;
      way = searching-turn (l.leads s.0) (l.names s.0) (g.met.L.Leads.within s.0 c.requires.ready) w.1 v.1 u.1 first.place c.in-Some.name first.first given c.search.invariant.way;
    }

pub returns : goal.returns
returns g c =
    let l = g.L.Leads in
    let s = c.args.self.now in
    search-found (l.leads s.0) (l.names s.0) (g.met.L.Leads.within s.0 c.requires.ready) c.args.sought c.search.self.1 (sym c.has_sought.ensures ∙ c.search-test.false) c.search.invariant.way

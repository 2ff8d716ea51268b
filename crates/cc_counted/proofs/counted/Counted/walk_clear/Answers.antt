use Rattle.std.proofs.Common.{◌≡◌, [], ap, sym, subst, ◌∙◌}
use Rattle.cc_counted.specs.Counts.{Counts, unwalked}
use Rattle.cc_counted.specs.Lists.{counts_of}
use Rattle.cc_counted.specs.Owning.{Transfers}
use Rattle.cc_counted.specs.Resting.{IsAtRest}
use Rattle.cc_counted.specs.Stored.{Stored}
use Rattle.cc_counted.proofs.Owned.{owned-walked}
use Rattle.cc_counted.proofs.Walking.{placed-cleared, counts-cleared}
use Rattle.cc_counted.proofs.counted.Counted.walk_clear.Goals as goal

cleared : (c : goal.After-walk_clear) → counts_of c.walk_clear.new.self.lists ≡ unwalked (counts_of c.self.inside.natives.lists)
cleared c = ap (λ (s : Stored). counts_of s.lists) c.walk_clear.ensures ∙ counts-cleared c.self.inside.natives.lists

pub returns-clause-walks : goal.returns-clause-walks
returns-clause-walks c = subst (λ (v : Counts). counts_of c.walk_clear.new.self.lists ≡ unwalked v) c.self.view_is (cleared c)

pub returns-clause-owned : goal.returns-clause-owned
returns-clause-owned c =
    subst (λ (v : Counts). Transfers [] [] v (counts_of c.walk_clear.new.self.lists)) c.self.view_is
    (subst (Transfers [] [] (counts_of c.self.inside.natives.lists)) (sym (cleared c)) (owned-walked (counts_of c.self.inside.natives.lists) _))

pub invariant_of-self : goal.invariant_of-self
invariant_of-self c = subst IsAtRest (sym c.walk_clear.ensures)
    (record { placed = placed-cleared c.self.inside.natives.lists c.self.invariant.placed; emptied = c.self.invariant.emptied })

use Rattle.std.proofs.Common.{◌≡◌, [], true, ap, sym, subst, is_some, MatchOption}
use Rattle.cc_names.specs.declared.kind.Walked.TheVariants.{Waiting, Given}
use Rattle.cc_counted.specs.Counts.{Counts, number_at, state_of, with_state_of, NoneWaits}
use Rattle.cc_counted.specs.Lists.{counts_of}
use Rattle.cc_counted.specs.Owning.{Transfers}
use Rattle.cc_counted.specs.Resting.{IsAtRest}
use Rattle.cc_counted.specs.Stored.{Stored}
use Rattle.cc_counted.proofs.Owned.{owned-walked}
use Rattle.cc_counted.proofs.Walking.{placed-gone_on, walked-next}
use Rattle.cc_counted.proofs.counted.Counted.walk_next.Goals as goal

pub returns-clause-next : goal.returns-clause-next
returns-clause-next c =
    subst (λ (v : Counts). MatchOption c.walk_next.result (NoneWaits v.walks × (counts_of c.walk_next.new.self.lists ≡ v))
    (λ key. (state_of v key.0 ≡ Waiting) × (counts_of c.walk_next.new.self.lists ≡ with_state_of v key.0 Given) × (is_some (number_at v key.0) ≡ true))) c.self.view_is
    (walked-next c.self.inside.natives.lists c.self.invariant.placed c.walk_next.result c.walk_next.ensures.first c.walk_next.ensures.new
    c.walk_next.new.self.lists (ap (λ (s : Stored). s.lists) c.walk_next.ensures.lists))

pub returns-clause-owned : goal.returns-clause-owned
returns-clause-owned c =
    subst (λ (v : Counts). Transfers [] [] v (counts_of c.walk_next.new.self.lists)) c.self.view_is
    (subst (Transfers [] [] (counts_of c.self.inside.natives.lists)) (sym (ap (λ (s : Stored). counts_of s.lists) c.walk_next.ensures.lists))
    (owned-walked (counts_of c.self.inside.natives.lists) _))

pub invariant_of-self : goal.invariant_of-self
invariant_of-self c = subst IsAtRest (sym c.walk_next.ensures.lists)
    (record { placed = placed-gone_on c.self.inside.natives.lists c.self.invariant.placed; emptied = c.self.invariant.emptied })

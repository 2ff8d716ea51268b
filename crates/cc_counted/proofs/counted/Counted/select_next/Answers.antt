use Rattle.cc_counted.proofs.Owned.{owned-selected}
use Rattle.cc_counted.specs.Owning.{Transfers}
use Rattle.std.proofs.Common.{◌≡◌, [], ◌∷◌, MatchOption, is_some, true, ap, subst, ◌∙◌}
use Rattle.cc_counted.specs.Counts.{Counts, number_at, the_number}
use Rattle.cc_counted.specs.Lists.{Lists, counts_of}
use Rattle.cc_counted.specs.Stored.{Stored}
use Rattle.cc_counted.proofs.Buffering.{placed-front, selected}
use Rattle.cc_counted.proofs.counted.Counted.select_next.Goals as goal
use Rattle.cc_model.specs.Heap.{buffered_as}

pub returns-clause-front : goal.returns-clause-front
returns-clause-front c =
    let new = c.select_next.new.self.lists in
    subst (λ (v : Counts). MatchOption c.select_next.result ((v.buffer ≡ []) × (counts_of new ≡ v))
    (λ front. (v.buffer ≡ buffered_as (the_number v front.0.0) front.1 ∷ (counts_of new).buffer)
    × (counts_of new ≡ record v { buffer = (counts_of new).buffer }) × (is_some (number_at v front.0.0) ≡ true))) c.self.view_is
    (selected c.self.inside.natives.lists new c.self.invariant.placed c.select_next.result c.select_next.ensures.front (ap (λ (s : Stored). s.lists) c.select_next.ensures.lists))

pub returns-clause-owned : goal.returns-clause-owned
returns-clause-owned c =
    let new = c.select_next.new.self.lists in
    subst (λ (v : Counts). Transfers [] [] v (counts_of new)) c.self.view_is
    (owned-selected (counts_of c.self.inside.natives.lists) (counts_of new) c.select_next.result
    (selected c.self.inside.natives.lists new c.self.invariant.placed c.select_next.result c.select_next.ensures.front (ap (λ (s : Stored). s.lists) c.select_next.ensures.lists)))

pub invariant_of-self : goal.invariant_of-self
invariant_of-self c =
    let lists = ap (λ (s : Stored). s.lists) c.select_next.ensures.lists in
    record {
      placed = placed-front c.self.inside.natives.lists c.select_next.new.self.lists c.self.invariant.placed lists;
      emptied = ap (λ (l : Lists). l.queue) lists ∙ c.self.invariant.emptied;
    }

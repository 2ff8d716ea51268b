use Rattle.std.proofs.Common.{◌≡◌, [], true, Some, ap, sym, subst, ◌∙◌, is_some}
use Rattle.cc_model.specs.Heap.{suspect}
use Rattle.cc_counted.specs.Counts.{Counts, heap_of, number_at, the_number, with_heap}
use Rattle.cc_counted.specs.Lists.{Placed, cell_at, counts_of}
use Rattle.cc_counted.specs.Owning.{Transfers}
use Rattle.cc_counted.specs.Resting.{IsAtRest}
use Rattle.cc_counted.specs.Stored.{Stored}
use Rattle.cc_counted.proofs.Adding.{counts-marked, placed-marked}
use Rattle.cc_counted.proofs.Owned.{owned-marked}
use Rattle.cc_counted.proofs.Reading.{live-found}
use Rattle.cc_counted.proofs.counted.Counted.give_back.Goals as goal

found : (c : goal.After-suspect) → (p : Placed) × (cell_at c.self.inside.natives.lists.cells c.args.key.0 ≡ Some p)
found c = live-found c.self.inside.natives.lists c.args.key.0 (subst (λ (v : Counts). is_some (number_at v c.args.key.0) ≡ true) (sym c.self.view_is) c.requires.live)

marked : (c : goal.After-suspect) → counts_of c.suspect.new.self.lists ≡ with_heap (counts_of c.self.inside.natives.lists) (suspect (heap_of (counts_of c.self.inside.natives.lists)) (the_number (counts_of c.self.inside.natives.lists) c.args.key.0))
marked c = ap (λ (s : Stored). counts_of s.lists) c.suspect.ensures ∙ counts-marked c.self.inside.natives.lists c.self.invariant.placed c.args.key.0 (found c).0 (found c).1 true

pub returns-clause-heap : goal.returns-clause-heap
returns-clause-heap c = subst (λ (v : Counts). counts_of c.suspect.new.self.lists ≡ with_heap v (suspect (heap_of v) (the_number v c.args.key.0))) c.self.view_is (marked c)

pub returns-clause-owned : goal.returns-clause-owned
returns-clause-owned c =
    subst (λ (v : Counts). Transfers [] [] v (counts_of c.suspect.new.self.lists)) c.self.view_is
    (subst (Transfers [] [] (counts_of c.self.inside.natives.lists)) (sym (marked c)) (owned-marked c.self.inside.natives.lists c.self.invariant.placed c.args.key.0 (found c) true))

pub invariant_of-self : goal.invariant_of-self
invariant_of-self c = subst IsAtRest (sym c.suspect.ensures)
    (record {
      placed = placed-marked c.self.inside.natives.lists c.self.invariant.placed c.args.key.0 (found c).0 (found c).1 true;
      emptied = c.self.invariant.emptied;
    })

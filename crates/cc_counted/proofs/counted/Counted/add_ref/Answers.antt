use Rattle.std.proofs.Common.{◌≡◌, ◌<◌, ℕ, [], ◌∷◌, Some, false, ap, sym, subst, ◌∙◌, option_map, arith}
use Rattle.std.proofs.Math.ListN.{set}
use Rattle.cc_model.specs.Cascade.{add_ref}
use Rattle.cc_purple.specs.Marks.{with_mark}
use Rattle.cc_counted.specs.Counts.{Counts, count_of, heap_of, the_number, with_heap}
use Rattle.cc_counted.specs.Lists.{Placed, Lists, cell_at, count_placed, with_one_more, counts_of}
use Rattle.cc_counted.specs.Owning.{Transfers}
use Rattle.cc_counted.specs.Stored.{Stored, with_marks}
use Rattle.cc_counted.specs.Resting.{IsAtRest}
use Rattle.cc_counted.proofs.Reading.{live-found, count_of-cell}
use Rattle.cc_counted.proofs.Adding.{counts-added, placed-added}
use Rattle.cc_counted.proofs.Owned.{owned-add_ref}
use Rattle.cc_counted.proofs.counted.Counted.add_ref.Goals as goal

-- the cells with one more reference
raised : (l : Lists) (key : ℕ) (c : Placed) → cell_at l.cells key ≡ Some c → set l.cells key (option_map with_one_more (cell_at l.cells key)) ≡ set l.cells key (Some (with_one_more c))
raised l key c at = ap (λ o. set l.cells key (option_map with_one_more o)) at

pub raise-requires-clause-below : goal.raise-requires-clause-below
raise-requires-clause-below c =
    let l = c.self.inside.natives.lists in
    let f = live-found l c.args.key.0 (rw (← c.self.view_is) at c.requires.live) in
    let below : count_of (counts_of l) c.args.key.0 < 4294967295 = rw (← c.self.view_is) at c.requires.below in
    omega (arith, below, count_of-cell l c.self.invariant.placed c.args.key.0 f.0 f.1, ap count_placed f.1)

found : (c : goal.After-touch) → (p : Placed) × (cell_at c.self.inside.natives.lists.cells c.args.key.0 ≡ Some p)
found c = live-found c.self.inside.natives.lists c.args.key.0 (rw (← c.self.view_is) at c.requires.live)

added : (c : goal.After-touch) → counts_of c.touch.new.self.lists ≡ with_heap (counts_of c.self.inside.natives.lists) (add_ref (heap_of (counts_of c.self.inside.natives.lists)) (the_number (counts_of c.self.inside.natives.lists) c.args.key.0))
added c = ap (λ (s : Stored). counts_of s.lists) (c.touch.ensures ∙ ap (with_marks (with_mark false c.args.key.0)) c.raise.ensures)
    ∙ counts-added c.self.inside.natives.lists c.self.invariant.placed c.args.key.0 (found c).0 (found c).1 _ (raised c.self.inside.natives.lists c.args.key.0 (found c).0 (found c).1)

pub returns-clause-heap : goal.returns-clause-heap
returns-clause-heap c = subst (λ (v : Counts). counts_of c.touch.new.self.lists ≡ with_heap v (add_ref (heap_of v) (the_number v c.args.key.0))) c.self.view_is (added c)

pub returns-clause-owned : goal.returns-clause-owned
returns-clause-owned c =
    let l = c.self.inside.natives.lists in
    subst (λ (v : Counts). Transfers [] (the_number v c.args.key.0 ∷ []) v (counts_of c.touch.new.self.lists)) c.self.view_is
    (subst (Transfers [] (the_number (counts_of l) c.args.key.0 ∷ []) (counts_of l)) (sym (added c)) (owned-add_ref l c.self.invariant.placed c.args.key.0 (found c)))

pub invariant_of-self : goal.invariant_of-self
invariant_of-self c =
    let l = c.self.inside.natives.lists in
    subst IsAtRest (sym (c.touch.ensures ∙ ap (with_marks (with_mark false c.args.key.0)) c.raise.ensures))
    (record {
      placed = placed-added l c.self.invariant.placed c.args.key.0 (found c).0 (found c).1 _ (raised l c.args.key.0 (found c).0 (found c).1);
      emptied = c.self.invariant.emptied;
    })

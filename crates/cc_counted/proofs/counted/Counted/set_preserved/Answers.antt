use Rattle.std.proofs.Common.{◌≡◌, [], Some, refl, sym, subst, ap, ◌∙◌}
use Rattle.cc_model.specs.Heap.{set_preserved}
use Rattle.cc_counted.specs.Counts.{Counts, heap_of, the_number, with_heap}
use Rattle.cc_counted.specs.Lists.{Placed, cell_at, with_flag, counts_of}
use Rattle.cc_counted.specs.Owning.{Transfers}
use Rattle.cc_counted.specs.Stored.{Stored}
use Rattle.cc_counted.specs.Resting.{IsAtRest}
use Rattle.cc_counted.proofs.Reading.{live-found}
use Rattle.cc_counted.proofs.Reflecting.{flagged, flags-preserved, counts-flagged, placed-flagged}
use Rattle.cc_counted.proofs.Owned.{owned-flagged}
use Rattle.cc_counted.proofs.counted.Counted.set_preserved.Goals as goal

found : (c : goal.After-preserve) → (p : Placed) × (cell_at c.self.inside.natives.lists.cells c.args.key.0 ≡ Some p)
found c = live-found c.self.inside.natives.lists c.args.key.0 (rw (← c.self.view_is) at c.requires.live)

written : (c : goal.After-preserve) → counts_of c.preserve.new.self.lists ≡ with_heap (counts_of c.self.inside.natives.lists)
    (set_preserved (heap_of (counts_of c.self.inside.natives.lists)) (the_number (counts_of c.self.inside.natives.lists) c.args.key.0) c.args.on)
written c =
    ap (λ (s : Stored). counts_of s.lists) c.preserve.ensures
    ∙ counts-flagged c.self.inside.natives.lists c.self.invariant.placed c.args.key.0 (found c).0 (found c).1
    (with_flag c.args.on) (flagged c.args.on) (flags-preserved c.args.on) _ refl

pub returns-clause-heap : goal.returns-clause-heap
returns-clause-heap c =
    subst (λ (v : Counts). counts_of c.preserve.new.self.lists ≡ with_heap v (set_preserved (heap_of v) (the_number v c.args.key.0) c.args.on)) c.self.view_is (written c)

pub returns-clause-owned : goal.returns-clause-owned
returns-clause-owned c =
    subst (λ (v : Counts). Transfers [] [] v (counts_of c.preserve.new.self.lists)) c.self.view_is
    (subst (Transfers [] [] (counts_of c.self.inside.natives.lists)) (sym (written c))
    (owned-flagged (with_flag c.args.on) (flagged c.args.on) (flags-preserved c.args.on) (counts_of c.self.inside.natives.lists)
    (the_number (counts_of c.self.inside.natives.lists) c.args.key.0)))

pub invariant_of-self : goal.invariant_of-self
invariant_of-self c = subst IsAtRest (sym c.preserve.ensures)
    (record {
      placed = placed-flagged c.self.inside.natives.lists c.self.invariant.placed c.args.key.0 (found c).0 (found c).1
          (with_flag c.args.on) (flagged c.args.on) (flags-preserved c.args.on) _ refl;
      emptied = c.self.invariant.emptied;
    })

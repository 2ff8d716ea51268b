use Rattle.std.proofs.Common.{◌≡◌, [], true, Some, ap, sym, subst, ◌∙◌, is_some}
use Rattle.cc_walk.specs.Walks.{entered}
use Rattle.cc_counted.specs.Counts.{Counts, number_at, state_of, with_state_of}
use Rattle.cc_counted.specs.Lists.{Placed, cell_at, counts_of}
use Rattle.cc_counted.specs.Owning.{Transfers}
use Rattle.cc_counted.specs.Resting.{IsAtRest}
use Rattle.cc_counted.specs.Stored.{Stored}
use Rattle.cc_counted.proofs.Owned.{owned-walked}
use Rattle.cc_counted.proofs.Reading.{live-found}
use Rattle.cc_counted.proofs.Walking.{placed-entered, counts-entered, state-entered}
use Rattle.cc_counted.proofs.counted.Counted.walk_add.Goals as goal

found : (c : goal.After-walk_add) → (p : Placed) × (cell_at c.self.inside.natives.lists.cells c.args.key.0 ≡ Some p)
found c = live-found c.self.inside.natives.lists c.args.key.0 (subst (λ (v : Counts). is_some (number_at v c.args.key.0) ≡ true) (sym c.self.view_is) c.requires.live)

came : (c : goal.After-walk_add) → counts_of c.walk_add.new.self.lists ≡
    with_state_of (counts_of c.self.inside.natives.lists) c.args.key.0 (entered (state_of (counts_of c.self.inside.natives.lists) c.args.key.0))
came c = ap (λ (s : Stored). counts_of s.lists) c.walk_add.ensures ∙ counts-entered c.self.inside.natives.lists c.self.invariant.placed c.args.key.0 (found c).0 (found c).1

pub returns-clause-walks : goal.returns-clause-walks
returns-clause-walks c = subst (λ (v : Counts). counts_of c.walk_add.new.self.lists ≡ with_state_of v c.args.key.0 (entered (state_of v c.args.key.0))) c.self.view_is (came c)

pub returns-clause-came : goal.returns-clause-came
returns-clause-came c =
    let l = c.self.inside.natives.lists in
    subst (λ (v : Counts). state_of (counts_of c.walk_add.new.self.lists) c.args.key.0 ≡ entered (state_of v c.args.key.0)) c.self.view_is
    (ap (λ (s : Stored). state_of (counts_of s.lists) c.args.key.0) c.walk_add.ensures ∙ state-entered l c.self.invariant.placed c.args.key.0 (found c).0 (found c).1)

pub returns-clause-owned : goal.returns-clause-owned
returns-clause-owned c =
    subst (λ (v : Counts). Transfers [] [] v (counts_of c.walk_add.new.self.lists)) c.self.view_is
    (subst (Transfers [] [] (counts_of c.self.inside.natives.lists)) (sym (came c)) (owned-walked (counts_of c.self.inside.natives.lists) _))

pub invariant_of-self : goal.invariant_of-self
invariant_of-self c = subst IsAtRest (sym c.walk_add.ensures)
    (record {
      placed = placed-entered c.self.inside.natives.lists c.self.invariant.placed c.args.key.0 (found c).0 (found c).1;
      emptied = c.self.invariant.emptied;
    })

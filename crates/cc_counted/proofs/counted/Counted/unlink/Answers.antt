use Rattle.cc_counted.specs.Owning.{AreOwned, CallersOwn}
use Rattle.std.proofs.Common.{◌≡◌, ◌≤◌, [], ◌∷◌, length, Some, is_some, refl, ap, arith, sym, subst, ◌∙◌}
use Rattle.cc_names.specs.Names.{native}
use Rattle.cc_names.specs.Sizes.{most_slots}
use Rattle.cc_model.specs.declared.item.Event.TheVariants.{Unlinked}
use Rattle.cc_model.specs.declared.item.Item.TheVariants.{Event as of_event}
use Rattle.cc_model.specs.Telling.{Tells, TellsEvents}
use Rattle.cc_model.specs.Heap.{Outcome, as_unlinked}
use Rattle.cc_model.proofs.Tellings.{TellsEvents-trans}
use Rattle.cc_laws_heap.specs.Balance.{IsBalanced}
use Rattle.cc_counted.specs.Counts.{Counts, the_number}
use Rattle.cc_counted.specs.Stored.{Stored}
use Rattle.cc_counted.specs.Resting.{IsAtRest}
use Rattle.cc_counted.proofs.Reflecting.{flags-unlinked, counts-flagged, placed-flagged}
use Rattle.cc_counted.proofs.Owned.{owned-flagged}
use Rattle.cc_counted.specs.Lists.{Placed, placed_unlinked, counts_of, draining_of}
use Rattle.cc_counted.proofs.Places.{the_number-cell}
use Rattle.cc_counted.proofs.Balanced.{IsBalanced-owned}
use Rattle.cc_counted.proofs.Unlinking.{unlinked-key, counts-unlinked}
use Rattle.cc_counted.proofs.Balanced.{owned-lists}
use Rattle.cc_counted.proofs.counted.Counted.unlink.Goals as goal

pub overflow_cast-slots : goal.overflow_cast-slots
overflow_cast-slots g c =
    let few : length c.at-cell.result.now.slots ≤ most_slots = c.self.invariant.placed.small c.args.key.0 c.at-cell.result.now c.at-cell.ensures in
    omega (arith, c.len-slots.ensures, ap (λ (p : Placed). length p.slots) c.cell.view_is)

pub empty_each-requires-clause-owned : goal.empty_each-requires-clause-owned
empty_each-requires-clause-owned g c =
    let l = c.self.inside.natives.lists in
    let own = subst (λ (v : Counts). CallersOwn (the_number v c.args.key.0 ∷ []) v) (sym c.self.view_is) c.requires.owned in (
      own.0,
      c.at-cell.result.now,
      c.at-cell.ensures,
      subst (λ k. IsBalanced (k ∷ own.0) (draining_of l [])) (the_number-cell l.cells c.args.key.0 c.at-cell.result.now c.at-cell.ensures)
          (IsBalanced-owned l c.self.invariant.placed c.self.invariant.emptied _ own.1),
    )

pub set_unlinked-requires : goal.set_unlinked-requires
set_unlinked-requires g c = ap is_some c.empty_each.ensures.empties.there

pub returns-clause-heap : goal.returns-clause-heap
returns-clause-heap g c =
    let mid = c.empty_each.new.self.lists in
    let e = c.empty_each.ensures.empties in
    rw (← c.self.view_is) (ap (λ (s : Stored). counts_of s.lists) c.set_unlinked.ensures
    ∙ (counts-flagged mid c.empty_each.ensures.at_rest.placed c.args.key.0 e.cell e.there placed_unlinked as_unlinked flags-unlinked _ refl
    ∙ counts-unlinked c.self.inside.natives.lists mid c.args.key.0 (g.N.Notices.telling c.tell.new.self) (g.N.Notices.telling c.empty_each.new.out)
    c.self.invariant.placed e))

pub invariant_of-self : goal.invariant_of-self
invariant_of-self g c =
    let e = c.empty_each.ensures.empties in
    subst IsAtRest (sym c.set_unlinked.ensures)
    (record {
      placed = placed-flagged c.empty_each.new.self.lists c.empty_each.ensures.at_rest.placed c.args.key.0 e.cell e.there placed_unlinked as_unlinked flags-unlinked _ refl;
      emptied = c.empty_each.ensures.at_rest.emptied;
    })

pub returns-clause-told : goal.returns-clause-told
returns-clause-told g c =
    let e = c.empty_each.ensures.empties in
    let before = g.N.Notices.telling c.args.out.now in
    let middle = g.N.Notices.telling c.tell.new.self in
    let after = g.N.Notices.telling c.empty_each.new.out in
    let same : Some c.at-cell.result.now ≡ Some e.was = sym c.at-cell.ensures ∙ e.was_there in
    let cell : c.at-cell.result.now ≡ e.was = cc in
    let first : Tells before middle (of_event (Unlinked (native e.was.number)) ∷ []) =
    subst (λ (p : Placed). Tells before middle (of_event (Unlinked (native p.number)) ∷ [])) (c.cell.view_is ∙ cell) c.tell.ensures in
    rw (← c.self.view_is) (subst (λ (o : Outcome). TellsEvents before after o.events)
    (sym (unlinked-key c.self.inside.natives.lists c.empty_each.new.self.lists c.args.key.0 middle after c.self.invariant.placed e))
    (TellsEvents-trans before middle after (Unlinked (native e.was.number) ∷ []) e.events first e.told))

pub returns-clause-owned : goal.returns-clause-owned
returns-clause-owned g c others o =
    let l = c.self.inside.natives.lists in
    let mid = c.empty_each.new.self.lists in
    let e = c.empty_each.ensures.empties in
    let number = the_number-cell l.cells c.args.key.0 e.was e.was_there in
    let was = subst (λ (v : Counts). AreOwned (the_number v c.args.key.0 ∷ others) v) (sym c.self.view_is) o in
    subst (λ (v : Counts). AreOwned (the_number v c.args.key.0 ∷ others) (counts_of c.set_unlinked.new.self.lists)) c.self.view_is
    (subst (AreOwned (the_number (counts_of l) c.args.key.0 ∷ others))
    (sym (ap (λ (s : Stored). counts_of s.lists) c.set_unlinked.ensures ∙ counts-flagged mid c.empty_each.ensures.at_rest.placed c.args.key.0 e.cell e.there placed_unlinked as_unlinked flags-unlinked _ refl))
    (owned-flagged placed_unlinked as_unlinked flags-unlinked (counts_of mid) (the_number (counts_of mid) c.args.key.0) (the_number (counts_of l) c.args.key.0 ∷ others)
    (subst (λ k. AreOwned (k ∷ others) (counts_of mid)) (sym number)
    (owned-lists mid c.empty_each.ensures.at_rest.emptied (e.was.number ∷ others)
    (e.balanced others
    (IsBalanced-owned l c.self.invariant.placed c.self.invariant.emptied (e.was.number ∷ others)
    (subst (λ k. AreOwned (k ∷ others) (counts_of l)) number was)))))))

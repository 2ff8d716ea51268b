-- A NATIVE UNLINKED: its slots emptied one after another; what is left to empty leads where all of it does.
use Rattle.std.proofs.Common.{◌≡◌, ◌<◌, ◌≤◌, ◌+◌, ℕ, suc, List, [], ◌∷◌, ◌++◌, length, drop, drop-cons, get_or, Option, Some, None, true, refl, sym, ◌∙◌, ap, subst, arith, add-one}
use Rattle.std.proofs.Math.ListN.{set}
use Rattle.std.proofs.lemmas.List.{length-set, drop_all, drop-set-lt}
use Rattle.std.proofs.lemmas.List.Elements.{Contains-get_or}
use Rattle.cc_lists.specs.Members.{Among}
use Rattle.cc_lists.proofs.Members.{Among-contains}
use Rattle.cc_names.specs.Names.{native}
use Rattle.cc_model.specs.declared.item.Event.{Event}
use Rattle.cc_model.specs.declared.item.Event.TheVariants.{Unlinked}
use Rattle.cc_model.specs.Telling.{Telling, TellsEvents}
use Rattle.cc_model.specs.Heap.{Heap, Outcome, silently, after as told_before, as_unlinked, set_unlinked, outcome_of}
use Rattle.cc_model.specs.End.{empty_slot, empty_each, unlink}
use Rattle.cc_model.proofs.Tellings.{TellsEvents-trans}
use Rattle.cc_laws_heap.specs.Balance.{IsBalanced}
use Rattle.cc_counted.specs.declared.held.Held.{Held}
use Rattle.cc_counted.specs.Counts.{Counts, the_number, name_of, is_live, heap_of, with_heap, left_with}
use Rattle.cc_counted.specs.Lists.{Placed, Lists, cell_at, placed_unlinked, keyed, names_in, counts_of, draining_of, IsPlaced, LeavesKeys}
use Rattle.cc_counted.specs.Steps.{EmptiesSlot, EmptiesEach}
use Rattle.cc_counted.proofs.Places.{the_number-cell, native_at-cell}
use Rattle.cc_counted.proofs.Holding.{held-same}
use Rattle.cc_counted.proofs.Each.{live-cell}
use Rattle.cc_counted.proofs.Places.{number_at-cell}
use Rattle.cc_counted.proofs.Leaving.{LeavesKeys-then, counts-left}
use Rattle.cc_counted.proofs.Reflecting.{flags-unlinked, left-flagged}

-- slots from the i-th on are left to empty
pub record EmptiesSoFar (start now : Lists) (key i : ℕ) (before after : Telling) : Type 0 where
  pub was : Placed
  pub was_there : cell_at start.cells key ≡ Some was
  pub cell : Placed
  pub there : cell_at now.cells key ≡ Some cell
  pub number : cell.number ≡ was.number
  pub long : length cell.slots ≡ length was.slots
  pub later : drop i cell.slots ≡ drop i was.slots
  pub placed : IsPlaced now
  pub leaves : LeavesKeys start now
  pub balanced : (others : List ℕ) × IsBalanced (was.number ∷ others) (draining_of now [])
  pub keeps : (others : List ℕ) → IsBalanced (was.number ∷ others) (draining_of start []) → IsBalanced (was.number ∷ others) (draining_of now [])
  pub events : List Event
  pub rest : empty_each was.number i (names_in (keyed start.cells) (drop i was.slots)) (outcome_of (heap_of (counts_of now)) events)
      ≡ empty_each was.number 0 (names_in (keyed start.cells) was.slots) (silently (heap_of (counts_of start)))
  pub told : TellsEvents before after events

pub EmptiesSoFar-done : (start now : Lists) (key i : ℕ) (before after : Telling) (s : EmptiesSoFar start now key i before after) → length s.was.slots ≤ i → EmptiesEach start now key before after
EmptiesSoFar-done start now key i before after s past = grind (arith, drop_all)

-- what was held where natives left, and is still there, has the same name
name-kept : (a b : Lists) → LeavesKeys a b → (x : Option Held) → is_live (keyed b.cells) x ≡ true → name_of (keyed b.cells) x ≡ name_of (keyed a.cells) x
name-kept a b left x live = grind (arith, held-same, live-cell, number_at-cell, left.each)

-- lists that begin alike have the same rest
same-tail : (x y : Option Held) (xs ys : List (Option Held)) → x ∷ xs ≡ y ∷ ys → (x ≡ y) × (xs ≡ ys)
same-tail x y xs ys e = (cc, cc)

module _ (start now next : Lists) (key i : ℕ) (before middle after : Telling) (s : EmptiesSoFar start now key i before middle) (within : i < length s.was.slots)
    (f : EmptiesSlot now next key i middle after) where
  abbrev number : ℕ
  number = s.was.number

  -- what was in the slot from the start
  abbrev content : Option Held
  content = get_or s.was.slots i None

  abbrev names : ℕ → List (Option Rattle.cc_names.specs.declared.name.Name.Name)
  names n = names_in (keyed start.cells) (drop n s.was.slots)

  same-cell : f.was ≡ s.cell
  same-cell = let both : Some f.was ≡ Some s.cell = sym f.was_there ∙ s.there in cc

  dropped : (xs : List (Option Held)) → i < length xs → drop i xs ≡ get_or xs i None ∷ drop (i + 1) xs
  dropped xs l = rw (drop-cons xs i None, add-one) refl

  parts : (get_or s.cell.slots i None ≡ content) × (drop (i + 1) s.cell.slots ≡ drop (i + 1) s.was.slots)
  parts = grind (arith, same-tail, dropped)

  live-content : is_live (keyed now.cells) content ≡ true
  live-content =
      s.placed.held key s.cell content s.there
      (subst (λ x. Among x s.cell.slots) parts.0
      (Among-contains (get_or s.cell.slots i None) s.cell.slots (Contains-get_or s.cell.slots i None (omega (arith, s.long)))))

  step : empty_slot (heap_of (counts_of now)) number i (name_of (keyed start.cells) content) ≡ outcome_of (heap_of (counts_of next)) f.events
  step =
      let at_number : f.was.number ≡ number = ap (λ (c : Placed). c.number) same-cell ∙ s.number in
      let at_content : get_or f.was.slots i None ≡ content = ap (λ (c : Placed). get_or c.slots i None) same-cell ∙ parts.0 in
      ap (empty_slot (heap_of (counts_of now)) number i) (sym (name-kept start now s.leaves content live-content))
      ∙ (ap (λ x. empty_slot (heap_of (counts_of now)) number i (name_of (keyed now.cells) x)) (sym at_content)
      ∙ (ap (λ k. empty_slot (heap_of (counts_of now)) k i (name_of (keyed now.cells) (get_or f.was.slots i None))) (sym at_number)
      ∙ f.outcome))

  slots-after : f.cell.slots ≡ set s.cell.slots i None
  slots-after = ap (λ (c : Placed). c.slots) f.same ∙ ap (λ (c : Placed). set c.slots i None) same-cell

  keeps_balance : (others : List ℕ) → IsBalanced (number ∷ others) (draining_of now []) → IsBalanced (number ∷ others) (draining_of next [])
  keeps_balance others b =
      let at_number : f.was.number ≡ number = ap (λ (c : Placed). c.number) same-cell ∙ s.number in
      subst (λ k. IsBalanced (k ∷ others) (draining_of next [])) at_number
      (f.balanced others (subst (λ k. IsBalanced (k ∷ others) (draining_of now [])) (sym at_number) b))

  pub EmptiesSoFar-more : EmptiesSoFar start next key (i + 1) before after
  EmptiesSoFar-more = record {
    was = s.was;
    was_there = s.was_there;
    cell = f.cell;
    there = f.there;
    number = ap (λ (c : Placed). c.number) f.same ∙ (ap (λ (c : Placed). c.number) same-cell ∙ s.number);
    long = ap length slots-after ∙ (length-set s.cell.slots i None ∙ s.long);
    later = ap (drop (i + 1)) slots-after ∙ (drop-set-lt (i + 1) s.cell.slots i None (omega arith) ∙ parts.1);
    placed = f.placed;
    leaves = LeavesKeys-then start now next s.leaves f.leaves;
    balanced = (s.balanced.0, keeps_balance s.balanced.0 s.balanced.1);
    keeps = λ others b. keeps_balance others (s.keeps others b);
    events = s.events ++ f.events;
    rest =
        ap (λ n. empty_each number n (names (i + 1)) (outcome_of (heap_of (counts_of next)) (s.events ++ f.events))) (add-one i)
        ∙ (ap (λ o. empty_each number (suc i) (names (i + 1)) (told_before s.events o)) (sym step)
        ∙ (ap (λ xs. empty_each number i (names_in (keyed start.cells) xs) (outcome_of (heap_of (counts_of now)) s.events)) (sym (dropped s.was.slots within))
        ∙ s.rest));
    told = TellsEvents-trans before middle after s.events f.events s.told f.told;
  }

-- THE NATIVE IS UNLINKED once its slots are empty, its reflector is preserved no longer, and it is known as unlinked.
unlinked : (old mid : Lists) (key : ℕ) (before after : Telling) → IsPlaced old → (e : EmptiesEach old mid key before after) →
    unlink (heap_of (counts_of old)) e.was.number ≡ outcome_of (set_unlinked (heap_of (counts_of mid)) e.was.number) (Unlinked (native e.was.number) ∷ e.events)
unfolding unlink
unlinked old mid key before after p e = grind (arith, native_at-cell)

module _ (old mid : Lists) (key : ℕ) (before after : Telling) (p : IsPlaced old) (e : EmptiesEach old mid key before after) where
  -- so it is by the number at its key
  pub unlinked-key : unlink (heap_of (counts_of old)) (the_number (counts_of old) key) ≡
      outcome_of (set_unlinked (heap_of (counts_of mid)) e.was.number) (Unlinked (native e.was.number) ∷ e.events)
  unlinked-key = ap (unlink (heap_of (counts_of old))) (the_number-cell old.cells key e.was e.was_there) ∙ unlinked old mid key before after p e

  -- WHAT IS LEFT then
  pub counts-unlinked : with_heap (counts_of mid) (set_unlinked (heap_of (counts_of mid)) (the_number (counts_of mid) key)) ≡
      left_with (counts_of old) (unlink (heap_of (counts_of old)) (the_number (counts_of old) key)).heap
  counts-unlinked =
      let h : Heap = heap_of (counts_of mid) in
      ap (λ k. with_heap (counts_of mid) (set_unlinked h k)) (the_number-cell mid.cells key e.cell e.there ∙ e.number)
      ∙ (ap (λ (c : Counts). with_heap c (set_unlinked h e.was.number)) (counts-left old mid p e.placed e.leaves)
      ∙ (left-flagged placed_unlinked as_unlinked flags-unlinked (counts_of old) h e.was.number
      ∙ ap (λ (o : Outcome). left_with (counts_of old) o.heap) (sym unlinked-key)))

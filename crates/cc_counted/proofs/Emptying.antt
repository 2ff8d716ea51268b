-- ONE SLOT EMPTIED: its reference is in hand then, and is given up; a native that is owned stays.
use Rattle.std.proofs.Common.{◌≡◌, ◌<◌, ℕ, List, [], ◌∷◌, ◌++◌, map, length, get_or, Option, Some, None, option_map, true, refl, sym, ◌∙◌, ap, subst, ⊎_elim, arith}
use Rattle.std.proofs.Math.ListN.{set}
use Rattle.std.proofs.lemmas.List.{length-set}
use Rattle.cc_names.specs.Names.{native}
use Rattle.cc_model.specs.Telling.{Telling}
use Rattle.cc_model.specs.Heap.{Heap, HeapNative, silently, change_native, with_native_slot, outcome_of}
use Rattle.cc_model.specs.Cascade.{Draining, give_up, drain, at_rest, drained, cascade, draining_at}
use Rattle.cc_model.specs.End.{empty_slot}
use Rattle.cc_model.proofs.Tellings.{Tells-nil}
use Rattle.cc_laws_heap.proofs.Face.{count_at-found, drained-balanced, native_at-number, native_at-there, times-cons_same}
use Rattle.cc_laws_heap.specs.Balance.{IsBalanced}
use Rattle.cc_counted.specs.declared.held.Held.{Held}
use Rattle.cc_counted.specs.declared.held.Held.TheVariants as held
use Rattle.cc_counted.specs.Counts.{the_number, name_of, is_live, numbers_held, native_held, heap_of}
use Rattle.cc_counted.specs.Lists.{Placed, Lists, cell_at, with_slot, reflector_placed, without_count, keyed, counts_of, draining_of, IsPlaced, LeavesCells}
use Rattle.cc_counted.specs.Steps.{ComesTo, EmptiesSlot}
use Rattle.cc_counted.proofs.Places.{number_at-cell, the_number-cell, native-key, one_key}
use Rattle.cc_counted.proofs.Changing.{reflectors-changed, changed-same}
use Rattle.cc_counted.proofs.Leaving.{LeavesKeys-kept, LeavesKeys-then, LeavesKeys-cells}
use Rattle.cc_counted.proofs.Freeing.{IsBalanced-events}
use Rattle.cc_counted.proofs.Holding.{numbers-none, let_go-none}
use Rattle.cc_counted.proofs.Each.{live-cell}
use Rattle.cc_counted.proofs.Writing.{placed-written}
use Rattle.cc_counted.proofs.SlotBalance.{content-live, keyed-written, heap-written, IsBalanced-written}
use Rattle.cc_counted.proofs.Balanced.{resting}

-- A cascade keeps the balance.
pub balanced-cascade : (old new : Lists) (before after : Telling) (k : ℕ) (owned : List ℕ) → old.queue ≡ [] → ComesTo old new before after (cascade (heap_of (counts_of old)) k) →
    IsBalanced (k ∷ owned) (draining_of old []) → IsBalanced owned (draining_of new [])
unfolding drained
balanced-cascade old new before after k owned none t b =
    let h : Heap = heap_of (counts_of old) in
    let done = drained-balanced owned h k (subst (IsBalanced (k ∷ owned)) (resting old none) b) in
    let d : Draining = drain (length h.natives) (give_up (at_rest h) k) in
    let at : (heap : Heap) (queue : List ℕ) → d.heap ≡ heap → d.queue ≡ queue → IsBalanced owned (draining_at heap queue []) =
    λ heap queue e q.
    subst (λ g. IsBalanced owned (draining_at g queue [])) e
    (subst (λ ks. IsBalanced owned (draining_at d.heap ks [])) q (IsBalanced-events owned d [] done.0)) in
    at (heap_of (counts_of new)) (map (the_number (keyed new.cells)) new.queue) t.heap
    (done.1 ∙ sym (ap (map (the_number (keyed new.cells))) t.emptied))

-- A native that is owned stays at its key.
pub owned-stays : (old new : Lists) → IsPlaced old → IsPlaced new → LeavesCells old new → (key : ℕ) (c : Placed) → cell_at old.cells key ≡ Some c →
    (others : List ℕ) → IsBalanced (c.number ∷ others) (draining_of new []) → (d : Placed) × (cell_at new.cells key ≡ Some d) × (without_count d ≡ without_count c)
owned-stays old new p q left key c at others b = ⊎_elim (λ none. absurd (not-gone none)) (λ same. stays (cell_at new.cells key) refl same) (left.each key)
  where
    h : Heap
    h = heap_of (counts_of new)

    stays : (o : Option Placed) → cell_at new.cells key ≡ o → option_map without_count (cell_at new.cells key) ≡ option_map without_count (cell_at old.cells key) →
        (d : Placed) × (cell_at new.cells key ≡ Some d) × (without_count d ≡ without_count c)
    stays None e same = let bad : None ≡ Some (without_count c) = sym (ap (option_map without_count) e) ∙ (same ∙ ap (option_map without_count) at) in absurd (cc)
    stays (Some d) e same = let both : Some (without_count d) ≡ Some (without_count c) = sym (ap (option_map without_count) e) ∙ (same ∙ ap (option_map without_count) at) in (d, e, cc)

    was : (o : Option Placed) (w : Placed) → option_map without_count (Some w) ≡ option_map without_count o → (v : Placed) × (o ≡ Some v) × (w.number ≡ v.number)
    was None w e = absurd (cc)
    was (Some v) w e = let both : without_count w ≡ without_count v = cc in (v, refl, ap (λ (a : Placed). a.number) both)

    not-gone : cell_at new.cells key ≡ None → ⊥
    not-gone none =
        let n = count_at-found (heap_of (counts_of new)) c.number (omega (arith, b.counts c.number, times-cons_same c.number others)) in
        let w = native-key new q n.0 (native_at-there (heap_of (counts_of new)) c.number n.0 n.1) in
        let number : w.1.number ≡ c.number = ap (λ (m : HeapNative). m.number) w.3 ∙ native_at-number (heap_of (counts_of new)) c.number n.0 n.1 in
        ⊎_elim
        (λ gone. let bad : None ≡ Some w.1 = sym gone ∙ w.2 in cc)
        (λ same.
        let v = was (cell_at old.cells w.0) w.1 (ap (option_map without_count) (sym w.2) ∙ same) in
        let here : w.0 ≡ key = one_key old p w.0 key v.0 c v.1 at (sym v.2 ∙ number) in
        let bad : None ≡ Some w.1 = sym none ∙ (ap (cell_at new.cells) (sym here) ∙ w.2) in cc)
        (left.each w.0)

module _ (l : Lists) (p : IsPlaced l) (key : ℕ) (c : Placed) (at : cell_at l.cells key ≡ Some c) (i : ℕ) (within : i < length c.slots)
    (cells : List (Option Placed)) (e : cells ≡ set l.cells key (Some (with_slot i None c))) where
  abbrev h : Heap
  h = heap_of (counts_of l)

  abbrev pub emptied_lists : Lists
  emptied_lists = record l { cells = cells }

  -- what was in the slot
  abbrev pub content : Option Held
  content = get_or c.slots i None

  content-there : is_live (keyed l.cells) content ≡ true
  content-there = content-live l p key c at i within None cells e

  pub placed-emptied : IsPlaced emptied_lists
  placed-emptied = placed-written l p key c at i None cells e refl

  pub keyed-emptied : keyed cells ≡ keyed l.cells
  keyed-emptied = keyed-written l p key c at i within None cells e

  reflectors-emptied : map reflector_placed cells ≡ map reflector_placed l.cells
  reflectors-emptied = ap (map reflector_placed) e ∙ reflectors-changed l p key c (with_slot i None c) at refl refl

  pub cell-emptied : cell_at cells key ≡ Some (with_slot i None c)
  cell-emptied = ap (λ xs. cell_at xs key) e ∙ changed-same l p key c (with_slot i None c) at refl

  pub heap-emptied : heap_of (counts_of emptied_lists) ≡ change_native h c.number (with_native_slot i None)
  heap-emptied = heap-written l p key c at i within None cells e

  -- THE REFERENCE IN THE SLOT is in hand then
  pub IsBalanced-emptied : (owned : List ℕ) → IsBalanced owned (draining_of l []) → IsBalanced (numbers_held (keyed l.cells) content ++ owned) (draining_of emptied_lists [])
  IsBalanced-emptied owned b = IsBalanced-written l p key c at i within None cells e refl owned b

  module _ (others : List ℕ) (b : IsBalanced (c.number ∷ others) (draining_of l [])) where
    in-hand : (x : Option Held) → content ≡ x → IsBalanced (numbers_held (keyed l.cells) x ++ c.number ∷ others) (draining_of emptied_lists [])
    in-hand x f = subst (λ y. IsBalanced (numbers_held (keyed l.cells) y ++ c.number ∷ others) (draining_of emptied_lists [])) f (IsBalanced-emptied (c.number ∷ others) b)

    -- a slot that holds no native gives nothing up
    pub EmptiesSlot-none : (before : Telling) → native_held content ≡ None → EmptiesSlot l emptied_lists key i before before
    EmptiesSlot-none before none = record {
      was = c;
      was_there = at;
      cell = with_slot i None c;
      there = cell-emptied;
      same = refl;
      placed = placed-emptied;
      leaves = LeavesKeys-kept l emptied_lists (ap length e ∙ length-set l.cells key (Some (with_slot i None c))) keyed-emptied reflectors-emptied refl;
      balanced = λ more f.
          subst (λ ks. IsBalanced (ks ++ c.number ∷ more) (draining_of emptied_lists [])) (numbers-none (keyed l.cells) content none) (IsBalanced-emptied (c.number ∷ more) f);
      events = [];
      outcome = let_go-none (keyed l.cells) content (change_native h c.number (with_native_slot i None)) none ∙ ap (λ (g : Heap). silently g) (sym heap-emptied);
      told = Tells-nil before;
    }

    module _ (j : ℕ) (held_there : content ≡ Some (held.Native (record { 0 = j }))) where
      number : ℕ
      number = the_number (keyed l.cells) j

      same-number : the_number (keyed cells) j ≡ the_number (keyed l.cells) j
      same-number = ap (λ n. the_number n j) keyed-emptied

      -- what was in the slot is there, and its reference is in hand
      pub balanced-content : (owned : List ℕ) × (d : Placed) × (cell_at cells j ≡ Some d) × IsBalanced (d.number ∷ owned) (draining_of emptied_lists [])
      balanced-content =
          let d = live-cell cells j (subst (λ n. is_live n (Some (held.Native (record { 0 = j }))) ≡ true) (sym keyed-emptied) (subst (λ x. is_live (keyed l.cells) x ≡ true) held_there content-there)) in (
            c.number ∷ others,
            d.0,
            d.1,
            subst (λ k. IsBalanced (k ∷ c.number ∷ others) (draining_of emptied_lists [])) (sym same-number ∙ the_number-cell cells j d.0 d.1)
                (in-hand (Some (held.Native (record { 0 = j }))) held_there),
          )

      name-held : name_of (keyed l.cells) content ≡ Some (native (the_number (keyed l.cells) j))
      name-held = grind (arith, live-cell, content-there, number_at-cell)

      pub EmptiesSlot-some : (new : Lists) (before after : Telling) → l.queue ≡ [] →
          ComesTo emptied_lists new before after (cascade (heap_of (counts_of emptied_lists)) (the_number (keyed cells) j)) → EmptiesSlot l new key i before after
      EmptiesSlot-some new before after none t = record {
        was = c;
        was_there = at;
        cell = stays.0;
        there = stays.1;
        same = stays.2;
        placed = t.placed;
        leaves = LeavesKeys-then l emptied_lists new
            (LeavesKeys-kept l emptied_lists (ap length e ∙ length-set l.cells key (Some (with_slot i None c))) keyed-emptied reflectors-emptied refl)
            (LeavesKeys-cells emptied_lists new t.leaves);
        balanced = balanced;
        events = (cascade (heap_of (counts_of emptied_lists)) (the_number (keyed cells) j)).events;
        outcome = ap (empty_slot h c.number i) name-held
            ∙ (ap (λ g. cascade g (the_number (keyed l.cells) j)) (sym heap-emptied)
            ∙ (ap (cascade (heap_of (counts_of emptied_lists))) (sym same-number)
            ∙ ap (λ (g : Heap). outcome_of g (cascade (heap_of (counts_of emptied_lists)) (the_number (keyed cells) j)).events) t.heap));
        told = t.told;
      }
        where
          balanced : (more : List ℕ) → IsBalanced (c.number ∷ more) (draining_of l []) → IsBalanced (c.number ∷ more) (draining_of new [])
          balanced more f =
              balanced-cascade emptied_lists new before after (the_number (keyed cells) j) (c.number ∷ more) none t
              (subst (λ k. IsBalanced (k ∷ c.number ∷ more) (draining_of emptied_lists [])) (sym same-number)
              (subst (λ y. IsBalanced (numbers_held (keyed l.cells) y ++ c.number ∷ more) (draining_of emptied_lists [])) held_there (IsBalanced-emptied (c.number ∷ more) f)))

          stays : (d : Placed) × (cell_at new.cells key ≡ Some d) × (without_count d ≡ without_count (with_slot i None c))
          stays = owned-stays emptied_lists new placed-emptied t.placed t.leaves key (with_slot i None c) cell-emptied others (balanced others b)

-- THE BALANCE WHERE A SLOT IS WRITTEN: the reference to what is put in goes out of hand, that to what was there comes in.
use Rattle.std.proofs.Common.{◌≡◌, ◌<◌, ◌+◌, ℕ, List, [], ◌++◌, map, length, get_or, Option, Some, None, option_map, true, refl, sym, ◌∙◌, ap, subst, ⊎_elim, arith, count_by}
use Rattle.std.specs.Option.{option_to_list}
use Rattle.std.proofs.Math.ListN.{set, get_or-map}
use Rattle.std.proofs.lemmas.Bool.Decides.{eqb_tells}
use Rattle.std.proofs.lemmas.List.{length-map}
use Rattle.cc_lists.proofs.ListWrites.{count_by-flat_map_set, count_by-flat_map_changed}
use Rattle.cc_names.specs.Names.{native, same_name}
use Rattle.cc_model.specs.Slots.{contents}
use Rattle.cc_model.specs.Heap.{Heap, HeapNative, native_at, change_native, with_native_slot}
use Rattle.cc_model.specs.Counts.{times}
use Rattle.cc_model.specs.Cascade.{draining_at}
use Rattle.cc_laws_heap.specs.Sound.{numbers_of}
use Rattle.cc_laws_heap.specs.Balance.{waiting, living, IsBalanced, count_of, has_number}
use Rattle.cc_laws_heap.proofs.Face.{HasDistinctNumbers-change, native_at-change_other, native_at-change_same, times-numbers_of}
use Rattle.cc_counted.specs.declared.held.Held.{Held}
use Rattle.cc_counted.specs.Counts.{Counts, the_number, name_of, is_live, numbers_held, heap_of}
use Rattle.cc_counted.specs.Lists.{Placed, Lists, cell_at, with_slot, keyed, names_in, shown, counts_of, draining_of, IsPlaced}
use Rattle.cc_counted.proofs.Places.{the_number-cell, native_at-cell}
use Rattle.cc_counted.proofs.Changing.{keyed-changed}
use Rattle.cc_counted.proofs.Reading.{is_live-keyed, name_of-keyed}
use Rattle.cc_counted.proofs.Writing.{slot-live, counts-written}

-- the numbers in a name are those that are held
numbers-held : (c : Counts) (x : Option Held) → is_live c x ≡ true → numbers_of (name_of c x) ≡ numbers_held c x
numbers-held c x live = grind arith

-- how often a native is owned where what is held is
times-held : (c : Counts) (x : Option Held) → is_live c x ≡ true → (j : ℕ) (owned : List ℕ) →
    times j (numbers_held c x ++ owned) ≡ count_by (same_name (native j)) (option_to_list (name_of c x)) + times j owned
times-held c x live j owned = ap (λ ks. times j (ks ++ owned)) (sym (numbers-held c x live)) ∙ times-numbers_of j (name_of c x) owned

module _ (l : Lists) (p : IsPlaced l) (key : ℕ) (c : Placed) (at : cell_at l.cells key ≡ Some c) (i : ℕ) (within : i < length c.slots)
    (x : Option Held) (cells : List (Option Placed)) (e : cells ≡ set l.cells key (Some (with_slot i x c))) where
  abbrev h : Heap
  h = heap_of (counts_of l)

  -- the native with the slot written
  abbrev written : HeapNative → HeapNative
  written n = with_native_slot i (name_of (keyed l.cells) x) n

  -- what was in the slot
  abbrev content : Option Held
  content = get_or c.slots i None

  pub content-live : is_live (keyed l.cells) content ≡ true
  content-live = sym (is_live-keyed l content) ∙ slot-live l p key c at i within

  pub keyed-written : keyed cells ≡ keyed l.cells
  keyed-written = ap keyed e ∙ keyed-changed l p key c (with_slot i x c) at refl

  pub heap-written : heap_of (counts_of (record l { cells = cells })) ≡ change_native h c.number (with_native_slot i (name_of (keyed l.cells) x))
  heap-written = grind (arith, counts-written, the_number-cell, name_of-keyed)

  found : native_at h c.number ≡ Some (shown (keyed l.cells) (Some c))
  found = native_at-cell l p key c at

  names-length : length (names_in (keyed l.cells) c.slots) ≡ length c.slots
  names-length = length-map c.slots (name_of (keyed l.cells))

  name-content : get_or (names_in (keyed l.cells) c.slots) i None ≡ name_of (keyed l.cells) content
  name-content = get_or-map (name_of (keyed l.cells)) c.slots i None

  kept : (f : Option HeapNative → ℕ) → ((n : HeapNative) → f (Some (written n)) ≡ f (Some n)) → (j : ℕ) →
      f (native_at (change_native h c.number written) j) ≡ f (native_at h j)
  kept f same j = ⊎_elim
      (λ t. ap f (ap (native_at (change_native h c.number written)) t.1
      ∙ (native_at-change_same h c.number written (λ n. refl) ∙ ap (option_map written) found))
      ∙ (same (shown (keyed l.cells) (Some c)) ∙ ap f (sym (ap (native_at h) t.1 ∙ found))))
      (λ t. ap f (native_at-change_other h c.number written (λ n. refl) j t.1))
      (eqb_tells j c.number)

  -- The reference to what is put in goes out of hand, and that to what was in the slot comes in.
  pub IsBalanced-written : is_live (keyed l.cells) x ≡ true → (owned : List ℕ) → IsBalanced (numbers_held (keyed l.cells) x ++ owned) (draining_of l []) →
      IsBalanced (numbers_held (keyed l.cells) (get_or c.slots i None) ++ owned) (draining_of (record l { cells = cells }) [])
  IsBalanced-written live owned b =
      subst (λ g. IsBalanced (numbers_held (keyed l.cells) content ++ owned) (draining_at g (map (the_number (keyed cells)) l.queue) [])) (sym heap-written)
      (subst (λ n. IsBalanced (numbers_held (keyed l.cells) content ++ owned) (draining_at (change_native h c.number written) (map (the_number n) l.queue) [])) (sym keyed-written)
      (record {
        distinct = HasDistinctNumbers-change h c.number written (λ n. refl) b.distinct;
        counts = λ j. omega (
          arith,
          b.counts j,
          kept count_of (λ n. refl) j,
          count_by-flat_map_changed (same_name (native j)) (λ (m : HeapNative). contents m.slots) (has_number c.number) written h.natives (shown (keyed l.cells) (Some c)) (b.distinct c.number) found,
          count_by-flat_map_set (same_name (native j)) option_to_list (names_in (keyed l.cells) c.slots) i (name_of (keyed l.cells) x) None (omega (arith, within, names-length)),
          times-held (keyed l.cells) x live j owned,
          times-held (keyed l.cells) content content-live j owned
              ∙ ap (λ y. count_by (same_name (native j)) (option_to_list y) + times j owned) (sym name-content),
        );
        queue = λ j. b.queue j ∙ sym (kept waiting (λ n. refl) j);
        buffer = λ j. omega (arith, b.buffer j, kept living (λ n. refl) j);
      }))

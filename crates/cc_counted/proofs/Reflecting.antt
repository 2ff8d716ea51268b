-- THE FLAGS OF A NATIVE AND ITS REFLECTOR: whether that is preserved, whether the native was unlinked, and where the
-- reflector stands, as they are written and read.
use Rattle.std.proofs.Common.{◌≡◌, ◌<◌, ◌≤◌, ℕ, Bool, List, map, length, get_or, Option, Some, None, is_some, option_map, refl, sym, ◌∙◌, ap, subst, arith, ⊎_elim, if◌then◌else◌}
use Rattle.std.proofs.Math.ListN.{set}
use Rattle.cc_names.specs.declared.kind.Walked.{Walked}
use Rattle.cc_names.specs.declared.kind.Walked.TheVariants.{Out}
use Rattle.std.proofs.lemmas.Bool.Decides.{eqb_tells}
use Rattle.std.proofs.lemmas.List.{map-set, get_or_push, get_or_append_left}
use Rattle.cc_lists.specs.Members.{Among}
use Rattle.cc_lists.proofs.ListWrites.{map-agree}
use Rattle.cc_names.specs.Sizes.{most_slots}
use Rattle.cc_model.specs.Slots.{Slots}
use Rattle.cc_model.specs.Heap.{Heap, HeapNative, native_at, change_native, as_unlinked}
use Rattle.cc_laws_heap.proofs.Face.{native_at-change_other, native_at-change_same}
use Rattle.cc_counted.specs.Counts.{Counts, the_number, heap_of, with_heap, key_left, reflectors_left, state_left, left_with, with_reflector, preserved_at, preserved_of, unlinked_at, unlinked_of, preserved_reflector, reflector_at, references_of, slots_of}
use Rattle.cc_counted.specs.Lists.{Placed, Lists, cell_at, with_flag, placed_unlinked, reflected_by, reflector_placed, keyed, names_in, shown, shown_with, marked_number, counts_of, IsPlaced}
use Rattle.cc_counted.proofs.Places.{reflector_at-cells, the_number-cell, native_at-cell}
use Rattle.cc_counted.proofs.Changing.{keyed-changed, reflectors-changed, walks-changed, IsPlaced-changed, natives-changed, natives-kept}
use Rattle.cc_counted.proofs.Adding.{counts-same}
use Rattle.cc_counted.proofs.States.{walks_left-agree}

-- A FLAG OF A NATIVE CHANGED, by the lists and by what they show: it keeps its number, its slots, its reflector and its count
pub record ChangesFlags (change : Placed → Placed) (after : HeapNative → HeapNative) : Type 0 where
  pub number : (c : Placed) → (change c).number ≡ c.number
  pub slots : (c : Placed) → (change c).slots ≡ c.slots
  pub reflector : (c : Placed) → (change c).reflector ≡ c.reflector
  pub shows : (slots : Slots) (c : Placed) → after (shown_with slots c) ≡ shown_with slots (change c)
  pub same_number : (n : HeapNative) → (after n).number ≡ n.number
  pub same_slots : (n : HeapNative) → (after n).slots ≡ n.slots
  pub same_count : (n : HeapNative) → (after n).count ≡ n.count

-- a native preserved or not
abbrev pub flagged : Bool → HeapNative → HeapNative
flagged on n = record n { preserved = on }

pub flags-preserved : (on : Bool) → ChangesFlags (with_flag on) (flagged on)
flags-preserved on = record {
  number = λ c. refl;
  slots = λ c. refl;
  reflector = λ c. refl;
  shows = λ ss c. refl;
  same_number = λ n. refl;
  same_slots = λ n. refl;
  same_count = λ n. refl;
}

-- a native unlinked
pub flags-unlinked : ChangesFlags placed_unlinked as_unlinked
flags-unlinked = record {
  number = λ c. refl;
  slots = λ c. refl;
  reflector = λ c. refl;
  shows = λ ss c. refl;
  same_number = λ n. refl;
  same_slots = λ n. refl;
  same_count = λ n. refl;
}

module _ (change : Placed → Placed) (after : HeapNative → HeapNative) (flags : ChangesFlags change after) where
  -- a native that is there stays there, and none comes
  there-flagged : (h : Heap) (k j : ℕ) → is_some (native_at (change_native h k after) j) ≡ is_some (native_at h j)
  there-flagged h k j = ⊎_elim
      (λ t. ap (λ i. is_some (native_at (change_native h k after) i)) t.1
      ∙ (ap is_some (native_at-change_same h k after flags.same_number)
      ∙ (some-after (native_at h k) ∙ ap (λ i. is_some (native_at h i)) (sym t.1))))
      (λ t. ap is_some (native_at-change_other h k after flags.same_number j t.1))
      (eqb_tells j k)
    where
      some-after : (o : Option HeapNative) → is_some (option_map after o) ≡ is_some o
      some-after None = refl
      some-after (Some n) = refl

  key_left-flagged : (h : Heap) (k : ℕ) (o : Option ℕ) → key_left (change_native h k after) o ≡ key_left h o
  key_left-flagged h k None = refl
  key_left-flagged h k (Some j) = ap (λ b. if b then Some j else None) (there-flagged h k j)

  state_left-flagged : (h : Heap) (k : ℕ) (o : Option ℕ) (state : Walked) → state_left (change_native h k after) o state ≡ state_left h o state
  state_left-flagged h k None state = refl
  state_left-flagged h k (Some j) state = ap (λ b. if b then state else Out) (there-flagged h k j)

  -- so it says nothing of which keys are left, nor of what stands at them
  pub left-flagged : (c : Counts) (h : Heap) (k : ℕ) → with_heap (left_with c h) (change_native h k after) ≡ left_with c (change_native h k after)
  left-flagged c h k = counts-same _ _ _ _ _ _ _ _ _ _ refl refl keys (ap (λ ks. reflectors_left ks c.reflectors) keys)
      (walks_left-agree h (change_native h k after) (λ o state. sym (state_left-flagged h k o state)) c.keys c.walks)
    where
      keys : map (key_left h) c.keys ≡ map (key_left (change_native h k after)) c.keys
      keys = sym (map-agree (key_left (change_native h k after)) (key_left h) c.keys (λ o m. key_left-flagged h k o))

module _ (l : Lists) (p : IsPlaced l) (key : ℕ) (c : Placed) (at : cell_at l.cells key ≡ Some c) where
  -- Written

  module _ (change : Placed → Placed) (after : HeapNative → HeapNative) (flags : ChangesFlags change after) (cells : List (Option Placed))
      (e : cells ≡ set l.cells key (option_map change (cell_at l.cells key))) where
    flag-written : cells ≡ set l.cells key (Some (change c))
    flag-written = e ∙ ap (λ o. set l.cells key (option_map change o)) at

    shows-changed : after (shown (keyed l.cells) (Some c)) ≡ shown (keyed l.cells) (Some (change c))
    shows-changed = flags.shows (names_in (keyed l.cells) c.slots) c ∙ ap (λ xs. shown_with (names_in (keyed l.cells) xs) (change c)) (sym (flags.slots c))

    pub counts-flagged : counts_of (record l { cells = cells }) ≡ with_heap (counts_of l) (change_native (heap_of (counts_of l)) (the_number (counts_of l) key) after)
    counts-flagged =
        ap (λ cs. counts_of (record l { cells = cs })) flag-written
        ∙ (counts-same _ _ _ _ _ _ _ _ _ _
        (natives-changed l p key c (change c) at (flags.number c) after shows-changed)
        (ap (λ n. map (marked_number n) l.marks) (keyed-changed l p key c (change c) at (flags.number c)))
        (ap (λ (n : Counts). n.keys) (keyed-changed l p key c (change c) at (flags.number c)))
        (reflectors-changed l p key c (change c) at (flags.number c) (flags.reflector c)) (walks-changed l p key c (change c) at (flags.number c))
        ∙ ap (λ k. with_heap (counts_of l) (change_native (heap_of (counts_of l)) k after)) (sym (the_number-cell l.cells key c at)))

    pub placed-flagged : IsPlaced (record l { cells = cells })
    placed-flagged =
        subst (λ cs. IsPlaced (record l { cells = cs })) (sym flag-written)
        (IsPlaced-changed l p key c (change c) at (flags.number c)
        (subst (λ xs. length xs ≤ most_slots) (sym (flags.slots c)) (p.small key c at))
        (λ x m. p.held key c x at (subst (λ xs. Among x xs) (flags.slots c) m)) l.queue l.marks p.queued p.marked)

  module _ (to : Option ℕ) (cells : List (Option Placed)) (e : cells ≡ set l.cells key (option_map (reflected_by to) (cell_at l.cells key))) where
    reflector-written : cells ≡ set l.cells key (Some (reflected_by to c))
    reflector-written = e ∙ ap (λ o. set l.cells key (option_map (reflected_by to) o)) at

    pub counts-reflected : counts_of (record l { cells = cells }) ≡ with_reflector (counts_of l) key to
    counts-reflected = grind (arith, reflector-written, counts-same, natives-kept, keyed-changed, map-set, walks-changed)

    pub placed-reflected : IsPlaced (record l { cells = cells })
    placed-reflected =
        subst (λ cs. IsPlaced (record l { cells = cs })) (sym reflector-written)
        (IsPlaced-changed l p key c (reflected_by to c) at refl (p.small key c at) (λ x m. p.held key c x at m) l.queue l.marks p.queued p.marked)

  -- Read

  pub preserved_of-cell : preserved_of (counts_of l) key ≡ c.preserved
  preserved_of-cell = ap preserved_at (ap (native_at (heap_of (counts_of l))) (the_number-cell l.cells key c at) ∙ native_at-cell l p key c at)

  pub unlinked_of-cell : unlinked_of (counts_of l) key ≡ c.unlinked
  unlinked_of-cell = ap unlinked_at (ap (native_at (heap_of (counts_of l))) (the_number-cell l.cells key c at) ∙ native_at-cell l p key c at)

  pub reflector_at-cell : reflector_at (counts_of l) key ≡ c.reflector
  reflector_at-cell = reflector_at-cells l key ∙ ap reflector_placed at

  -- the references before the last are the slots
  pub reference-slot : (i : ℕ) → i < length (slots_of (counts_of l) key) → get_or (slots_of (counts_of l) key) i None ≡ get_or (references_of (counts_of l) key) i None
  reference-slot i within = sym (get_or_append_left (slots_of (counts_of l) key) _ None i within)

  -- and the last is the reflector where it is preserved
  pub reference-last : (i : ℕ) → length (slots_of (counts_of l) key) ≡ i → preserved_reflector c.preserved c.reflector ≡ get_or (references_of (counts_of l) key) i None
  reference-last i last = search (get_or_push, preserved_of-cell, reflector_at-cell)

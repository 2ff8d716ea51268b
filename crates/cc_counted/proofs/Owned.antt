-- WHAT CALLERS OWN AFTER A CALL.
use Rattle.std.proofs.Common.{◌≡◌, ◌<◌, ◌+◌, ◌≤◌, ℕ, true, false, List, [], ◌∷◌, ◌++◌, get_or, Option, Some, None, option_map, refl, sym, ◌∙◌, ap, subst, ⊎_elim, inl, inr, arith, count_by, MatchOption, is_some, Bool, append-nil, length, ◌⊎◌, map, if◌then◌else◌, ◌==◌}
use Rattle.std.specs.List.{flat_map}
use Rattle.std.proofs.Math.ListN.{set}
use Rattle.std.proofs.lemmas.Bool.{cases_lt}
use Rattle.std.proofs.lemmas.List.{map-append}
use Rattle.std.proofs.lemmas.Grind.{flat_map-append}
use Rattle.cc_lists.specs.Members.{Among}
use Rattle.cc_lists.proofs.Members.{Among-map_cases, Among-append, Among-left, Among-right}
use Rattle.cc_lists.proofs.Counting.{count_by-cons, counted_is}
use Rattle.cc_lists.proofs.ListWrites.{flat_map-kept}
use Rattle.cc_lists.proofs.Numbers.{at-each}
use Rattle.cc_names.specs.declared.number.NKey.{NKey}
use Rattle.cc_names.specs.Names.{native, same_name, number_of}
use Rattle.cc_names.proofs.NameTests.{same_name-true}
use Rattle.cc_model.specs.Slots.{contents}
use Rattle.cc_model.specs.Heap.{Heap, HeapNative, Buffered, native_at, change_native, with_mark, buffered_as, new_native}
use Rattle.cc_model.specs.Cascade.{add_ref, at_rest}
use Rattle.cc_model.specs.WellFormed.{native_names}
use Rattle.cc_model.specs.Counts.{slots_of_natives, times}
use Rattle.cc_laws_heap.specs.Balance.{waiting, living, IsBalanced, has_place, places}
use Rattle.cc_laws_heap.proofs.Face.{HasDistinctNumbers-change, IsCounted-add_ref, above-one_at_zero, changed_at, contents-empty, living-one, native_at-change_other, native_at-change_same, native_at-named, native_names-change, one_above_zero-above, one_at_zero-above, places-with_mark, places-with_mark_other, places-with_mark_same, raise_native, times-among, times-cons_other, times-cons_same, with_mark-cases}
use Rattle.cc_names.specs.declared.kind.Walked.{Walked}
use Rattle.cc_counted.specs.declared.held.Held.{Held}
use Rattle.cc_counted.specs.Counts.{Counts, number_at, the_number, is_live, numbers_held, heap_of, with_heap, with_reflector}
use Rattle.cc_counted.specs.Owning.{AreOwned, Transfers, Makes}
use Rattle.cc_counted.specs.Lists.{Placed, Lists, cell_at, with_slot, keyed, shown, counts_of, IsPlaced}
use Rattle.cc_counted.proofs.Places.{the_number-cell, native_at-cell, natives-distinct}
use Rattle.cc_counted.proofs.Balanced.{balanced-owned, owned-balanced, IsBalanced-owned, owned-lists}
use Rattle.cc_counted.proofs.SlotBalance.{IsBalanced-written}
use Rattle.cc_counted.proofs.Reflecting.{ChangesFlags}

-- The steps on a balance in which no native waits

module _ (owned : List ℕ) (h : Heap) (k : ℕ) (n : HeapNative) (found : native_at h k ≡ Some n) (b : IsBalanced owned (at_rest h)) where
  -- the native is there
  named : Among (native k) (native_names h)
  named = native_at-named h k n found

  -- and has a count
  above : 1 ≤ n.count
  above = above-one_at_zero n.count (sym (ap waiting found) ∙ sym (b.queue k))

  -- one reference more is in hand
  balanced-add_ref : IsBalanced (k ∷ owned) (at_rest (add_ref h k))
  balanced-add_ref = record {
    distinct = HasDistinctNumbers-change h k raise_native (λ m. refl) b.distinct;
    counts = IsCounted-add_ref owned h k named b.counts;
    queue = λ j. at-each (λ i. 0 ≡ waiting (native_at (add_ref h k) i)) k
        (sym (ap waiting raised ∙ one_at_zero-above (n.count + 1) (omega arith)))
        (λ i o. b.queue i ∙ ap waiting (sym (others i o))) j;
    buffer = λ j. at-each (λ i. places i (with_mark false k h.buffer) ≤ living (native_at (add_ref h k) i)) k
        (omega (arith, ap living raised ∙ one_above_zero-above (n.count + 1) (omega arith), places-with_mark_same false k h.buffer few))
        (λ i o. omega (arith, b.buffer i, places-with_mark_other false k i h.buffer o, ap living (others i o))) j;
  }
    where
      raised : native_at (add_ref h k) k ≡ Some (raise_native n)
      raised = native_at-change_same h k raise_native (λ m. refl) ∙ ap (option_map raise_native) found

      others : (i : ℕ) → ¬ (i ≡ k) → native_at (add_ref h k) i ≡ native_at h i
      others i o = native_at-change_other h k raise_native (λ m. refl) i o

      few : places k h.buffer ≤ 1
      few = omega (arith, b.buffer k, living-one (native_at h k))

  -- a mark changes no count
  balanced-marked : (purple : Bool) → IsBalanced owned (at_rest (record h { buffer = with_mark purple k h.buffer }))
  balanced-marked purple = record {
    distinct = b.distinct;
    counts = b.counts;
    queue = b.queue;
    buffer = λ j. at-each (λ i. places i (with_mark purple k h.buffer) ≤ living (native_at h i)) k
        (omega (
          arith,
          ap living found ∙ one_above_zero-above n.count above,
          places-with_mark_same purple k h.buffer (omega (arith, b.buffer k, living-one (native_at h k))),
        ))
        (λ i o. omega (arith, b.buffer i, places-with_mark_other purple k i h.buffer o)) j;
  }

-- The calls

module _ (l : Lists) (p : IsPlaced l) (key : ℕ) (f : (c : Placed) × (cell_at l.cells key ≡ Some c)) where
  abbrev h : Heap
  h = heap_of (counts_of l)

  abbrev number : ℕ
  number = the_number (counts_of l) key

  found : native_at h number ≡ Some (shown (keyed l.cells) (Some f.0))
  found = ap (native_at h) (the_number-cell l.cells key f.0 f.1) ∙ native_at-cell l p key f.0 f.1

  -- One reference more is the caller's.
  pub owned-add_ref : Transfers [] (the_number (counts_of l) key ∷ []) (counts_of l) (with_heap (counts_of l) (add_ref (heap_of (counts_of l)) (the_number (counts_of l) key)))
  owned-add_ref others o = owned-balanced (with_heap (counts_of l) (add_ref h number)) (number ∷ others)
      (balanced-add_ref others h number (shown (keyed l.cells) (Some f.0)) found (balanced-owned (counts_of l) (natives-distinct l p) others o))

  -- A mark changes nothing of what is owned.
  pub owned-marked : (purple : Bool) → Transfers [] [] (counts_of l) (record (counts_of l) { buffer = with_mark purple (the_number (counts_of l) key) (counts_of l).buffer })
  owned-marked purple others o = owned-balanced (record (counts_of l) { buffer = with_mark purple number h.buffer }) others
      (balanced-marked others h number (shown (keyed l.cells) (Some f.0)) found (balanced-owned (counts_of l) (natives-distinct l p) others o) purple)

-- What is put into a slot is the slot's, and what was there is the caller's.
pub owned-written : (l : Lists) (p : IsPlaced l) → l.queue ≡ [] → (key : ℕ) (c : Placed) (at : cell_at l.cells key ≡ Some c) (i : ℕ) → i < length c.slots →
    (x : Option Held) → is_live (counts_of l) x ≡ true → (cells : List (Option Placed)) → cells ≡ set l.cells key (Some (with_slot i x c)) →
    Transfers (numbers_held (counts_of l) x) (numbers_held (counts_of l) (get_or c.slots i None)) (counts_of l) (counts_of (record l { cells = cells }))
owned-written l p none key c at i within x live cells e others o = search (owned-lists, IsBalanced-written, IsBalanced-owned)

-- The flags of a native say nothing of what is owned.
pub owned-flagged : (change : Placed → Placed) (after : HeapNative → HeapNative) → ChangesFlags change after → (c : Counts) (k : ℕ) →
    Transfers [] [] c (with_heap c (change_native (heap_of c) k after))
owned-flagged change after flags c k others o = record {
  counts = λ n i.
      let f = was n i in
      f.3
      ∙ (o.counts f.0 f.1
      ∙ (ap (λ j. count_by (same_name (native j)) (slots_of_natives (heap_of c)) + times j others) (sym f.2)
      ∙ ap (λ xs. count_by (same_name (native n.number)) xs + times n.number others) (sym slots)));
  none_zero = λ n i. let f = was n i in subst (λ j. 1 ≤ j) (sym f.3) (o.none_zero f.0 f.1);
  held_there = λ j i. stays j (o.held_there j (subst (λ xs. Among (native j) xs) slots i));
  owned_there = λ j i. stays j (o.owned_there j i);
  buffered = λ b i. stays b.number (o.buffered b i);
  buffered_once = o.buffered_once;
}
  where
    kept : {Y : Type 0} (h : HeapNative → Y) → ((n : HeapNative) → h (after n) ≡ h n) → (n : HeapNative) → h (changed_at k after n) ≡ h n
    kept {Y} h same n = go (n.number == k)
      where
        go : (b : Bool) → h (if b then after n else n) ≡ h n
        go true = same n
        go false = refl

    was : (n : HeapNative) → Among n (change_native (heap_of c) k after).natives → (m : HeapNative) × Among m c.natives × (n.number ≡ m.number) × (n.count ≡ m.count)
    was n i =
        let f = Among-map_cases (changed_at k after) c.natives n i in (
          f.0,
          f.1,
          sym (ap (λ (m : HeapNative). m.number) f.2) ∙ kept (λ m. m.number) flags.same_number f.0,
          sym (ap (λ (m : HeapNative). m.count) f.2) ∙ kept (λ m. m.count) flags.same_count f.0,
        )

    slots : slots_of_natives (change_native (heap_of c) k after) ≡ slots_of_natives (heap_of c)
    slots = flat_map-kept (λ (n : HeapNative). contents n.slots) (changed_at k after) c.natives (kept (λ n. contents n.slots) (λ n. ap contents (flags.same_slots n)))

    stays : (j : ℕ) → Among (native j) (native_names (heap_of c)) → Among (native j) (native_names (change_native (heap_of c) k after))
    stays j i = subst (λ xs. Among (native j) xs) (sym (native_names-change (heap_of c) k after flags.same_number)) i

-- Nor does where it stands.
pub owned-reflected : (c : Counts) (key : ℕ) (to : Option ℕ) → Transfers [] [] c (with_reflector c key to)
owned-reflected c key to others o = search

-- Nor does how keys stand in a walk.
pub owned-walked : (c : Counts) (walks : List Walked) → Transfers [] [] c (record c { walks = walks })
owned-walked c walks others o = search

-- the front of the buffer leaves
owned-front : (old new : Counts) (b : Buffered) → old.buffer ≡ b ∷ new.buffer → new ≡ record old { buffer = new.buffer } → Transfers [] [] old new
owned-front old new b front is others o =
    subst (AreOwned others) (sym is)
    (record {
      counts = o.counts;
      none_zero = o.none_zero;
      held_there = o.held_there;
      owned_there = o.owned_there;
      buffered = λ a m. o.buffered a (subst (λ bs. Among a bs) (sym front) (inr m));
      buffered_once = λ k. omega (arith, ap (λ bs. places k bs) front, count_by-cons (has_place k) b new.buffer, o.buffered_once k);
    })

-- Where the front of the buffer is taken out, or the buffer is empty, nothing of what is owned changes.
pub owned-selected : (old new : Counts) (r : Option (NKey × Bool)) → MatchOption r ((old.buffer ≡ []) × (new ≡ old))
    (λ front. (old.buffer ≡ buffered_as (the_number old front.0.0) front.1 ∷ new.buffer)
    × (new ≡ record old { buffer = new.buffer }) × (is_some (number_at old front.0.0) ≡ true)) → Transfers [] [] old new
owned-selected old new None f others o = subst (AreOwned others) (sym f.1) o
owned-selected old new (Some front) f others o = owned-front old new (buffered_as (the_number old front.0.0) front.1) f.0 f.1 others o

-- A native is made: its one reference is the caller's.
pub owned-made : (old new : Counts) (key number size : ℕ) → ((n : HeapNative) → Among n old.natives → n.number < number) →
    Makes old new key number size → Transfers [] (number ∷ []) old new
owned-made old new key number size above m others o = record {
  counts = λ n i. ⊎_elim (λ t. was n t) (λ t. ⊎_elim (λ e. subst IsCountedIn e now) (λ x. absurd x) t) (cases n i);
  none_zero = λ n i. ⊎_elim (λ t. o.none_zero n t) (λ t. ⊎_elim (λ e. subst (λ (a : HeapNative). 1 ≤ a.count) e (omega arith)) (λ x. absurd x) t) (cases n i);
  held_there = λ k i. stays k (o.held_there k (subst (λ xs. Among (native k) xs) slots i));
  owned_there = λ k i. ⊎_elim (λ e. subst (λ j. Among (native j) (native_names (heap_of new))) e there) (λ t. stays k (o.owned_there k t)) i;
  buffered = λ b i. ⊎_elim
      (λ e. subst (λ j. Among (native j) (native_names (heap_of new))) (sym e) there)
      (λ t. stays b.number (o.buffered b t))
      (with_mark-cases false number old.buffer b (subst (λ bs. Among b bs) m.buffer i));
  buffered_once = λ k. subst (λ bs. places k bs ≤ 1) (sym m.buffer) (places-with_mark false number old.buffer o.buffered_once k);
}
  where
    made : HeapNative
    made = new_native number size

    IsCountedIn : HeapNative → Type 0
    IsCountedIn n = n.count ≡ count_by (same_name (native n.number)) (slots_of_natives (heap_of new)) + times n.number (number ∷ others)

    cases : (n : HeapNative) → Among n new.natives → Among n old.natives ⊎ Among n (made ∷ [])
    cases n i = Among-append n old.natives (made ∷ []) (subst (λ ns. Among n ns) m.natives i)

    slots : slots_of_natives (heap_of new) ≡ slots_of_natives (heap_of old)
    slots =
        ap (flat_map (λ (n : HeapNative). contents n.slots)) m.natives
        ∙ (flat_map-append (λ (n : HeapNative). contents n.slots) old.natives (made ∷ [])
        ∙ (ap (λ xs. slots_of_natives (heap_of old) ++ (xs ++ [])) (contents-empty size) ∙ append-nil (slots_of_natives (heap_of old))))

    names : native_names (heap_of new) ≡ native_names (heap_of old) ++ native number ∷ []
    names = ap (map (λ (n : HeapNative). native n.number)) m.natives ∙ map-append (λ (n : HeapNative). native n.number) old.natives (made ∷ [])

    stays : (k : ℕ) → Among (native k) (native_names (heap_of old)) → Among (native k) (native_names (heap_of new))
    stays k i = subst (λ xs. Among (native k) xs) (sym names) (Among-left (native k) (native_names (heap_of old)) (native number ∷ []) i)

    there : Among (native number) (native_names (heap_of new))
    there = subst (λ xs. Among (native number) xs) (sym names) (Among-right (native number) (native_names (heap_of old)) (native number ∷ []) (inl refl))

    -- the number is new
    fresh : Among (native number) (native_names (heap_of old)) → ⊥
    fresh i =
        let f = Among-map_cases (λ (n : HeapNative). native n.number) old.natives (native number) i in
        let same : f.0.number ≡ number = ap number_of f.2 in
        let less : f.0.number < number = above f.0 f.1 in
        absurd (omega arith)

    none-held : count_by (same_name (native number)) (slots_of_natives (heap_of old)) ≡ 0
    none-held = ⊎_elim
        (λ some.
        let f = counted_is (same_name (native number)) (slots_of_natives (heap_of old)) some in
        absurd (fresh (o.held_there number (subst (λ x. Among x (slots_of_natives (heap_of old))) (sym (same_name-true (native number) f.0 f.2)) f.1))))
        (λ no. omega arith) (cases_lt 0 (count_by (same_name (native number)) (slots_of_natives (heap_of old))))

    none-owned : times number others ≡ 0
    none-owned = ⊎_elim (λ some. absurd (fresh (o.owned_there number (times-among number others some)))) (λ no. omega arith) (cases_lt 0 (times number others))

    now : IsCountedIn made
    now = omega (arith, ap (count_by (same_name (native number))) slots, none-held, none-owned, times-cons_same number others)

    was : (n : HeapNative) → Among n old.natives → IsCountedIn n
    was n i =
        let less : n.number < number = above n i in
        omega (arith, o.counts n i, ap (count_by (same_name (native n.number))) slots, times-cons_other n.number number others (λ e. absurd (omega arith)))

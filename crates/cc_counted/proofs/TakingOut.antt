-- THE NATIVE IN FRONT OF THE QUEUE TAKEN OUT at its key, before its slots are given up: nothing holds it.
use Rattle.std.proofs.Common.{◌≡◌, ◌≢◌, ℕ, zero, suc, ◌+◌, ◌≤◌, Bool, true, not, List, ◌∷◌, map, Option, Some, None, option_map, refl, sym, ◌∙◌, ap, subst, inl, inr, arith, ◌==◌}
use Rattle.std.specs.List.{filter}
use Rattle.std.specs.Option.{option_to_list}
use Rattle.std.proofs.lemmas.Bool.{eq-eqb, ne_eqb, true≢false}
use Rattle.std.proofs.lemmas.List.{get_or-set_same, get_or-set_other}
use Rattle.cc_lists.specs.Members.{Among, without}
use Rattle.cc_lists.proofs.Members.{Among-map, Among-filter, Among-filtered, Among-passes, Among-flat_map}
use Rattle.cc_lists.proofs.Searching.{filter-map}
use Rattle.cc_lists.proofs.Counting.{count_by-some}
use Rattle.cc_names.specs.Names.{native}
use Rattle.cc_model.specs.declared.item.Event.{Event}
use Rattle.cc_model.specs.Slots.{contents}
use Rattle.cc_model.specs.Heap.{HeapNative, native_at}
use Rattle.cc_model.specs.Cascade.{Draining, told_free, without_native}
use Rattle.cc_model.specs.Counts.{times, refs_to}
use Rattle.cc_model.specs.WellFormed.{IsRising}
use Rattle.cc_laws_heap.proofs.Face.{IsRising-filter, refs_to-slot, times-cons_same, times-some}
use Rattle.cc_laws_heap.specs.Balance.{one_at_zero, waiting as waits, IsBalanced, count_of}
use Rattle.cc_walk.proofs.Sets.{member-left}
use Rattle.cc_purple.specs.Marks.{Marked}
use Rattle.cc_counted.specs.declared.held.Held.{Held}
use Rattle.cc_counted.specs.declared.held.Held.TheVariants as held
use Rattle.cc_counted.specs.Counts.{Counts, number_at, number_or_none, the_number, name_of, is_live, numbers_held}
use Rattle.cc_counted.specs.Lists.{Placed, Lists, cell_at, keyed, shown, shown_at, numbers_in, marked_number, draining_of, IsPlaced, taken_out, shown_with}
use Rattle.cc_counted.proofs.Places.{cell_number, number_at-cells, number_at-cell, the_number-cell, shown-number, native_at-cell}
use Rattle.cc_lists.proofs.ListWrites.{map-agree}
use Rattle.cc_counted.proofs.Changing.{cell-within}
use Rattle.cc_lists.proofs.Filtering.{filter-agree}
use Rattle.cc_counted.proofs.Marking.{key-test}
use Rattle.cc_counted.proofs.GivingUp.{draining-same}
use Rattle.cc_counted.proofs.Holding.{held-same, names-same, numbers-same}

module _ (owned : List ℕ) (l : Lists) (es : List Event) (p : IsPlaced l) (b : IsBalanced owned (draining_of l es))
    (key : ℕ) (ks : List ℕ) (c : Placed) (at : cell_at l.cells key ≡ Some c) (front : l.queue ≡ key ∷ ks) where
  abbrev pub d : Draining
  d = draining_of l es

  abbrev pub left : Lists
  left = taken_out l key ks

  abbrev pub numbers : Counts
  numbers = keyed l.cells

  -- the numbers that wait
  pub queue-numbers : d.queue ≡ c.number ∷ map (the_number numbers) ks
  queue-numbers = ap (map (the_number numbers)) front ∙ ap (λ k. k ∷ map (the_number numbers) ks) (the_number-cell l.cells key c at)

  pub found : native_at d.heap c.number ≡ Some (shown numbers (Some c))
  found = native_at-cell l p key c at

  above_zero : (n : ℕ) → 1 ≤ one_at_zero n → n ≡ 0
  above_zero zero s = refl
  above_zero (suc n) s = absurd (omega arith)

  waits_once : times c.number d.queue ≡ 1 + times c.number (map (the_number numbers) ks)
  waits_once = ap (times c.number) queue-numbers ∙ times-cons_same c.number (map (the_number numbers) ks)

  waits_by_count : times c.number d.queue ≡ one_at_zero c.count
  waits_by_count = b.queue c.number ∙ ap waits found

  -- its count is zero
  pub count-zero : c.count ≡ 0
  count-zero = above_zero c.count (omega (arith, waits_once, waits_by_count))

  -- so nothing refers to it
  no_refs : refs_to d.heap c.number ≡ 0
  no_refs = omega (arith, b.counts c.number, ap count_of found, count-zero)

  -- it waits only once
  pub not_behind : (k : ℕ) → Among k ks → k ≢ key
  not_behind k m e = grind (arith, times-some, the_number-cell, Among-map, count-zero, waits_once, waits_by_count)

  -- and is not in the buffer
  pub not_marked : (m : Marked) → Among m l.marks → m.key ≢ key
  not_marked m n e = grind (arith, the_number-cell, count_by-some, Among-map, eq-eqb, found, count-zero, b.buffer)

  -- no slot holds it
  not_held : (k : ℕ) (a : Placed) (x : Option Held) (j : ℕ) → cell_at l.cells k ≡ Some a → Among x a.slots → x ≡ Some (held.Native (record { 0 = j })) → j ≢ key
  not_held k a x j e m held_at same =
      let named : name_of numbers x ≡ Some (native c.number) =
      ap (name_of numbers) held_at ∙ ap (option_map native) (ap (number_at numbers) same ∙ number_at-cell l.cells key c at) in
      let name_there : Among (Some (native c.number)) (shown numbers (Some a)).slots =
      subst (λ y. Among y (shown numbers (Some a)).slots) named (Among-map (name_of numbers) x a.slots m) in
      let inside : Among (native c.number) (contents (shown numbers (Some a)).slots) = Among-flat_map option_to_list (Some (native c.number)) (native c.number) (shown numbers (Some a)).slots name_there (inl refl) in
      let there : Among (shown numbers (Some a)) d.heap.natives =
      subst (λ n. Among n d.heap.natives) (ap (shown numbers) e) (Among-map (shown_at l.cells) k l.order (p.ordered k a e)) in
      let some : 1 ≤ refs_to d.heap c.number = refs_to-slot d.heap c.number (shown numbers (Some a)) there inside in
      omega (arith, no_refs)

  -- every other key has what it had
  pub cell-other : (k : ℕ) → k ≢ key → cell_at left.cells k ≡ cell_at l.cells k
  cell-other k o = get_or-set_other l.cells key k None None o

  pub cell-gone : cell_at left.cells key ≡ None
  cell-gone = get_or-set_same l.cells key None None (cell-within l.cells key c at)

  pub number-other : (k : ℕ) → k ≢ key → number_at (keyed left.cells) k ≡ number_at numbers k
  number-other k o = number_at-cells left.cells k ∙ (ap cell_number (cell-other k o) ∙ sym (number_at-cells l.cells k))

  the_number-other : (k : ℕ) → k ≢ key → the_number (keyed left.cells) k ≡ the_number numbers k
  the_number-other k o = ap number_or_none (number-other k o)

  -- what is found after it is taken out was there before, at another key
  cell-left : (k : ℕ) (a : Placed) → cell_at left.cells k ≡ Some a → (k ≢ key) × (cell_at l.cells k ≡ Some a)
  cell-left k a e = grind (arith, cell-gone, cell-other)

  still_there : (k : ℕ) → k ≢ key → (a : Placed) × (cell_at l.cells k ≡ Some a) → (a : Placed) × (cell_at left.cells k ≡ Some a)
  still_there k o f = (f.0, cell-other k o ∙ f.1)

  -- what slots hold is the same
  slot-same : (k : ℕ) (a : Placed) (x : Option Held) → cell_at l.cells k ≡ Some a → Among x a.slots →
      (name_of (keyed left.cells) x ≡ name_of numbers x) × (is_live (keyed left.cells) x ≡ is_live numbers x)
      × (numbers_held (keyed left.cells) x ≡ numbers_held numbers x)
  slot-same k a x e m = held-same numbers (keyed left.cells) x (λ j s. number-other j (not_held k a x j e m s))

  -- its own too
  pub numbers-left : numbers_in (keyed left.cells) c.slots ≡ numbers_in numbers c.slots
  numbers-left = numbers-same numbers (keyed left.cells) c.slots (λ x m. (slot-same key c x at m).2)

  pub live-left : (x : Option Held) → Among x c.slots → is_live (keyed left.cells) x ≡ true
  live-left x m = (slot-same key c x at m).1 ∙ p.held key c x at m

  others : ℕ → Bool
  others k = not (k == key)

  other-key : (k : ℕ) → Among k (without ◌==◌ key l.order) → k ≢ key
  other-key k m e = true≢false (sym (Among-passes (λ k. not (k == key)) k l.order m) ∙ ap not (eq-eqb k key e))

  order-test : (k : ℕ) → Among k l.order → not (k == key) ≡ not (the_number numbers k == c.number)
  order-test k m = let f = p.in_order k m in ap not (key-test l p key c at k f.0 f.1)

  -- the native is taken out by its number
  natives-left : map (shown_at left.cells) (without ◌==◌ key l.order) ≡ filter (λ n. not (n.number == c.number)) (map (shown_at l.cells) l.order)
  natives-left =
      map-agree (shown_at left.cells) (shown_at l.cells) (without ◌==◌ key l.order) each
      ∙ (ap (map (shown_at l.cells))
      (filter-agree (λ k. not (k == key)) (λ k. not ((shown_at l.cells k).number == c.number)) l.order
      (λ k m. order-test k m ∙ ap (λ j. not (j == c.number)) (sym (shown-number l.cells k))))
      ∙ sym (filter-map (λ (n : HeapNative). not (n.number == c.number)) (shown_at l.cells) l.order))
    where
      shown-same : (k : ℕ) (a : Placed) → cell_at l.cells k ≡ Some a → shown (keyed left.cells) (Some a) ≡ shown numbers (Some a)
      shown-same k a e = ap (λ ys. shown_with ys a)
          (names-same numbers (keyed left.cells) a.slots (λ x m. (slot-same k a x e m).0))

      each : (k : ℕ) → Among k (without ◌==◌ key l.order) → shown_at left.cells k ≡ shown_at l.cells k
      each k m =
          let o = other-key k m in
          let f = p.in_order k (Among-filtered (λ k. not (k == key)) k l.order m) in
          ap (shown (keyed left.cells)) (cell-other k o ∙ f.1) ∙ (shown-same k f.0 f.1 ∙ ap (shown numbers) (sym f.1))

  buffer-left : map (marked_number (keyed left.cells)) l.marks ≡ map (marked_number numbers) l.marks
  buffer-left = search (map-agree, the_number-other, not_marked)

  queue-left : map (the_number (keyed left.cells)) ks ≡ map (the_number numbers) ks
  queue-left = map-agree (the_number (keyed left.cells)) (the_number numbers) ks (λ k m. the_number-other k (not_behind k m))

  -- WHAT IS LEFT, while natives are deleted
  pub draining-left : (fs : List Event) → draining_of left fs ≡ record (without_native (told_free d c.number (map (the_number numbers) ks)) c.number) { events = fs }
  draining-left fs = draining-same _ _ _ _ _ _ fs natives-left buffer-left queue-left

  -- the lists fit together
  pub IsPlaced-left : IsPlaced left
  IsPlaced-left = record {
    in_order = λ k m. still_there k (other-key k m) (p.in_order k (Among-filtered (λ k. not (k == key)) k l.order m));
    ordered = λ k a e. let f = cell-left k a e in
        Among-filter (λ k. not (k == key)) k l.order (p.ordered k a f.1) (ap not (ne_eqb k key f.0));
    rising = rising;
    small = λ k a e. let f = cell-left k a e in p.small k a f.1;
    held = λ k a x e m. let f = cell-left k a e in (slot-same k a x f.1 m).1 ∙ p.held k a x f.1 m;
    queued = λ k m. still_there k (not_behind k m) (p.queued k (subst (λ ks. Among k ks) (sym front) (inr m)));
    marked = λ m n. still_there m.key (not_marked m n) (p.marked m n);
    walking = λ k m. let f = member-left key l.walk k m in still_there k f.1 (p.walking k f.0);
  }
    where
      rising : IsRising (map (the_number (keyed left.cells)) (without ◌==◌ key l.order))
      rising = subst IsRising (sym
          (map-agree (the_number (keyed left.cells)) (the_number numbers) (without ◌==◌ key l.order) (λ k m. the_number-other k (other-key k m))
          ∙ (ap (map (the_number numbers)) (filter-agree (λ k. not (k == key)) (λ k. not (the_number numbers k == c.number)) l.order order-test)
          ∙ sym (filter-map (λ j. not (j == c.number)) (the_number numbers) l.order))))
          (IsRising-filter (λ j. not (j == c.number)) (map (the_number numbers) l.order) p.rising)

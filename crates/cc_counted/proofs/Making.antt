-- A NATIVE MADE at a key that held nothing.
use Rattle.std.proofs.Common.{◌≡◌, ◌≢◌, ◌<◌, ◌≤◌, ℕ, zero, suc, List, [], ◌∷◌, ◌++◌, map, length, replicate, Option, Some, None, true, false, sym, ◌∙◌, ap, subst, ⊎_elim, ◌⊎◌, inl, inr, arith}
use Rattle.std.proofs.lemmas.Bool.Decides.{eqb_tells}
use Rattle.std.proofs.lemmas.List.{map-append, length-map, length-replicate}
use Rattle.cc_lists.proofs.Held.{map-replicate}
use Rattle.cc_lists.specs.Members.{Among}
use Rattle.cc_lists.proofs.Members.{Among-append, Among-left, Among-right, Among-map_cases}
use Rattle.cc_model.specs.Slots.{empty_slots}
use Rattle.cc_model.specs.Heap.{HeapNative, Buffered, buffered_as, new_native}
use Rattle.cc_model.specs.Heap as heap
use Rattle.cc_model.specs.WellFormed.{IsRising}
use Rattle.cc_laws_heap.proofs.Face.{IsRising-push, native_at-named}
use Rattle.cc_counted.specs.declared.held.Held.{Held}
use Rattle.cc_counted.specs.Counts.{number_at, number_or_none, the_number, name_of, is_live, heap_of}
use Rattle.cc_counted.specs.Owning.{HasKeys, Makes}
use Rattle.cc_counted.specs.Lists.{Placed, Lists, cell_at, reflector_placed, keyed, names_in, shown, shown_at, marked_number, counts_of, IsPlaced, made, shown_with}
use Rattle.cc_counted.proofs.Places.{cell_number, number_at-cells, reflector_at-cells, number_at-cell, number_at-found, the_number-cell, natives-numbers, natives-rising, native_at-cell, native-key, one_key}
use Rattle.cc_lists.proofs.ListWrites.{map-agree}
use Rattle.cc_names.specs.Sizes.{most_slots}
use Rattle.cc_counted.proofs.States.{states-shown}
use Rattle.cc_counted.proofs.Marking.{buffer-with_mark, with_mark-there}
use Rattle.cc_counted.proofs.Each.{live-cell}
use Rattle.cc_counted.proofs.Holding.{held-same, names-same}

-- the keys of lists that fit together are keys of the natives
pub HasKeys-placed : (l : Lists) → IsPlaced l → HasKeys (counts_of l)
HasKeys-placed l p = record {
  key_of = λ n m. let f = native-key l p n m in
      (f.0, number_at-cell l.cells f.0 f.1 f.2 ∙ ap (λ (a : HeapNative). Some a.number) f.3);
  there = λ key k e. let f = number_at-found l.cells key k e in
      native_at-named (heap_of (counts_of l)) k (shown (keyed l.cells) (Some f.0))
      (subst (λ j. heap.native_at (heap_of (counts_of l)) j ≡ Some (shown (keyed l.cells) (Some f.0))) f.2 (native_at-cell l p key f.0 f.1));
  one_key = λ a b k e f.
      let c = number_at-found l.cells a k e in
      let d = number_at-found l.cells b k f in
      one_key l p a b c.0 d.0 c.1 d.1 (c.2 ∙ sym d.2);
  rising = natives-rising l p;
}

module _ (l : Lists) (p : IsPlaced l) (key : ℕ) (d : Placed) (cells : List (Option Placed)) (vacant : cell_at l.cells key ≡ None) (at : cell_at cells key ≡ Some d)
    (others : (k : ℕ) → k ≢ key → cell_at cells k ≡ cell_at l.cells k)
    (above : (n : HeapNative) → Among n (counts_of l).natives → n.number < d.number) (size : ℕ) (empty : d.slots ≡ replicate size None) where
  -- a key of a native is another
  other-key : (k : ℕ) (c : Placed) → cell_at l.cells k ≡ Some c → k ≢ key
  other-key k c e s = let bad : None ≡ Some c = sym vacant ∙ (ap (cell_at l.cells) (sym s) ∙ e) in cc

  number-other : (k : ℕ) → k ≢ key → number_at (keyed cells) k ≡ number_at (keyed l.cells) k
  number-other k o = number_at-cells cells k ∙ (ap cell_number (others k o) ∙ sym (number_at-cells l.cells k))

  there : (k : ℕ) → (c : Placed) × (cell_at l.cells k ≡ Some c) → (c : Placed) × (cell_at cells k ≡ Some c)
  there k f = (f.0, others k (other-key k f.0 f.1) ∙ f.1)

  the_number-there : (k : ℕ) → (c : Placed) × (cell_at l.cells k ≡ Some c) → the_number (keyed cells) k ≡ the_number (keyed l.cells) k
  the_number-there k f = ap number_or_none (number-other k (other-key k f.0 f.1))

  -- what slots hold is the same
  slot-same : (x : Option Held) → is_live (keyed l.cells) x ≡ true → (name_of (keyed cells) x ≡ name_of (keyed l.cells) x) × (is_live (keyed cells) x ≡ is_live (keyed l.cells) x)
  slot-same x live =
      let same = held-same (keyed l.cells) (keyed cells) x (λ j e.
      let f = live-cell l.cells j (subst (λ y. is_live (keyed l.cells) y ≡ true) e live) in
      number-other j (other-key j f.0 f.1)) in
      (same.0, same.1)

  no-slots : (x : Option Held) → Among x d.slots → x ≡ None
  no-slots x m = go size (subst (λ xs. Among x xs) empty m)
    where
      go : (n : ℕ) → Among x (replicate n None) → x ≡ None
      go zero w = absurd w
      go (suc n) w = ⊎_elim (λ e. sym e) (λ t. go n t) w

  cell-cases : (k : ℕ) (c : Placed) → cell_at cells k ≡ Some c → ((k ≡ key) × (c ≡ d)) ⊎ (cell_at l.cells k ≡ Some c)
  cell-cases k c e = ⊎_elim
      (λ t. let both : Some d ≡ Some c = sym (ap (cell_at cells) t.1 ∙ at) ∙ e in inl (t.1, cc))
      (λ t. inr (sym (others k t.1) ∙ e)) (eqb_tells k key)

  -- the lists with the native, which is not in the buffer yet
  abbrev unmarked : Lists
  unmarked = record l { cells = cells; order = l.order ++ key ∷ [] }

  numbers-made : map (the_number (keyed cells)) (l.order ++ key ∷ []) ≡ map (the_number (keyed l.cells)) l.order ++ d.number ∷ []
  numbers-made =
      map-append (the_number (keyed cells)) l.order (key ∷ [])
      ∙ (ap (λ ks. ks ++ the_number (keyed cells) key ∷ []) (map-agree (the_number (keyed cells)) (the_number (keyed l.cells)) l.order (λ k m. the_number-there k (p.in_order k m)))
      ∙ ap (λ n. map (the_number (keyed l.cells)) l.order ++ n ∷ []) (the_number-cell cells key d at))

  below : (k : ℕ) → Among k (map (the_number (keyed l.cells)) l.order) → k < d.number
  below k m =
      let f = Among-map_cases (λ (n : HeapNative). n.number) (counts_of l).natives k (subst (λ ks. Among k ks) (sym (natives-numbers l)) m) in
      subst (λ j. j < d.number) f.2 (above f.0 f.1)

  placed-unmarked : size ≤ most_slots → IsPlaced unmarked
  placed-unmarked few = record {
    in_order = λ k m. ⊎_elim (λ t. there k (p.in_order k t)) (λ t. ⊎_elim (λ e. (d, ap (cell_at cells) (sym e) ∙ at)) (λ x. absurd x) t) (Among-append k l.order (key ∷ []) m);
    ordered = λ k c e. ⊎_elim
        (λ t. Among-right k l.order (key ∷ []) (inl (sym t.0)))
        (λ t. Among-left k l.order (key ∷ []) (p.ordered k c t)) (cell-cases k c e);
    rising = subst IsRising (sym numbers-made) (IsRising-push (map (the_number (keyed l.cells)) l.order) d.number p.rising below);
    small = λ k c e. ⊎_elim
        (λ t. let long : length d.slots ≡ size = ap length empty ∙ length-replicate size None in subst (λ (c : Placed). length c.slots ≤ most_slots) (sym t.1) (omega arith))
        (λ t. p.small k c t) (cell-cases k c e);
    held = λ k c x e m. ⊎_elim
        (λ t. ap (is_live (keyed cells)) (no-slots x (subst (λ (c : Placed). Among x c.slots) t.1 m)))
        (λ t. (slot-same x (p.held k c x t m)).1 ∙ p.held k c x t m) (cell-cases k c e);
    queued = λ k m. there k (p.queued k m);
    marked = λ m n. there m.key (p.marked m n);
    walking = λ k m. there k (p.walking k m);
  }

  pub placed-made : size ≤ most_slots → IsPlaced (made l cells key)
  placed-made few = let q = placed-unmarked few in record {
    in_order = q.in_order;
    ordered = q.ordered;
    rising = q.rising;
    small = q.small;
    held = q.held;
    queued = q.queued;
    marked = λ m n. with_mark-there unmarked q key d at false l.marks q.marked m n;
    walking = q.walking;
  }

  pub natives-made : (counts_of (made l cells key)).natives ≡ (counts_of l).natives ++ shown_with (empty_slots size) d ∷ []
  natives-made =
      map-append (shown_at cells) l.order (key ∷ [])
      ∙ (ap (λ ns. ns ++ shown_at cells key ∷ []) (map-agree (shown_at cells) (shown_at l.cells) l.order each)
      ∙ ap (λ n. map (shown_at l.cells) l.order ++ n ∷ []) last)
    where
      each : (k : ℕ) → Among k l.order → shown_at cells k ≡ shown_at l.cells k
      each k m =
          let f = p.in_order k m in
          ap (shown (keyed cells)) (others k (other-key k f.0 f.1) ∙ f.1)
          ∙ (ap (λ ys. shown_with ys f.0)
          (names-same (keyed l.cells) (keyed cells) f.0.slots (λ x w. (slot-same x (p.held k f.0 x f.1 w)).0))
          ∙ ap (shown (keyed l.cells)) (sym f.1))

      names : names_in (keyed cells) d.slots ≡ empty_slots size
      names = ap (names_in (keyed cells)) empty ∙ map-replicate (name_of (keyed cells)) size None

      last : shown_at cells key ≡ shown_with (empty_slots size) d
      last = ap (shown (keyed cells)) at ∙ ap (λ ys. shown_with ys d) names

  pub buffer-made : size ≤ most_slots → (counts_of (made l cells key)).buffer ≡ heap.with_mark false d.number (counts_of l).buffer
  buffer-made few =
      let q = placed-unmarked few in
      buffer-with_mark unmarked q key d at false l.marks q.marked
      ∙ ap (heap.with_mark false d.number)
      (map-agree (marked_number (keyed cells)) (marked_number (keyed l.cells)) l.marks
      (λ m n. ap (λ j. buffered_as j m.purple) (the_number-there m.key (p.marked m n))))

  pub key-made : number_at (counts_of (made l cells key)) key ≡ Some d.number
  key-made = number_at-cell cells key d at

  pub others-made : (k : ℕ) → k ≢ key → number_at (counts_of (made l cells key)) k ≡ number_at (counts_of l) k
  others-made k o = number-other k o

  pub vacant-before : number_at (counts_of l) key ≡ None
  vacant-before = number_at-cells l.cells key ∙ ap cell_number vacant

  pub Makes-made : size ≤ most_slots → d.preserved ≡ false → d.unlinked ≡ false → d.reflector ≡ None → d.count ≡ 1 →
      Makes (counts_of l) (counts_of (made l cells key)) key d.number size
  Makes-made few off linked bare one = record {
    natives = natives-made
        ∙ (ap (λ on. (counts_of l).natives ++ record (shown_with (empty_slots size) d) { preserved = on } ∷ []) off
        ∙ (ap (λ on. (counts_of l).natives ++ record (shown_with (empty_slots size) d) { preserved = false; unlinked = on } ∷ []) linked
        ∙ ap (λ n. (counts_of l).natives ++ record (new_native d.number size) { count = n } ∷ []) one));
    buffer = buffer-made few;
    there = key-made;
    others = others-made;
    vacant = vacant-before;
    keyed = HasKeys-placed (made l cells key) (placed-made few);
    reflector = reflector_at-cells (made l cells key) key ∙ (ap reflector_placed at ∙ bare);
    other_reflectors = λ k o. reflector_at-cells (made l cells key) k ∙ (ap reflector_placed (others k o) ∙ sym (reflector_at-cells l k));
    as_many = length-map cells reflector_placed ∙ sym (length-map cells cell_number);
    walks = λ q. states-shown (made l cells key) (placed-made few) q ∙ sym (states-shown l p q);
  }

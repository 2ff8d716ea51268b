-- KEYS THAT COME TO HOLD NOTHING as natives leave: those of the natives that are no more.
use Rattle.std.proofs.Common.{◌≡◌, ℕ, zero, suc, List, [], ◌∷◌, map, length, get_or, Option, Some, None, option_map, is_some, if◌then◌else◌, refl, sym, ◌∙◌, ap, subst, ⊎_elim, inl, inr, ◌<◌, arith}
use Rattle.std.proofs.Math.ListN.{get_or-map}
use Rattle.std.proofs.lemmas.List.{ext_get_or, length-map}
use Rattle.cc_model.specs.Heap.{Heap, HeapNative, native_at}
use Rattle.cc_laws_heap.proofs.Face.{native_at-number, native_at-there}
use Rattle.cc_counted.specs.Counts.{number_at, heap_of, key_left, reflectors_left, state_left, walks_left, left_with}
use Rattle.cc_counted.specs.Lists.{Placed, Lists, cell_at, reflector_placed, without_count, keyed, shown, counts_of, states_below, IsPlaced, LeavesCells, LeavesKeys}
use Rattle.cc_names.specs.declared.kind.Walked.TheVariants.{Out}
use Rattle.cc_walk.specs.Walks.{states_of}
use Rattle.cc_walk.proofs.Sets.{states-absent}
use Rattle.cc_counted.proofs.Places.{cell_number, number_at-cells, number_at-cell, number_at-found, one_key, native_at-cell, native-key}
use Rattle.cc_counted.proofs.Adding.{counts-same}
use Rattle.cc_counted.proofs.States.{states-length, states-at, walks_left-length, walks_left-at}

pub LeavesKeys-kept : (old new : Lists) → length new.cells ≡ length old.cells → keyed new.cells ≡ keyed old.cells →
    map reflector_placed new.cells ≡ map reflector_placed old.cells → new.walk ≡ old.walk → LeavesKeys old new
LeavesKeys-kept old new n e r w = record {
  as_many = n;
  each = λ key. inr (ap (λ c. number_at c key) e);
  reflectors = λ key c at.
      sym (ap reflector_placed at)
      ∙ (sym (get_or-map reflector_placed new.cells key None) ∙ (ap (λ rs. get_or rs key None) r ∙ get_or-map reflector_placed old.cells key None));
  walk = λ key c at. ap (λ v. states_of v key) w;
}

pub LeavesKeys-then : (a b c : Lists) → LeavesKeys a b → LeavesKeys b c → LeavesKeys a c
LeavesKeys-then a b c p q = record {
  as_many = q.as_many ∙ p.as_many;
  each = λ key. ⊎_elim (λ none. inl none) (λ same. ⊎_elim (λ none. inl (same ∙ none)) (λ e. inr (same ∙ e)) (p.each key)) (q.each key);
  reflectors = λ key x at. let f = before key x at in q.reflectors key x at ∙ (ap reflector_placed f.1 ∙ p.reflectors key f.0 f.1);
  walk = λ key x at. let f = before key x at in q.walk key x at ∙ p.walk key f.0 f.1;
}
  where
    -- what is still there was there in between
    before : (key : ℕ) (x : Placed) → cell_at c.cells key ≡ Some x → (y : Placed) × (cell_at b.cells key ≡ Some y)
    before key x at = ⊎_elim
        (λ none. let bad : None ≡ Some x.number = sym none ∙ number_at-cell c.cells key x at in absurd (cc))
        (λ same. let f = number_at-found b.cells key x.number (sym same ∙ number_at-cell c.cells key x at) in (f.0, f.1)) (q.each key)

pub LeavesCells-same : (l : Lists) → LeavesCells l l
LeavesCells-same l = record { as_many = refl; each = λ key. inr refl; walk = λ key c at. refl }

-- where there is no native without its count, there is none
pub stays-gone : (o : Option Placed) → option_map without_count o ≡ None → o ≡ None
stays-gone None e = refl
stays-gone (Some d) e = absurd (cc)

-- where there is one, there is a native
stays-there : (o p : Option Placed) (c : Placed) → option_map without_count o ≡ option_map without_count p → o ≡ Some c → (d : Placed) × (p ≡ Some d)
stays-there o None c e at = let bad : Some (without_count c) ≡ None = sym (ap (option_map without_count) at) ∙ e in absurd (cc)
stays-there o (Some d) c e at = (d, refl)

pub LeavesCells-then : (a b c : Lists) → LeavesCells a b → LeavesCells b c → LeavesCells a c
LeavesCells-then a b c p q = record {
  as_many = q.as_many ∙ p.as_many;
  each = λ key. ⊎_elim
      (λ none. inl none)
      (λ same. ⊎_elim (λ none. inl (stays-gone (cell_at c.cells key) (same ∙ ap (option_map without_count) none))) (λ e. inr (same ∙ e)) (p.each key))
      (q.each key);
  walk = λ key x at. let f = before key x at in q.walk key x at ∙ p.walk key f.0 f.1;
}
  where
    before : (key : ℕ) (x : Placed) → cell_at c.cells key ≡ Some x → (y : Placed) × (cell_at b.cells key ≡ Some y)
    before key x at = ⊎_elim
        (λ none. let bad : None ≡ Some x = sym none ∙ at in absurd (cc))
        (λ same. stays-there (cell_at c.cells key) (cell_at b.cells key) x same at) (q.each key)

-- natives that stay keep their numbers
pub LeavesKeys-cells : (a b : Lists) → LeavesCells a b → LeavesKeys a b
LeavesKeys-cells a b p = record {
  as_many = p.as_many;
  each = λ key. ⊎_elim
      (λ none. inl (number_at-cells b.cells key ∙ ap cell_number none))
      (λ same. inr (number_at-cells b.cells key ∙ (sym (bare (cell_at b.cells key)) ∙ (ap cell_number same ∙ (bare (cell_at a.cells key) ∙ sym (number_at-cells a.cells key))))))
      (p.each key);
  reflectors = λ key c at. sym (ap reflector_placed at) ∙ ⊎_elim
      (λ none. let bad : None ≡ Some c = sym none ∙ at in absurd (cc))
      (λ same. sym (reflected (cell_at b.cells key)) ∙ (ap reflector_placed same ∙ reflected (cell_at a.cells key)))
      (p.each key);
  walk = p.walk;
}
  where
    reflected : (o : Option Placed) → reflector_placed (option_map without_count o) ≡ reflector_placed o
    reflected None = refl
    reflected (Some c) = refl

    bare : (o : Option Placed) → cell_number (option_map without_count o) ≡ cell_number o
    bare None = refl
    bare (Some c) = refl

-- where natives left, the reflectors that are left are those of the natives that stayed
reflectors-left : (new old : List (Option Placed)) → length new ≡ length old → ((key : ℕ) (c : Placed) → cell_at new key ≡ Some c → c.reflector ≡ reflector_placed (cell_at old key)) →
    map reflector_placed new ≡ reflectors_left (map cell_number new) (map reflector_placed old)
reflectors-left [] old n e = refl
reflectors-left (x ∷ new) [] n e = absurd (cc)
reflectors-left (None ∷ new) (y ∷ old) n e = ap (λ rs. None ∷ rs) (reflectors-left new old (cc) (λ key. e (suc key)))
reflectors-left (Some d ∷ new) (y ∷ old) n e =
    ap (λ r. r ∷ map reflector_placed new) (e zero d refl)
    ∙ ap (λ rs. reflector_placed y ∷ rs) (reflectors-left new old (cc) (λ key. e (suc key)))

module _ (old new : Lists) (p : IsPlaced old) (q : IsPlaced new) (left : LeavesKeys old new) where
  abbrev heap : Heap
  heap = heap_of (counts_of new)

  keys : Lists → List (Option ℕ)
  keys l = map cell_number l.cells

  -- a number that is still there stands at its key
  there : (key k : ℕ) → number_at (keyed new.cells) key ≡ Some k → key_left heap (Some k) ≡ Some k
  there key k e =
      let f = number_at-found new.cells key k e in
      let found : native_at heap k ≡ Some (shown (keyed new.cells) (Some f.0)) = subst (λ j. native_at heap j ≡ Some (shown (keyed new.cells) (Some f.0))) f.2 (native_at-cell new q key f.0 f.1) in
      rw found refl

  -- and one whose key holds nothing is no more
  gone : (key k : ℕ) → number_at (keyed new.cells) key ≡ None → number_at (keyed old.cells) key ≡ Some k → key_left heap (Some k) ≡ None
  gone key k e f = go (native_at heap k) refl
    where
      go : (o : Option HeapNative) → native_at heap k ≡ o → key_left heap (Some k) ≡ None
      go None g = rw g refl
      go (Some n) g =
          let w = native-key new q n (native_at-there heap k n g) in
          let named : w.1.number ≡ k = ap (λ (m : HeapNative). m.number) w.3 ∙ native_at-number heap k n g in
          let now : number_at (keyed new.cells) w.0 ≡ Some k = number_at-cell new.cells w.0 w.1 w.2 ∙ ap Some named in
          let before : number_at (keyed old.cells) w.0 ≡ Some k = ⊎_elim
          (λ none. let bad : None ≡ Some k = sym none ∙ now in absurd (cc))
          (λ same. sym same ∙ now) (left.each w.0) in
          let a = number_at-found old.cells key k f in
          let b = number_at-found old.cells w.0 k before in
          let same : key ≡ w.0 = one_key old p key w.0 a.0 b.0 a.1 b.1 (a.2 ∙ sym b.2) in
          let bad : None ≡ Some k = sym e ∙ (ap (number_at (keyed new.cells)) same ∙ now) in
          absurd (cc)

  key-left : (key : ℕ) → number_at (keyed new.cells) key ≡ key_left heap (number_at (keyed old.cells) key)
  key-left key = ⊎_elim
      (λ none. after_none none (number_at (keyed old.cells) key) refl)
      (λ same. after_same same (number_at (keyed new.cells) key) refl) (left.each key)
    where
      after_none : number_at (keyed new.cells) key ≡ None → (o : Option ℕ) → number_at (keyed old.cells) key ≡ o → number_at (keyed new.cells) key ≡ key_left heap (number_at (keyed old.cells) key)
      after_none none None e = none ∙ sym (ap (key_left heap) e)
      after_none none (Some k) e = none ∙ sym (ap (key_left heap) e ∙ gone key k none e)

      after_same : number_at (keyed new.cells) key ≡ number_at (keyed old.cells) key → (o : Option ℕ) → number_at (keyed new.cells) key ≡ o →
          number_at (keyed new.cells) key ≡ key_left heap (number_at (keyed old.cells) key)
      after_same same None e = e ∙ sym (ap (key_left heap) (sym same ∙ e))
      after_same same (Some k) e = e ∙ sym (ap (key_left heap) (sym same ∙ e) ∙ there key k e)

  keys-left : map cell_number new.cells ≡ map (key_left heap) (map cell_number old.cells)
  keys-left =
      ext_get_or None (map cell_number new.cells) (map (key_left heap) (map cell_number old.cells))
      (length-map new.cells cell_number ∙ (left.as_many ∙ sym (length-map (map cell_number old.cells) (key_left heap) ∙ length-map old.cells cell_number)))
      (λ i l. key-left i ∙ sym (get_or-map (key_left heap) (map cell_number old.cells) i None))

  -- a native that left is in no walk, and the others stand there as they did
  walks-left : states_below (length new.cells) (states_of new.walk) ≡ walks_left heap (map cell_number old.cells) (states_below (length old.cells) (states_of old.walk))
  walks-left =
      ap (λ n. states_below n (states_of new.walk)) left.as_many
      ∙ ext_get_or Out (states_below (length old.cells) (states_of new.walk)) (walks_left heap (map cell_number old.cells) (states_below (length old.cells) (states_of old.walk)))
      (states-length (length old.cells) (states_of new.walk)
      ∙ sym (walks_left-length heap (map cell_number old.cells) (states_below (length old.cells) (states_of old.walk)) ∙ states-length (length old.cells) (states_of old.walk)))
      (λ i l.
      let within : i < length old.cells = omega (arith, l, states-length (length old.cells) (states_of new.walk)) in
      states-at (length old.cells) (states_of new.walk) i within
      ∙ (at i (number_at (keyed old.cells) i) refl
      ∙ sym (walks_left-at heap (map cell_number old.cells) (states_below (length old.cells) (states_of old.walk)) i
      ∙ ap (state_left heap (get_or (map cell_number old.cells) i None)) (states-at (length old.cells) (states_of old.walk) i within))))
    where
      -- a key that holds nothing is in no walk
      out : (l : Lists) → IsPlaced l → (key : ℕ) → number_at (keyed l.cells) key ≡ None → states_of l.walk key ≡ Out
      out l placed key none = states-absent l.walk key (λ m.
          let f = placed.walking key m in
          let bad : None ≡ Some f.0.number = sym none ∙ number_at-cell l.cells key f.0 f.1 in
          absurd (cc))

      stays : (key k : ℕ) → number_at (keyed old.cells) key ≡ Some k → (o : Option HeapNative) → native_at heap k ≡ o →
          states_of new.walk key ≡ (if is_some (native_at heap k) then states_of old.walk key else Out)
      stays key k e None g = out new q key (key-left key ∙ (ap (key_left heap) e ∙ rw (g) refl)) ∙ sym (ap (λ (o : Option HeapNative). if is_some o then states_of old.walk key else Out) g)
      stays key k e (Some n) g =
          let f = number_at-found new.cells key k (key-left key ∙ (ap (key_left heap) e ∙ rw (g) refl)) in
          left.walk key f.0 f.1 ∙ sym (ap (λ (o : Option HeapNative). if is_some o then states_of old.walk key else Out) g)

      at : (key : ℕ) (o : Option ℕ) → number_at (keyed old.cells) key ≡ o → states_of new.walk key ≡ state_left heap (number_at (keyed old.cells) key) (states_of old.walk key)
      at key None e =
          out new q key (key-left key ∙ ap (key_left heap) e) ∙ (sym (out old p key e) ∙ sym (ap (λ (o : Option ℕ). state_left heap o (states_of old.walk key)) e))
      at key (Some k) e = stays key k e (native_at heap k) refl ∙ sym (ap (λ (o : Option ℕ). state_left heap o (states_of old.walk key)) e)

  -- WHAT IS LEFT: the natives and the buffer of the lists, and the keys, the reflectors and the states in a walk of the
  -- natives that are still there
  pub counts-left : counts_of new ≡ left_with (counts_of old) (heap_of (counts_of new))
  counts-left =
      counts-same _ _ _ _ _ _ _ _ _ _ refl refl keys-left
      (reflectors-left new.cells old.cells left.as_many left.reflectors ∙ ap (λ ks. reflectors_left ks (map reflector_placed old.cells)) keys-left)
      walks-left

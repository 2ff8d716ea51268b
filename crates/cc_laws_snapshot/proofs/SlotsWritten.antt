-- SLOTS WRITTEN: what was written is held, and what was held is, or is what the slot held.
use Rattle.std.proofs.Common.{◌≡◌, ℕ, zero, suc, ◌<◌, true, [], ◌∷◌, length, set, get_or, option_map, Option, Some, None, refl, sym, ◌∙◌, ap, subst, inl, inr, ◌⊎◌, ⊎_elim, arith}
use Rattle.std.specs.Option.{option_to_list}
use Rattle.std.proofs.lemmas.Bool.{eqb-true}
use Rattle.cc_lists.specs.Members.{Among}
use Rattle.cc_lists.proofs.Members.{Among-map, Among-left, Among-right, Among-append, Among-flat_map}
use Rattle.cc_lists.proofs.ListWrites.{changed_where-either}
use Rattle.cc_names.specs.declared.name.Name.{Name}
use Rattle.cc_names.specs.Names.{native, natives_in}
use Rattle.cc_model.specs.Slots.{Slots, contents}
use Rattle.cc_model.specs.Heap.{Heap, HeapNative, native_at, change_native, with_native_slot}
use Rattle.cc_laws_heap.proofs.Natives.{changed_at, native_at-there, native_at-member, native_at-change_same}
use Rattle.cc_laws_heap.specs.Balance.{HasDistinctNumbers, has_number}
use Rattle.cc_laws_heap.specs.Sound.{numbers_of}

-- Slots in general

-- what was written stands there
pub contents-written_there : (slots : Slots) (i : ℕ) (x : Option Name) (y : Name) → i < length slots → Among y (option_to_list x) →
    Among y (contents (set slots i x))
contents-written_there [] i x y l m = absurd (omega arith)
contents-written_there (s ∷ slots) zero x y l m = Among-left y (option_to_list x) (contents slots) m
contents-written_there (s ∷ slots) (suc i) x y l m =
    Among-right y (option_to_list s) (contents (set slots i x)) (contents-written_there slots i x y (omega arith) m)

-- what stood there does, or it is what the place held
pub contents-written_kept : (slots : Slots) (i : ℕ) (x : Option Name) (y : Name) → Among y (contents slots) →
    Among y (contents (set slots i x)) ⊎ Among y (option_to_list (get_or slots i None))
contents-written_kept [] i x y m = absurd m
contents-written_kept (s ∷ slots) zero x y m = grind (arith, Among-right, Among-append)
contents-written_kept (s ∷ slots) (suc i) x y m = ⊎_elim
    (λ l. inl (Among-left y (option_to_list s) (contents (set slots i x)) l))
    (λ r. ⊎_elim (λ a. inl (Among-right y (option_to_list s) (contents (set slots i x)) a)) (λ a. inr a) (contents-written_kept slots i x y r))
    (Among-append y (option_to_list s) (contents slots) m)

-- a native that a place holds is one of the numbers there
pub numbers_of-there : (x : Option Name) (i : ℕ) → Among (native i) (option_to_list x) → Among i (numbers_of x)
numbers_of-there x i m = Among-flat_map natives_in (native i) i (option_to_list x) m (inl refl)

-- A slot of a native

module _ (h : Heap) (k i : ℕ) (holder : HeapNative) (x : Option Name) where
  -- the native with the slot written is there
  pub slot_written-there : native_at h k ≡ Some holder → Among (with_native_slot i x holder) (change_native h k (with_native_slot i x)).natives
  slot_written-there found = native_at-there (change_native h k (with_native_slot i x)) k (with_native_slot i x holder)
      (native_at-change_same h k (with_native_slot i x) (λ n. refl) ∙ ap (option_map (with_native_slot i x)) found)

  -- what a native held in a slot it holds, or that slot held it
  pub slot_written-kept : HasDistinctNumbers h → native_at h k ≡ Some holder → (n : HeapNative) (y : Name) → Among n h.natives → Among y (contents n.slots) →
      ((m : HeapNative) × Among m (change_native h k (with_native_slot i x)).natives × (m.number ≡ n.number) × Among y (contents m.slots)) ⊎
      Among y (option_to_list (get_or holder.slots i None))
  slot_written-kept distinct found n y there held = ⊎_elim
      (λ s. inl (changed_at k (with_native_slot i x) n, Among-map (changed_at k (with_native_slot i x)) n h.natives there, s.0, s.1))
      (λ o. inr o)
      (changed_where-either Holds (has_number k) (with_native_slot i x) n this (inl (refl, held)))
    where
      Holds : HeapNative → Type 0
      Holds m = ((m.number ≡ n.number) × Among y (contents m.slots)) ⊎ Among y (option_to_list (get_or holder.slots i None))

      this : has_number k n ≡ true → Holds (with_native_slot i x n)
      this e =
          let both : Some n ≡ Some holder = sym (native_at-member h distinct n there) ∙ (ap (native_at h) (eqb-true n.number k e) ∙ found) in
          let same : n ≡ holder = cc in
          ⊎_elim
          (λ s. inl (refl, s))
          (λ s. inr (subst (λ (m : HeapNative). Among y (option_to_list (get_or m.slots i None))) same s))
          (contents-written_kept n.slots i x y held)

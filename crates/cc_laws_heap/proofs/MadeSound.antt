-- WHAT IS MADE, COUNTED: a native is made with one reference, which is owned; a reflector takes up one that was owned.
use Rattle.std.proofs.Common.{◌≡◌, ◌≢◌, ℕ, ◌+◌, ◌<◌, ◌≤◌, true, false, cond, List, [], ◌∷◌, ◌++◌, Option, Some, None, refl, sym, ◌∙◌, ap, subst, ⊎_elim, arith, ◌==◌}
use Rattle.std.specs.List.{find}
use Rattle.std.specs.Option.{option_or}
use Rattle.std.proofs.lemmas.Bool.{eq-eqb}
use Rattle.std.proofs.lemmas.Bool.Decides.{eqb_tells}
use Rattle.std.proofs.lemmas.Grind.{flat_map-append}
use Rattle.std.proofs.lemmas.List.Folds.{find-append}
use Rattle.cc_lists.proofs.Counting.{count_by-cons, count_by-append}
use Rattle.cc_names.specs.declared.name.Name.{Name}
use Rattle.cc_names.specs.Names.{reflector, same_name, behind}
use Rattle.cc_names.specs.Sizes.{most_slots}
use Rattle.cc_model.specs.Heap.{Heap, HeapNative, HeapScript, native_at, native_to_make}
use Rattle.cc_model.specs.Effects.{with_native}
use Rattle.cc_model.specs.Counts.{refs_to, times}
use Rattle.cc_laws_heap.specs.Sound.{IsSound}
use Rattle.cc_laws_heap.proofs.Natives.{native_at-named}
use Rattle.cc_laws_heap.proofs.References.{times-append, times-cons, times-cons_same, times-cons_other}
use Rattle.cc_laws_heap.proofs.Counted.{IsSound-counted, IsSound-from_counted}
use Rattle.cc_laws_heap.specs.Balance.{IsCounted, count_of, count_at}
use Rattle.cc_lists.proofs.ListWrites.{each-push}
use Rattle.cc_laws_heap.proofs.Making.{contents-empty, native_names-made, IsWellFormed-with_native, with_script_last, IsNewScript, IsWellFormed-with_script}

-- A native

module _ (owned : List ℕ) (h : Heap) (n : ℕ) (s : IsSound owned h) where
  -- the next number has no native
  next_unknown : (o : Option HeapNative) → native_at h (h.natives_made + 1) ≡ o → o ≡ None
  next_unknown None e = refl
  next_unknown (Some m) e =
      let made : h.natives_made + 1 ≤ h.natives_made = native_names-made h n s.well_formed (h.natives_made + 1) (native_at-named h (h.natives_made + 1) m e) in
      absurd (omega arith)

  -- what is found at a number after a native was made
  native_at-with_native : (j : ℕ) → native_at (with_native h n) j ≡ option_or (native_at h j) (find (λ m. m.number == j) (native_to_make h n ∷ []))
  native_at-with_native j = find-append (λ (m : HeapNative). m.number == j) h.natives (native_to_make h n ∷ [])

  -- the native that was made has count one
  count_at-new : count_at (with_native h n) (h.natives_made + 1) ≡ 1
  count_at-new =
      let none : native_at h (h.natives_made + 1) ≡ None = next_unknown (native_at h (h.natives_made + 1)) refl in
      ap count_of (native_at-with_native (h.natives_made + 1)) ∙ rw (none, eq-eqb (h.natives_made + 1) (h.natives_made + 1) refl) refl

  -- any other has its count of before
  count_at-old : (j : ℕ) → j ≢ h.natives_made + 1 → count_at (with_native h n) j ≡ count_at h j
  count_at-old j d = grind (arith, native_at-with_native)

  -- it holds nothing
  refs_to-with_native : (j : ℕ) → refs_to (with_native h n) j ≡ refs_to h j
  refs_to-with_native j = grind (arith, flat_map-append, count_by-append, contents-empty)

  -- A native is made: the reference to it is owned.
  pub with_native-sound : n ≤ most_slots → h.natives_made < h.limits.natives → IsSound ((h.natives_made + 1) ∷ owned) (with_native h n)
  with_native-sound few room = IsSound-from_counted ((h.natives_made + 1) ∷ owned) (with_native h n)
      (IsWellFormed-with_native h n s.well_formed few room)
      (λ j. ⊎_elim (same j) (other j) (eqb_tells j (h.natives_made + 1)))
      (each-push (λ m. 1 ≤ m.count) h.natives (native_to_make h n) s.none_zero (omega arith))
    where
      made : ℕ
      made = h.natives_made + 1

      counted : IsCounted owned h
      counted = IsSound-counted owned h s

      before : count_at h (h.natives_made + 1) ≡ 0
      before = ap count_of (next_unknown (native_at h (h.natives_made + 1)) refl)

      same : (j : ℕ) → ((j == made) ≡ true) × (j ≡ made) → count_at (with_native h n) j ≡ refs_to (with_native h n) j + times j (made ∷ owned)
      same j t = subst (λ i. count_at (with_native h n) i ≡ refs_to (with_native h n) i + times i (made ∷ owned)) (sym t.1)
          (omega (arith, count_at-new, before, counted made, refs_to-with_native made, times-cons_same made owned))

      other : (j : ℕ) → ((j == made) ≡ false) × (j ≢ made) → count_at (with_native h n) j ≡ refs_to (with_native h n) j + times j (made ∷ owned)
      other j t = omega (arith, count_at-old j t.1, counted j, refs_to-with_native j, times-cons_other j made owned (λ e. t.1 (sym e)))

-- A script object

-- a reflector refers to its native, other script objects to none
pub times-behind : (j : ℕ) (x : Name) → times j (behind x) ≡ cond (same_name x (reflector j)) 1 0
times-behind j x = grind (arith, times-cons)

-- A script object is made: a reflector holds the reference to its native, which was owned.
pub with_script-sound : (owned : List ℕ) (h : Heap) (o : HeapScript) (made : ℕ) → IsNewScript h o made → IsSound (behind o.name ++ owned) h →
    IsSound owned (with_script_last h o made)
with_script-sound owned h o made new s = IsSound-from_counted owned (with_script_last h o made)
    (IsWellFormed-with_script h o made s.well_formed new)
    (λ j. omega (
      arith,
      IsSound-counted (behind o.name ++ owned) h s j,
      times-append j (behind o.name) owned,
      times-behind j o.name,
      count_by-append (λ (p : HeapScript). same_name p.name (reflector j)) h.scripts (o ∷ []),
      count_by-cons (λ (p : HeapScript). same_name p.name (reflector j)) o [],
    ))
    s.none_zero

-- THE ENTRIES OF AN OBJECT by their places are those of which it is a member: they are collected from the last on, and gone
-- through from the first.
use Rattle.std.specs.Prelude.{slice_get, IfSome}
use Rattle.std.proofs.Common.{◌≡◌, ℕ, zero, suc, ◌+◌, ◌<◌, ◌≤◌, Bool, true, false, List, [], ◌∷◌, ◌++◌, length, take, Option, Some, None, option_map, refl, sym, ◌∙◌, ap, subst, append_assoc, inl, inr, ⊎_elim, arith}
use Rattle.std.proofs.lemmas.List.{take_more}
use Rattle.std.proofs.lemmas.Option.{get_or_from_slice_get, slice_get_cases}
use Rattle.cc_lists.specs.Members.{Among}
use Rattle.cc_lists.proofs.Members.{Among-left, Among-right}
use Rattle.cc_names.specs.declared.name.Name.{Name}
use Rattle.cc_model.specs.Entries.{Entry, joints_of}
use Rattle.cc_model.specs.Derivations.{Walk, is_member, with_entries, with_joints}
use Rattle.cc_search.specs.Members.{IsPlaceOf, place_below}
use Rattle.cc_search.specs.Search.{falling, falling_from, with_entry_at, with_places}
use Rattle.cc_search.proofs.Turns.{take-all}

-- One entry more

abbrev with_one : Name → Entry → Walk → Walk
with_one x e w = elim (is_member x e) [ true ↦ with_joints (joints_of e) w | false ↦ w ]

entries-last : (x : Name) (es : List Entry) (e : Entry) (w : Walk) → with_entries x (es ++ e ∷ []) w ≡ with_one x e (with_entries x es w)
entries-last x [] e w = refl
entries-last x (d ∷ es) e w = entries-last x es e (with_one x d w)

-- Places, from the last on

-- those below a place are those from the last below it on
falling-from : (es : List Entry) (x : Name) (n : ℕ) → falling es x n ≡ falling_from es x (place_below es x n)
falling-from es x zero = refl
falling-from es x (suc n) = go (option_map (is_member x) (slice_get es n)) (falling-from es x n)
  where
    go : (o : Option Bool) → falling es x n ≡ falling_from es x (place_below es x n) →
        elim o [ None ↦ falling es x n | Some b ↦ elim b [ true ↦ n ∷ falling es x n | false ↦ falling es x n ] ]
        ≡ falling_from es x (elim o [ None ↦ place_below es x n | Some b ↦ elim b [ true ↦ Some n | false ↦ place_below es x n ] ])
    go None ih = ih
    go (Some true) ih = refl
    go (Some false) ih = ih

falling-within : (es : List Entry) (x : Name) (n i : ℕ) → Among i (falling es x n) → i < n
falling-within es x zero i m = absurd m
falling-within es x (suc n) i m = go (option_map (is_member x) (slice_get es n)) (falling-within es x n i) m
  where
    go : (o : Option Bool) → (Among i (falling es x n) → i < n) → Among i (elim o [ None ↦ falling es x n | Some b ↦ elim b [ true ↦ n ∷ falling es x n | false ↦ falling es x n ] ]) → i < suc n
    go None ih h = omega (arith, ih h)
    go (Some true) ih (inl is) = omega (arith, is)
    go (Some true) ih (inr h) = omega (arith, ih h)
    go (Some false) ih h = omega (arith, ih h)

places-last : (es : List Entry) (is : List ℕ) (i : ℕ) (w : Walk) → with_places es (is ++ i ∷ []) w ≡ with_places es is (with_entry_at es i w)
places-last es [] i w = refl
places-last es (j ∷ is) i w = ap (with_entry_at es j) (places-last es is i w)

-- THE ENTRIES AT THE PLACES BELOW ONE are those of which the object is a member
places-entries : (es : List Entry) (x : Name) (n : ℕ) (w : Walk) → n ≤ length es → with_places es (falling es x n) w ≡ with_entries x (take n es) w
places-entries es x zero w l = refl
places-entries es x (suc n) w l = ⊎_elim
    (λ had. turn (places-entries es x n w (omega (arith, l))) had.0 had.2)
    (λ past. let far : length es ≤ n = past.0 in absurd (omega (arith, l)))
    (slice_get_cases es n).1
  where
    before : Walk
    before = with_places es (falling es x n) w

    one : (e : Entry) → slice_get es n ≡ Some e → (b : Bool) → is_member x e ≡ b →
        with_places es (elim b [ true ↦ n ∷ falling es x n | false ↦ falling es x n ]) w ≡ with_one x e before
    one e at true is =
        ap (λ o. elim o [ None ↦ before | Some d ↦ with_joints (joints_of d) before ]) at
        ∙ ap (λ b. elim b [ true ↦ with_joints (joints_of e) before | false ↦ before ]) (sym is)
    one e at false is = ap (λ b. elim b [ true ↦ with_joints (joints_of e) before | false ↦ before ]) (sym is)

    taken : (e : Entry) → slice_get es n ≡ Some e → take (suc n) es ≡ take n es ++ e ∷ []
    taken e at =
        let next : suc n ≡ n + 1 = omega arith in
        ap (λ k. take k es) next ∙ (take_more es n e (omega (arith, l)) ∙ ap (λ d. take n es ++ d ∷ []) (get_or_from_slice_get es n e e at))

    turn : before ≡ with_entries x (take n es) w → (e : Entry) → slice_get es n ≡ Some e → with_places es (falling es x (suc n)) w ≡ with_entries x (take (suc n) es) w
    turn ih e at =
        ap (λ o. with_places es (elim (option_map (is_member x) o) [
          | None ↦ falling es x n
          | Some b ↦ elim b [ true ↦ n ∷ falling es x n | false ↦ falling es x n ]
        ]) w) at
        ∙ (one e at (is_member x e) refl
        ∙ (ap (with_one x e) ih
        ∙ (sym (entries-last x (take n es) e w)
        ∙ ap (λ ds. with_entries x ds w) (sym (taken e at)))))

-- ALL ENTRIES OF AN OBJECT
entries-given : (es : List Entry) (x : Name) (w : Walk) → with_places es (falling es x (length es)) w ≡ with_entries x es w
entries-given es x w = places-entries es x (length es) w (omega arith) ∙ ap (λ ds. with_entries x ds w) (take-all es (length es) (omega arith))

-- A PLACE BELOW another is one of the object's, and lies below it

below-there : (es : List Entry) (x : Name) (n : ℕ) → IfSome (place_below es x n) (λ i. IsPlaceOf es x i × (i < n))
below-there es x zero = tt
below-there es x (suc n) = go (option_map (is_member x) (slice_get es n)) refl (place_below es x n) (below-there es x n)
  where
    later : (o : Option ℕ) → IfSome o (λ i. IsPlaceOf es x i × (i < n)) → IfSome o (λ i. IsPlaceOf es x i × (i < suc n))
    later None h = tt
    later (Some i) h = (h.0, omega (arith, h.1))

    go : (b : Option Bool) → option_map (is_member x) (slice_get es n) ≡ b → (o : Option ℕ) → IfSome o (λ i. IsPlaceOf es x i × (i < n)) →
        IfSome (elim b [ None ↦ o | Some c ↦ elim c [ true ↦ Some n | false ↦ o ] ]) (λ i. IsPlaceOf es x i × (i < suc n))
    go None e o h = later o h
    go (Some true) e o h = (e, omega arith)
    go (Some false) e o h = later o h

pub below-place : (es : List Entry) (x : Name) (n : ℕ) (next : Option ℕ) → next ≡ place_below es x n → IfSome next (IsPlaceOf es x)
below-place es x n next e = go next (subst (λ o. IfSome o (λ i. IsPlaceOf es x i × (i < n))) (sym e) (below-there es x n))
  where
    go : (o : Option ℕ) → IfSome o (λ i. IsPlaceOf es x i × (i < n)) → IfSome o (IsPlaceOf es x)
    go None h = tt
    go (Some i) h = h.0

pub below-less : (es : List Entry) (x : Name) (n : ℕ) (next : Option ℕ) → next ≡ place_below es x n → IfSome next (λ i. i < n)
below-less es x n next e = go next (subst (λ o. IfSome o (λ i. IsPlaceOf es x i × (i < n))) (sym e) (below-there es x n))
  where
    go : (o : Option ℕ) → IfSome o (λ i. IsPlaceOf es x i × (i < n)) → IfSome o (λ i. i < n)
    go None h = tt
    go (Some i) h = h.1

-- GOING OVER THEM

-- places so far, and those from the next on
pub record IsCollecting (es : List Entry) (x : Name) (places : List ℕ) (next : Option ℕ) : Type 0 where
  pub whole : places ++ falling_from es x next ≡ falling es x (length es)
  pub there : IfSome next (IsPlaceOf es x)

pub collecting-starts : (es : List Entry) (x : Name) (places : List ℕ) (next : Option ℕ) → places ≡ [] → next ≡ place_below es x (length es) → IsCollecting es x places next
collecting-starts es x places next none e = record {
  whole = (λ i. none i ++ (ap (falling_from es x) e ∙ sym (falling-from es x (length es))) i);
  there = below-place es x (length es) next e;
}

pub collecting-turn : (es : List Entry) (x : Name) (places more : List ℕ) (before next : Option ℕ) (i : ℕ) → before ≡ Some i → more ≡ places ++ i ∷ [] → next ≡ place_below es x i →
    IsCollecting es x places before → IsCollecting es x more next
collecting-turn es x places more before next i is pushed e h = record {
  whole = (λ j. pushed j ++ (ap (falling_from es x) e ∙ sym (falling-from es x i)) j)
      ∙ (append_assoc places (i ∷ []) (falling es x i) ∙ (ap (λ o. places ++ falling_from es x o) (sym is) ∙ h.whole));
  there = below-place es x i next e;
}

-- how many places may be left
abbrev pub places_left : Option ℕ → ℕ
places_left None = 0
places_left (Some i) = suc i

pub fewer-left : (before next : Option ℕ) (i : ℕ) → before ≡ Some i → IfSome next (λ k. k < i) → places_left next < places_left before
fewer-left before None i is l = let same : places_left before ≡ suc i = ap places_left is in omega arith
fewer-left before (Some k) i is l = let same : places_left before ≡ suc i = ap places_left is in omega (arith, l)

-- the entries that are left
pub record IsGiving (es : List Entry) (places : List ℕ) (now target : Walk) : Type 0 where
  pub left : with_places es places now ≡ target
  pub within : (i : ℕ) → Among i places → i < length es

pub giving-starts : (es : List Entry) (x : Name) (places : List ℕ) (w : Walk) → places ≡ falling es x (length es) → IsGiving es places w (with_entries x es w)
giving-starts es x places w e = record {
  left = ap (λ is. with_places es is w) e ∙ entries-given es x w;
  within = λ i m. falling-within es x (length es) i (subst (Among i) e m);
}

pub giving-turn : (es : List Entry) (before places : List ℕ) (now next target : Walk) (i : ℕ) → before ≡ places ++ i ∷ [] → next ≡ with_entry_at es i now →
    IsGiving es before now target → IsGiving es places next target
giving-turn es before places now next target i popped e h = record {
  left = ap (with_places es places) e ∙ (sym (places-last es places i now) ∙ (ap (λ is. with_places es is now) (sym popped) ∙ h.left));
  within = λ j m. h.within j (subst (Among j) (sym popped) (Among-left j places (i ∷ []) m));
}

pub giving-place : (es : List Entry) (before places : List ℕ) (now target : Walk) (i : ℕ) → before ≡ places ++ i ∷ [] → IsGiving es before now target → i < length es
giving-place es before places now target i popped h = h.within i (subst (Among i) (sym popped) (Among-right i places (i ∷ []) (inl refl)))

-- Lists of rising numbers: each number is above those before it, so none stands twice; a part of the list rises too.
use Rattle.std.proofs.Common.{◌≡◌, ℕ, ◌+◌, ◌<◌, ◌≤◌, Bool, true, false, cond, List, [], ◌∷◌, map, refl, subst, inl, ⊎_elim, arith, ◌==◌, count_by}
use Rattle.std.specs.List.{filter}
use Rattle.std.proofs.lemmas.Bool.{eqb-true, cases_lt}
use Rattle.cc_lists.specs.Members.{Among}
use Rattle.cc_lists.specs.Walks.{IsRising, HasDistinctKeys}
use Rattle.cc_lists.proofs.Members.{Among-filtered, Among-map, Among-map_cases}
use Rattle.cc_lists.proofs.Counting.{count_by-cons, count_by-map, counted_is}

-- without the first number the list rises
pub IsRising-tail : (i : ℕ) (js : List ℕ) → IsRising (i ∷ js) → IsRising js
IsRising-tail i [] r = tt
IsRising-tail i (j ∷ js) r = r.1

-- the first number is below all others
pub IsRising-first : (i : ℕ) (js : List ℕ) → IsRising (i ∷ js) → (j : ℕ) → Among j js → i < j
IsRising-first i [] r j m = absurd m
IsRising-first i (k ∷ ks) r j m = ⊎_elim
    (λ e. subst (λ l. i < l) e r.0)
    (λ t. let later : k < j = IsRising-first k ks r.1 j t in let first : i < k = r.0 in omega arith) m

-- a number below all others may go in front
pub IsRising-cons : (i : ℕ) (js : List ℕ) → ((j : ℕ) → Among j js → i < j) → IsRising js → IsRising (i ∷ js)
IsRising-cons i [] below r = tt
IsRising-cons i (j ∷ js) below r = (below j (inl refl), r)

-- a part of the list rises too
pub IsRising-filter : (p : ℕ → Bool) (xs : List ℕ) → IsRising xs → IsRising (filter p xs)
IsRising-filter p [] r = tt
IsRising-filter p (i ∷ js) r = go (p i) (IsRising-filter p js (IsRising-tail i js r))
  where
    go : (b : Bool) → IsRising (filter p js) → IsRising (cond b (i ∷ filter p js) (filter p js))
    go true rest = IsRising-cons i (filter p js) (λ j m. IsRising-first i js r j (Among-filtered p j js m)) rest
    go false rest = rest

-- no number stands twice
pub IsRising-once : (xs : List ℕ) → IsRising xs → (k : ℕ) → count_by (λ j. j == k) xs ≤ 1
IsRising-once [] r k = omega arith
IsRising-once (i ∷ js) r k = go (IsRising-once js (IsRising-tail i js r) k) (i == k) refl
  where
    same : ℕ → Bool
    same j = j == k

    go : count_by (λ j. j == k) js ≤ 1 → (b : Bool) → (i == k) ≡ b → count_by (λ j. j == k) (i ∷ js) ≤ 1
    go ih true e = ⊎_elim
        (λ some.
        let found = counted_is same js some in
        let above : i < found.0 = IsRising-first i js r found.0 found.1 in
        let this : i ≡ k = eqb-true i k e in
        let that : found.0 ≡ k = eqb-true found.0 k found.2 in
        absurd (omega arith))
        (λ none. let here : count_by (λ j. j == k) (i ∷ js) ≡ 1 + count_by (λ j. j == k) js = rw (count_by-cons same i js, e) refl in omega arith)
        (cases_lt 0 (count_by (λ j. j == k) js))
    go ih false e = let here : count_by (λ j. j == k) (i ∷ js) ≡ 0 + count_by (λ j. j == k) js = rw (count_by-cons same i js, e) refl in omega arith

-- so members with rising numbers have distinct ones
pub rising-distinct : {X : Type 0} (number : X → ℕ) (xs : List X) → IsRising (map number xs) → HasDistinctKeys number xs
rising-distinct number xs r k = subst (λ n. n ≤ 1) (count_by-map (λ j. j == k) number xs) (IsRising-once (map number xs) r k)

-- and so do those of them that pass a test
pub rising-part : {X : Type 0} (number : X → ℕ) (p : X → Bool) (xs : List X) → IsRising (map number xs) → IsRising (map number (filter p xs))
rising-part number p [] r = r
rising-part {X} number p (x ∷ xs) r = go (p x) (rising-part number p xs (IsRising-tail (number x) (map number xs) r))
  where
    go : (b : Bool) → IsRising (map number (filter p xs)) → IsRising (map number (cond b (x ∷ filter p xs) (filter p xs)))
    go true ih = IsRising-cons (number x) (map number (filter p xs)) (λ j m.
        let f = Among-map_cases number (filter p xs) j m in
        IsRising-first (number x) (map number xs) r j (subst (λ i. Among i (map number xs)) f.2 (Among-map number f.0 xs (Among-filtered p f.0 xs f.1)))) ih
    go false ih = ih

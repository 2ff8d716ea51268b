-- Places in a list, and lists of distinct numbers.
use Rattle.std.specs.Prelude.{slice_get, not}
use Rattle.std.proofs.Common.{◌≡◌, ℕ, zero, suc, ◌+◌, ◌<◌, ◌≤◌, ◌==◌, Bool, true, false, cond, List, [], ◌∷◌, length, filter, get_or, Option, Some, None, refl, sym, ◌∙◌, ap, inl, inr, ⊎_elim, arith, count_by}
use Rattle.std.proofs.lemmas.Bool.{true≢false, eq-eqb}
use Rattle.cc_lists.specs.Members.{Among}
use Rattle.cc_lists.proofs.Members.{Among-filtered, Among-passes}
use Rattle.cc_lists.proofs.Counting.{count_by-cons}
use Rattle.cc_lists.proofs.Filtering.{count_by-filter-le}

-- Numbers below n that stand once each are at most n

-- what passes and what does not are all
pub counted-left : (p : ℕ → Bool) (xs : List ℕ) → length xs ≡ count_by p xs + length (filter (λ x. not (p x)) xs)
counted-left p [] = refl
counted-left p (x ∷ xs) = go (counted-left p xs) (p x) refl
  where
    go : length xs ≡ count_by p xs + length (filter (λ y. not (p y)) xs) → (b : Bool) → p x ≡ b →
        suc (length xs) ≡ count_by p (x ∷ xs) + length (cond (not b) (x ∷ filter (λ y. not (p y)) xs) (filter (λ y. not (p y)) xs))
    go ih true e = rw (count_by-cons p x xs, e) (omega (arith, ih))
    go ih false e = rw (count_by-cons p x xs, e) (omega (arith, ih))

pub once-few : (n : ℕ) (xs : List ℕ) → ((k : ℕ) → count_by (λ j. k == j) xs ≤ 1) → ((k : ℕ) → Among k xs → k < n) → length xs ≤ n
once-few zero [] once below = omega arith
once-few zero (x ∷ xs) once below = let none : x < 0 = below x (inl refl) in absurd (omega arith)
once-few (suc n) xs once below =
    let others = filter (λ j. not (n == j)) xs in
    let few : length others ≤ n = once-few n others (λ k. fewer k) (λ k m. lower k (below k (Among-filtered (λ j. not (n == j)) k xs m)) (Among-passes (λ j. not (n == j)) k xs m)) in
    let one : count_by (λ j. n == j) xs ≤ 1 = once n in
    omega (arith, counted-left (λ j. n == j) xs)
  where
    fewer : (k : ℕ) → count_by (λ j. k == j) (filter (λ j. not (n == j)) xs) ≤ 1
    fewer k =
        let part : count_by (λ j. k == j) (filter (λ j. not (n == j)) xs) ≤ count_by (λ j. k == j) xs = count_by-filter-le (λ j. k == j) (λ j. not (n == j)) xs in
        let all : count_by (λ j. k == j) xs ≤ 1 = once k in
        omega arith

    lower : (k : ℕ) → k < suc n → not (n == k) ≡ true → k < n
    lower k l e =
        let other : ¬ (k ≡ n) = λ same. true≢false (sym e ∙ ap not (eq-eqb n k (sym same))) in
        omega arith

-- Places in a list

-- what stands in a list has a place
pub among-place : {X : Type 0} (x : X) (xs : List X) → Among x xs → (place : ℕ) × (slice_get xs place ≡ Some x)
among-place x [] m = absurd m
among-place x (y ∷ ys) m = ⊎_elim (λ e. (zero, ap Some e)) (λ t. let k = among-place x ys t in (suc k.0, k.1)) m

-- and what has a place stands there
pub place-among : {X : Type 0} (x : X) (xs : List X) (place : ℕ) → slice_get xs place ≡ Some x → Among x xs
place-among x [] place e = absurd (cc)
place-among x (y ∷ ys) zero e = let same : y ≡ x = cc in inl same
place-among x (y ∷ ys) (suc place) e = inr (place-among x ys place e)

-- what is read at a place of a list of which each place may be empty stands there
pub among-get : {X : Type 0} (xs : List (Option X)) (place : ℕ) (x : X) → get_or xs place None ≡ Some x → Among (Some x) xs
among-get [] place x e = absurd (cc)
among-get (y ∷ ys) zero x e = inl e
among-get (y ∷ ys) (suc place) x e = inr (among-get ys place x e)

-- A test that each element of a list passes.
use Rattle.std.proofs.Common.{◌≡◌, ℕ, zero, suc, ◌%◌, ◌<◌, Bool, true, List, [], ◌∷◌, length, get_or, refl, arith, subst}
use Rattle.std.specs.List.{list_all}
use Rattle.std.proofs.lemmas.Bool.{and_parts}

-- it is passed by the element at each place
pub passes-at : {X : Type 0} (p : X → Bool) (xs : List X) (i : ℕ) (d : X) → i < length xs → list_all p xs ≡ true → p (get_or xs i d) ≡ true
passes-at p [] i d h all = absurd (omega arith)
passes-at p (x ∷ xs) zero d h all = (and_parts _ _ all).0
passes-at p (x ∷ xs) (suc i) d h all = passes-at p xs i d (omega arith) (and_parts _ _ all).1

-- the numbers that a word picks by its remainder
abbrev pub four : List ℕ
four = 0 ∷ 1 ∷ 2 ∷ 3 ∷ []

abbrev pub eight : List ℕ
eight = 0 ∷ 1 ∷ 2 ∷ 3 ∷ 4 ∷ 5 ∷ 6 ∷ 7 ∷ []

four-at : (i : ℕ) → i < 4 → get_or four i 0 ≡ i
four-at zero h = refl
four-at (suc zero) h = refl
four-at (suc (suc zero)) h = refl
four-at (suc (suc (suc zero))) h = refl
four-at (suc (suc (suc (suc i)))) h = absurd (omega arith)

eight-at : (i : ℕ) → i < 8 → get_or eight i 0 ≡ i
eight-at zero h = refl
eight-at (suc zero) h = refl
eight-at (suc (suc zero)) h = refl
eight-at (suc (suc (suc zero))) h = refl
eight-at (suc (suc (suc (suc zero)))) h = refl
eight-at (suc (suc (suc (suc (suc zero))))) h = refl
eight-at (suc (suc (suc (suc (suc (suc zero)))))) h = refl
eight-at (suc (suc (suc (suc (suc (suc (suc zero))))))) h = refl
eight-at (suc (suc (suc (suc (suc (suc (suc (suc i)))))))) h = absurd (omega arith)

pub passes-four : (p : ℕ → Bool) (word : ℕ) → list_all p four ≡ true → p (word % 4) ≡ true
passes-four p word all =
    let P : ℕ → Type 0 = λ n. p n ≡ true in
    subst P (four-at (word % 4) (omega arith)) (passes-at p four (word % 4) 0 (omega arith) all)

pub passes-eight : (p : ℕ → Bool) (word : ℕ) → list_all p eight ≡ true → p (word % 8) ≡ true
passes-eight p word all =
    let P : ℕ → Type 0 = λ n. p n ≡ true in
    subst P (eight-at (word % 8) (omega arith)) (passes-at p eight (word % 8) 0 (omega arith) all)

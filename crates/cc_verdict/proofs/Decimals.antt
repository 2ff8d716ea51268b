-- THE DECIMAL OF A NUMBER BELOW 2 ^ 32 IS THAT OF NO OTHER. Only the last 64 digits of a number are written, so it takes the bound.
use Rattle.std.proofs.Common.{◌≡◌, ℕ, zero, suc, ◌+◌, ◌*◌, ◌^◌, ◌/◌, ◌%◌, ◌<◌, ◌≤◌, ⊎_elim, Bool, true, false, ◌==◌, List, [], ◌∷◌, length, decimal, if◌then◌else◌, refl, ap, arith}
use Rattle.std.specs.Fmt.{digit_glyph, digits_onto, digits}
use Rattle.std.proofs.lemmas.Bool.{eqb-true, eq-eqb, false≢true, cases_lt}
use Rattle.std.proofs.lemmas.Fmt.{decimal_injective}

-- ten to the power of j
abbrev tens : ℕ → ℕ
tens zero = 1
tens (suc j) = 10 * tens j

tens-some : (j : ℕ) → 0 < tens j
tens-some zero = omega arith
tens-some (suc j) = omega (arith, tens-some j)

-- digits are only put in front of others
onto-grows : (k n : ℕ) (acc : List ℕ) → length acc ≤ length (digits_onto k 10 false n acc)
onto-grows zero n acc = omega arith
onto-grows (suc k) n acc = go (n / 10 == 0) (onto-grows k (n / 10) (digit_glyph false (n % 10) ∷ acc))
  where
    go : (last : Bool) → suc (length acc) ≤ length (digits_onto k 10 false (n / 10) (digit_glyph false (n % 10) ∷ acc)) →
        length acc ≤ length (if last then digit_glyph false (n % 10) ∷ acc else digits_onto k 10 false (n / 10) (digit_glyph false (n % 10) ∷ acc))
    go true more = omega arith
    go false more = omega arith

-- a great number has many digits
onto-many : (j k n : ℕ) (acc : List ℕ) → tens j ≤ n → j < k → suc j + length acc ≤ length (digits_onto k 10 false n acc)
onto-many j zero n acc great within = absurd (omega arith)
onto-many zero (suc k) n acc great within = go (n / 10 == 0) (onto-grows k (n / 10) (digit_glyph false (n % 10) ∷ acc))
  where
    go : (last : Bool) → suc (length acc) ≤ length (digits_onto k 10 false (n / 10) (digit_glyph false (n % 10) ∷ acc)) →
        1 + length acc ≤ length (if last then digit_glyph false (n % 10) ∷ acc else digits_onto k 10 false (n / 10) (digit_glyph false (n % 10) ∷ acc))
    go true more = omega arith
    go false more = omega arith
onto-many (suc j) (suc k) n acc great within =
    go (n / 10 == 0) refl (onto-many j k (n / 10) (digit_glyph false (n % 10) ∷ acc) (omega arith) (omega arith))
  where
    some : 0 < tens j
    some = tens-some j

    go : (last : Bool) → (n / 10 == 0) ≡ last → suc j + suc (length acc) ≤ length (digits_onto k 10 false (n / 10) (digit_glyph false (n % 10) ∷ acc)) →
        suc (suc j) + length acc ≤ length (if last then digit_glyph false (n % 10) ∷ acc else digits_onto k 10 false (n / 10) (digit_glyph false (n % 10) ∷ acc))
    go true is more = let none : n / 10 ≡ 0 = eqb-true (n / 10) 0 is in absurd (omega (arith, some))
    go false is more = omega arith

-- a small number has few digits
onto-few : (j k n : ℕ) (acc : List ℕ) → n < tens (suc j) → length (digits_onto k 10 false n acc) ≤ suc j + length acc
onto-few j zero n acc small = omega arith
onto-few zero (suc k) n acc small = go (n / 10 == 0) (eq-eqb (n / 10) 0 (omega arith))
  where
    go : (last : Bool) → last ≡ true →
        length (if last then digit_glyph false (n % 10) ∷ acc else digits_onto k 10 false (n / 10) (digit_glyph false (n % 10) ∷ acc)) ≤ 1 + length acc
    go true is = omega arith
    go false is = absurd (false≢true is)
onto-few (suc j) (suc k) n acc small = go (n / 10 == 0) (onto-few j k (n / 10) (digit_glyph false (n % 10) ∷ acc) (omega arith))
  where
    go : (last : Bool) → length (digits_onto k 10 false (n / 10) (digit_glyph false (n % 10) ∷ acc)) ≤ suc j + suc (length acc) →
        length (if last then digit_glyph false (n % 10) ∷ acc else digits_onto k 10 false (n / 10) (digit_glyph false (n % 10) ∷ acc)) ≤ suc (suc j) + length acc
    go true more = omega arith
    go false more = omega arith

-- a number below 10 ^ 10 has ten digits at most, and any other has more
few-digits : (n : ℕ) → n < tens 10 → length (decimal n) ≤ 10
unfolding digits
few-digits n small = omega (arith, onto-few 9 64 n [] small)

many-digits : (n : ℕ) → tens 10 ≤ n → 11 ≤ length (decimal n)
unfolding digits
many-digits n great = omega (arith, onto-many 10 64 n [] great (omega arith))

-- A NUMBER BELOW 2 ^ 32 IS TOLD BY ITS DECIMAL.
pub decimal-told : (m n : ℕ) → m < 2 ^ 32 → decimal m ≡ decimal n → m ≡ n
decimal-told m n small e = ⊎_elim
    (λ (l : n < tens 10). decimal_injective m n (omega arith) (omega arith) e)
    (λ (g : tens 10 ≤ n). absurd (omega (arith, few-digits m (omega arith), many-digits n g, ap length e)))
    (cases_lt n (tens 10))

-- A carriage return at the end of a line.
use Rattle.std.proofs.Common.{◌≡◌, ◌≢◌, ℕ, zero, suc, false, cond, List, [], ◌∷◌, ◌==◌, length, take, get_or, ap, arith}
use Rattle.std.proofs.lemmas.Bool.Decides.{nat_tests}
use Rattle.cc_model.specs.Lines.{without_return}

is_return-not : (b : ℕ) → b ≢ 13 → (b == 13) ≡ false
is_return-not b n = grind (arith, nat_tests)

-- it is dropped
pub without_return-last : (xs : List ℕ) (n : ℕ) → length xs ≡ suc n → get_or xs n 0 ≡ 13 → without_return xs ≡ take n xs
without_return-last [] n l e = absurd (omega arith)
without_return-last (b ∷ []) zero l e = ap (λ k. without_return (k ∷ [])) e
without_return-last (b ∷ []) (suc n) l e = absurd (omega arith)
without_return-last (b ∷ c ∷ xs) zero l e = absurd (omega arith)
without_return-last (b ∷ c ∷ xs) (suc n) l e = let m : length (c ∷ xs) ≡ suc n = omega arith in ap (λ k. b ∷ k) (without_return-last (c ∷ xs) n m e)

-- nothing else is
pub without_return-other : (xs : List ℕ) (n : ℕ) → length xs ≡ suc n → get_or xs n 0 ≢ 13 → without_return xs ≡ xs
without_return-other [] n l e = absurd (omega arith)
without_return-other (b ∷ []) zero l e = ap (λ t. cond t [] (b ∷ [])) (is_return-not b e)
without_return-other (b ∷ []) (suc n) l e = absurd (omega arith)
without_return-other (b ∷ c ∷ xs) zero l e = absurd (omega arith)
without_return-other (b ∷ c ∷ xs) (suc n) l e = let m : length (c ∷ xs) ≡ suc n = omega arith in ap (λ k. b ∷ k) (without_return-other (c ∷ xs) n m e)

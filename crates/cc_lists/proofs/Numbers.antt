-- Numbers told apart.
use Rattle.std.proofs.Common.{◌≡◌, ◌≢◌, ℕ, sym, ◌∙◌, subst, ⊎_elim, ◌==◌}
use Rattle.std.proofs.lemmas.Bool.{eqb-true, eq-eqb, ne_eqb}
use Rattle.std.proofs.lemmas.Bool.Decides.{eqb_tells}
use Rattle.cc_lists.specs.Members.{IsEqualityTest}

-- an equality of numbers reads the same from both sides
pub eqb-sym : (i j : ℕ) → (i == j) ≡ (j == i)
eqb-sym i j = ⊎_elim (λ t. t.0 ∙ sym (eq-eqb j i (sym t.1))) (λ f. f.0 ∙ sym (ne_eqb j i (λ e. f.1 (sym e)))) (eqb_tells i j)

-- the test of equality of numbers
pub number-exact : IsEqualityTest ◌==◌
number-exact i j = (eqb-true i j, eq-eqb i j)

-- what holds at one number and at all others holds at each
pub at-each : (P : ℕ → Type 0) (k : ℕ) → P k → ((j : ℕ) → j ≢ k → P j) → (j : ℕ) → P j
at-each P k here others j = ⊎_elim (λ t. subst P (sym t.1) here) (λ t. others j t.1) (eqb_tells j k)

-- WHAT HOLDS OF ALL MEMBERS OF A LIST, tried one after the other.
use Rattle.std.proofs.Common.{arith, ◌≡◌, ℕ, zero, suc, ◌+◌, ◌<◌, ◌≤◌, List, [], ◌∷◌, length, Some, subst, inl, inr, ⊎_elim, below_more, slice_get}
use Rattle.std.proofs.lemmas.Option.{slice_get_within}
use Rattle.cc_lists.specs.Members.{Among}

-- it holds of those before a place
abbrev pub HoldsBefore : {X : Type 0} → (X → Type 0) → List X → ℕ → Type 0
HoldsBefore {X} P xs i = (k : ℕ) → k < i → (x : X) → slice_get xs k ≡ Some x → P x

-- what stands at a place is a member
pub Among-got : {X : Type 0} (xs : List X) (k : ℕ) (x : X) → slice_get xs k ≡ Some x → Among x xs
Among-got [] k x e = absurd (cc)
Among-got {X} (y ∷ ys) zero x e = let same : y ≡ x = cc in inl same
Among-got (y ∷ ys) (suc k) x e = inr (Among-got ys k x e)

-- a member stands at a place
got-among : {X : Type 0} (xs : List X) (x : X) → Among x xs → (k : ℕ) × (slice_get xs k ≡ Some x)
got-among [] x m = absurd m
got-among {X} (y ∷ ys) x m = ⊎_elim
    (λ e. (0, let same : slice_get (y ∷ ys) 0 ≡ Some x = cc in same))
    (λ t. let g = got-among ys x t in (suc g.0, g.1))
    m

-- it holds of one more
pub HoldsBefore-more : {X : Type 0} (P : X → Type 0) (xs : List X) (i : ℕ) (y : X) → HoldsBefore P xs i → slice_get xs i ≡ Some y → P y →
    HoldsBefore P xs (i + 1)
HoldsBefore-more {X} P xs i y before at p = below_more (λ k. (x : X) → slice_get xs k ≡ Some x → P x) i before
    (λ x e. let same : y ≡ x = cc in subst P same p)

-- it holds of all of them
pub HoldsBefore-all : {X : Type 0} (P : X → Type 0) (xs : List X) (i : ℕ) → HoldsBefore P xs i → length xs ≤ i → (x : X) → Among x xs → P x
HoldsBefore-all P xs i before end x m = let g = got-among xs x m in before g.0 (omega (arith, slice_get_within xs g.0 x g.1)) x g.1

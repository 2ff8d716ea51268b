-- What stands in a list.
use Rattle.std.specs.Prelude.{◌≡◌, ◌↔◌, IsTrue, Bool, true, false, not, ◌||◌, ◌⊎◌, List, [], ◌∷◌, ◌++◌, filter}

-- a test that tells equal values from others
abbrev pub IsEqualityTest : {X : Type 0} → (X → X → Bool) → Type 0
IsEqualityTest {X} same = (x y : X) → IsTrue (same x y) ↔ (x ≡ y)

-- x stands in the list
abbrev pub Among : {X : Type 0} → X → List X → Type 0
Among x [] = ⊥
Among x (y ∷ ys) = (y ≡ x) ⊎ Among x ys

-- whether it does, by a test of equality
abbrev pub has : {X : Type 0} → (X → X → Bool) → List X → X → Bool
has same [] x = false
has same (y ∷ ys) x = same y x || has same ys x

-- the list without x
abbrev pub without : {X : Type 0} → (X → X → Bool) → X → List X → List X
without same x xs = filter (λ y. not (same y x)) xs

-- x last, where it is not there
abbrev pub with_last : {X : Type 0} → (X → X → Bool) → List X → X → List X
with_last same xs x = elim (has same xs x) [ true ↦ xs | false ↦ xs ++ x ∷ [] ]

-- each of the second list last, in its order, where it is not there
abbrev pub with_all_last : {X : Type 0} → (X → X → Bool) → List X → List X → List X
with_all_last same xs [] = xs
with_all_last same xs (y ∷ ys) = with_all_last same (with_last same xs y) ys

-- Members by their numbers, counted from one: of a list with one more member at its end, and with one member changed.
use Rattle.std.proofs.Common.{◌≡◌, ◌≢◌, ℕ, zero, suc, ◌+◌, ◌-◌, ◌≤◌, List, [], ◌∷◌, ◌++◌, length, set, Option, Some, None, option_map, slice_get, refl, sym, ◌∙◌, subst, ◌⊎◌, arith, add-one}
use Rattle.std.proofs.lemmas.List.{length-set}
use Rattle.std.proofs.lemmas.Option.{slice_get_within, slice_get_past}
use Rattle.cc_model.specs.Graph.{numbered}

-- no member of the empty list has a number
pub numbered-nothing : {X : Type 0} (k : ℕ) (x : X) → numbered [] k ≡ Some x → ⊥
numbered-nothing f x e = grind arith

-- One more at the end

-- the next number has no member
pub numbered-next : {X : Type 0} (xs : List X) → numbered xs (length xs + 1) ≡ None
numbered-next xs = subst (λ k. numbered xs k ≡ None) (sym (add-one (length xs))) (slice_get_past xs (length xs) (omega arith))

-- what has a number has one that was given
numbered-within : {X : Type 0} (xs : List X) (k : ℕ) (x : X) → numbered xs k ≡ Some x → (1 ≤ k) × (k ≤ length xs)
numbered-within xs zero x e = absurd (cc)
numbered-within xs (suc i) x e = (omega arith, omega (arith, slice_get_within xs i x e))

-- what was put last stands at the place that was the length
slice_get-push : {X : Type 0} (xs : List X) (y : X) → slice_get (xs ++ y ∷ []) (length xs) ≡ Some y
slice_get-push [] y = refl
slice_get-push (x ∷ xs) y = slice_get-push xs y

-- any other place has what it had
slice_get-push_other : {X : Type 0} (xs : List X) (y : X) (i : ℕ) → i ≢ length xs → slice_get (xs ++ y ∷ []) i ≡ slice_get xs i
slice_get-push_other [] y zero d = absurd (d refl)
slice_get-push_other (x ∷ xs) y (suc i) d = slice_get-push_other xs y i (λ e. d (omega arith))
slice_get-push_other _ y _ d = refl

-- one more at the end has the next number
pub numbered-push : {X : Type 0} (xs : List X) (y : X) → numbered (xs ++ y ∷ []) (length xs + 1) ≡ Some y
numbered-push xs y = subst (λ k. numbered (xs ++ y ∷ []) k ≡ Some y) (sym (add-one (length xs))) (slice_get-push xs y)

-- and all others keep theirs
pub numbered-push_other : {X : Type 0} (xs : List X) (y : X) (k : ℕ) → k ≢ length xs + 1 → numbered (xs ++ y ∷ []) k ≡ numbered xs k
numbered-push_other xs y e d = grind (arith, slice_get-push_other)

-- what had a number has it still
pub numbered-push_old : {X : Type 0} (xs : List X) (y : X) (k : ℕ) (x : X) → numbered xs k ≡ Some x → numbered (xs ++ y ∷ []) k ≡ Some x
numbered-push_old xs y k x e = numbered-push_other xs y k (λ s. absurd (omega (arith, (numbered-within xs k x e).1))) ∙ e

-- what has a number had it, or is the last
pub numbered-push_cases : {X : Type 0} (xs : List X) (y : X) (k : ℕ) (x : X) → numbered (xs ++ y ∷ []) k ≡ Some x →
    (numbered xs k ≡ Some x) ⊎ ((k ≡ length xs + 1) × (y ≡ x))
numbered-push_cases {X} xs y k x e = grind (arith, numbered-push, numbered-push_other)

-- One member changed

-- what was written stands at its place
slice_get-set : {X : Type 0} (xs : List X) (i : ℕ) (x y : X) → slice_get xs i ≡ Some x → slice_get (set xs i y) i ≡ Some y
slice_get-set [] i x y e = absurd (cc)
slice_get-set (z ∷ zs) zero x y e = refl
slice_get-set (z ∷ zs) (suc i) x y e = slice_get-set zs i x y e

-- any other place has what it had
slice_get-set_other : {X : Type 0} (xs : List X) (i j : ℕ) (y : X) → j ≢ i → slice_get (set xs i y) j ≡ slice_get xs j
slice_get-set_other (z ∷ zs) zero zero y d = absurd (d refl)
slice_get-set_other (z ∷ zs) (suc i) (suc j) y d = slice_get-set_other zs i j y (λ e. d (omega arith))
slice_get-set_other _ _ _ y d = refl

-- the member with number k replaced, where there is something to replace it
abbrev pub set_numbered : {X : Type 0} → List X → ℕ → Option X → List X
set_numbered xs k None = xs
set_numbered xs k (Some x) = set xs (k - 1) x

-- the member with number k changed
abbrev pub change_numbered : {X : Type 0} → List X → ℕ → (X → X) → List X
change_numbered xs k f = set_numbered xs k (option_map f (numbered xs k))

-- the member that was changed
pub numbered-change : {X : Type 0} (xs : List X) (k : ℕ) (f : X → X) → numbered (change_numbered xs k f) k ≡ option_map f (numbered xs k)
numbered-change xs zero f = refl
numbered-change {X} xs (suc i) f = grind (arith, slice_get-set)

-- and any other
pub numbered-change_other : {X : Type 0} (xs : List X) (k : ℕ) (f : X → X) (j : ℕ) → j ≢ k → numbered (change_numbered xs k f) j ≡ numbered xs j
numbered-change_other xs zero f j d = refl
numbered-change_other {X} xs (suc i) f zero d = refl
numbered-change_other {X} xs (suc i) f (suc j) d = grind (arith, slice_get-set_other)

-- there are as many as before
pub length-change : {X : Type 0} (xs : List X) (k : ℕ) (f : X → X) → length (change_numbered xs k f) ≡ length xs
length-change {X} xs k f = grind (arith, length-set)

-- WALKS over a list whose members have keys: from the first by the next, and what is left of it.
use Rattle.std.specs.Prelude.{ℕ, ◌<◌, ◌≤◌, ◌==◌, Bool, true, false, List, [], ◌∷◌, Option, Some, None, count_by, filter, nat_lt}

-- the first of a list; none where it is empty
abbrev pub first_of : {X : Type 0} → List X → Option X
first_of [] = None
first_of (x ∷ xs) = Some x

-- BY KEY

-- no key stands twice
abbrev pub HasDistinctKeys : {X : Type 0} → (X → ℕ) → List X → Type 0
HasDistinctKeys key xs = (k : ℕ) → count_by (λ x. key x == k) xs ≤ 1

-- the key of the first
abbrev pub first_key : {X : Type 0} → (X → ℕ) → List X → Option ℕ
first_key key [] = None
first_key key (x ∷ xs) = Some (key x)

-- the key of the one behind that with key k
abbrev pub next_key : {X : Type 0} → (X → ℕ) → List X → ℕ → Option ℕ
next_key key [] k = None
next_key key (x ∷ xs) k = elim (key x == k) [ true ↦ first_key key xs | false ↦ next_key key xs k ]

-- WHAT IS LEFT of a walk that stands at a key, in order: the one with this key, and those behind it. Where it stands at
-- none, nothing is left.
abbrev pub left_at : {X : Type 0} → (X → ℕ) → List X → Option ℕ → List X
left_at key xs None = []
left_at key [] (Some k) = []
left_at key (x ∷ xs) (Some k) = elim (key x == k) [ true ↦ x ∷ xs | false ↦ left_at key xs (Some k) ]

-- BY NUMBER

-- each number is below the next
abbrev pub IsRising : List ℕ → Type 0
IsRising [] = Unit {0}
IsRising (i ∷ []) = Unit {0}
IsRising (i ∷ j ∷ js) = (i < j) × IsRising (j ∷ js)

-- whether a number is above another, where there is one
abbrev pub is_above : Option ℕ → ℕ → Bool
is_above None k = true
is_above (Some j) k = nat_lt j k

-- a number and those of a list above it: what is left of a walk over rising numbers that stands at it. Where it stands
-- at none, nothing is left.
abbrev pub left_from : List ℕ → Option ℕ → List ℕ
left_from xs None = []
left_from xs (Some k) = k ∷ filter (is_above (Some k)) xs

-- LISTS BY NUMBER, counted from one.
use Rattle.std.specs.Prelude.{ℕ, ◌-◌, List, Option, None, Some, slice_set}

-- where there is a member, it is replaced
abbrev pub with_member : {X : Type 0} → List X → ℕ → Option X → List X
with_member xs k None = xs
with_member xs k (Some x) = slice_set xs (k - 1) x

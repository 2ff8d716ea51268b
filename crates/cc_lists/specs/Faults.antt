-- Counts that stand still at their greatest value, and when a count of faults rose.
use Rattle.std.specs.Prelude.{◌≡◌, ℕ, ◌+◌, ◌-◌, ◌^◌, ◌≤◌, min, Result, OnErr, OnOk}

-- the greatest value of a count; one that stands there stays there
abbrev pub greatest_count : ℕ
greatest_count = 2 ^ 64 - 1

-- n more, or the greatest count
abbrev pub raised : ℕ → ℕ → ℕ
raised count n = min (count + n) greatest_count

-- greater than before, or standing at its greatest value
abbrev pub Rose : ℕ → ℕ → Type 0
Rose before now = min (before + 1) greatest_count ≤ now

-- a call that failed raised the count by one, and any other left it
pub record HasCause {T E : Type 0} (before now : ℕ) (result : Result T E) : Type 0 where
  pub stays : OnOk result (now ≡ before)
  pub failed : OnErr result (now ≡ raised before 1)

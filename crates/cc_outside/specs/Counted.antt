-- Counts of faults after a call; they stand still at their greatest value.
use Rattle.std.specs.Prelude.{ℕ, cond, is_ok, Result}
pub use Rattle.cc_lists.specs.Faults.{raised}

-- the count of faults after a call: one more where it failed
abbrev pub faults_after : {T E : Type 0} → ℕ → Result T E → ℕ
faults_after faults result = cond (is_ok result) faults (raised faults 1)

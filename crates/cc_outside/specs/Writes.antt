-- How many writes of a sink were answered.
use Rattle.std.specs.Prelude.{ℕ, Bool, true, false, Result, Ok, Err}
use Rattle.cc_outside.specs.Counted.{raised}

-- how many writes were answered and did not fail, a count that stays at its greatest value; and whether the last write
-- failed
pub record Writes : Type 0 where
  pub answered : ℕ
  pub last_failed : Bool

-- nothing was written
abbrev pub no_writes : Writes
no_writes = record { answered = 0; last_failed = false }

-- the counts after a write that was answered
abbrev pub write_more : Writes → Writes
write_more writes = record { answered = raised writes.answered 1; last_failed = false }

-- the counts after a write: one that failed is not counted here
abbrev pub writes_after : {E : Type 0} → Writes → Result ℕ E → Writes
writes_after writes (Ok m) = write_more writes
writes_after writes (Err e) = record writes { last_failed = true }

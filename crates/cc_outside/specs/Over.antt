-- A reader or a writer with its counts.
use Rattle.std.specs.Prelude.{ℕ}
use Rattle.cc_outside.specs.Reads.{Reads}
use Rattle.cc_outside.specs.Writes.{Writes}

-- the reader, how many calls of it failed, and how many were answered
pub record Reader (S : Type 0) : Type 0 where
  pub stream : S
  pub faults : ℕ
  pub reads : Reads

-- the writer, how many calls of it failed, and how many were answered
pub record Writer (S : Type 0) : Type 0 where
  pub stream : S
  pub faults : ℕ
  pub writes : Writes

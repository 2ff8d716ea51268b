-- What a sink in memory holds, and what a write does to it; and what a sink that counts is seen as.
use Rattle.std.specs.Prelude.{ℕ, true, List, ◌++◌, take, Result, Ok, Err}
use Rattle.cc_outside.specs.Counted.{raised}
use Rattle.cc_outside.specs.Writes.{Writes, write_more}

-- the bytes written, in order; how many bytes fit in all; the most bytes of a write; the writes that fail, counted from
-- one; how many writes there were, how many of them failed, and how many were answered
pub record Writing : Type 0 where
  pub written : List ℕ
  pub room : ℕ
  pub most : ℕ
  pub fails : List ℕ
  pub calls : ℕ
  pub faults : ℕ
  pub writes : Writes

-- how many bytes were written, a count that stays at its greatest value, and how many writes were answered
pub record Counting : Type 0 where
  pub bytes : ℕ
  pub writes : Writes

-- the sink after a write of a piece
abbrev pub after_write : {E : Type 0} → Writing → List ℕ → Result ℕ E → Writing
after_write s piece (Ok m) = record s {
  written = s.written ++ take m piece;
  calls = raised s.calls 1;
  writes = write_more s.writes;
}
after_write s piece (Err e) = record s { calls = raised s.calls 1; faults = raised s.faults 1; writes = record s.writes { last_failed = true } }

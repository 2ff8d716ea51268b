-- How many reads of a source were answered.
use Rattle.std.specs.Prelude.{ℕ, ◌&&◌, ◌==◌, nat_lt, if◌then◌else◌, Result, Ok, Err}
use Rattle.cc_outside.specs.Counted.{raised}

-- how many reads were answered and did not fail; how many of these gave no byte; and how many of those said that the
-- source is at its end, since there was room for a byte. Each count stays at its greatest value
pub record Reads : Type 0 where
  pub answered : ℕ
  pub empty : ℕ
  pub ended : ℕ

-- nothing was read
abbrev pub no_reads : Reads
no_reads = record { answered = 0; empty = 0; ended = 0 }

-- the counts after a read into so much room that was answered with so many bytes
abbrev pub read_more : Reads → ℕ → ℕ → Reads
read_more reads room m = record {
  answered = raised reads.answered 1;
  empty = if m == 0 then raised reads.empty 1 else reads.empty;
  ended = if m == 0 && nat_lt 0 room then raised reads.ended 1 else reads.ended;
}

-- the counts after a read into so much room: one that failed is not counted here
abbrev pub reads_after : {E : Type 0} → Reads → ℕ → Result ℕ E → Reads
reads_after reads room (Ok m) = read_more reads room m
reads_after reads room (Err e) = reads

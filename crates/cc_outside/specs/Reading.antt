-- What a source in memory holds, and what a read does to it.
use Rattle.std.specs.Prelude.{ℕ, List, ◌++◌, drop, take, Result, Ok, Err}
use Rattle.cc_outside.specs.Counted.{raised}
use Rattle.cc_outside.specs.Reads.{Reads, read_more}

-- the bytes not yet read, in order; the most bytes of a read; the reads that fail, counted from one;
-- how many reads there were, how many of them failed, and how many were answered
pub record Reading : Type 0 where
  pub left : List ℕ
  pub most : ℕ
  pub fails : List ℕ
  pub calls : ℕ
  pub faults : ℕ
  pub reads : Reads

-- the bytes not yet read, in order, of a source that never fails, and how many reads were answered
pub record SureReading : Type 0 where
  pub left : List ℕ
  pub reads : Reads

-- the source after a read into so much room
abbrev pub after_read : {E : Type 0} → Reading → ℕ → Result ℕ E → Reading
after_read s room (Ok m) = record s { left = drop m s.left; calls = raised s.calls 1; reads = read_more s.reads room m }
after_read s room (Err e) = record s { calls = raised s.calls 1; faults = raised s.faults 1 }

-- the buffer after a read, of what was left and what stood in the buffer: its front is filled, the rest stays
abbrev pub filled : {E : Type 0} → List ℕ → List ℕ → Result ℕ E → List ℕ
filled left buf (Ok m) = take m left ++ drop m buf
filled left buf (Err e) = buf

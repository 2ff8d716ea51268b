-- HOW OFTEN A SOURCE IS READ: each read that is answered takes a byte, but for the last one, which says the end.
use Rattle.std.specs.Prelude.{◌≡◌, ℕ, ◌+◌, ◌≤◌, true, false}
use Rattle.cc_outside.specs.Counted.{raised}
use Rattle.cc_outside.specs.Reads.{Reads}
use Rattle.cc_reader.specs.Pending.{Pending}

-- at most so many reads were answered, each of them with a byte or more
pub record ReadsBytes (start now : Reads) (bytes : ℕ) : Type 0 where
  pub answered : now.answered ≤ start.answered + bytes
  pub empty : now.empty ≡ start.empty
  pub ended : now.ended ≡ start.ended

-- one read said the end, and beside it at most so many were answered, each of them with a byte or more
pub record ReadsToEnd (start now : Reads) (bytes : ℕ) : Type 0 where
  pub answered : now.answered ≤ start.answered + bytes + 1
  pub empty : now.empty ≡ raised start.empty 1
  pub ended : now.ended ≡ raised start.ended 1

-- since a source had answered `start` reads each gave a byte of those that were taken, but for one at its end
pub record HasRead (start now : Reads) (p : Pending) : Type 0 where
  pub going : p.ended ≡ false → ReadsBytes start now p.taken
  pub at_end : p.ended ≡ true → ReadsToEnd start now p.taken

-- between two states a source was read so
abbrev pub ReadsOn : Reads → Reads → Pending → Pending → Type 0
ReadsOn before now p q = (start : Reads) → HasRead start before p → HasRead start now q

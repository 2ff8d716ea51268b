-- Bytes that were taken from a source and not yet used.
use Rattle.std.specs.Prelude.{ℕ, ◌+◌, ◌-◌, ◌*◌, Bool, false, List, [], length}

-- the bytes within the limit that were taken and are not yet used; how many were taken in all, the one above the
-- limit counted; how many may be taken within the limit; and whether the source answered that it is at its end
pub record Pending : Type 0 where
  pub bytes : List ℕ
  pub taken : ℕ
  pub limit : ℕ
  pub ended : Bool

-- a reader that has read nothing yet
abbrev pub nothing_read : ℕ → Pending
nothing_read limit = record { bytes = []; taken = 0; limit = limit; ended = false }

-- how much a reader can still do: each line takes some of it
abbrev pub weight : Pending → ℕ
weight p = 2 * (p.limit + 1 - p.taken) + length p.bytes

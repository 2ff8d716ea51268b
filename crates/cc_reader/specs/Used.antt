-- Bytes used one by one, and the line that they are in.
use Rattle.std.specs.Prelude.{◌≡◌, ℕ, ◌+◌, ◌-◌, ◌≤◌, ◌<◌, Bool, true, false, List, [], ◌++◌, length, take, Option}
use Rattle.std.specs.Io.KnownBytes.{Consumes, IsAtEnd}
use Rattle.cc_model.specs.Lines.{ended_lines_of, rest_from}
use Rattle.cc_reader.specs.Pending.{Pending}
use Rattle.cc_reader.specs.Given.{HasGiven}

-- From a source that had `start` left, and has `now` left, these bytes were used; the others of those taken within
-- the limit are pending.
pub record HasUsed (start now : Option (List ℕ)) (p : Pending) (used : List ℕ) : Type 0 where
  pub given : List ℕ
  pub consumed : Consumes start now given
  pub counted : length given ≡ p.taken
  pub most : p.taken ≤ p.limit + 1
  pub parted : used ++ p.bytes ≡ take p.limit given
  pub at_end : p.ended ≡ true → IsAtEnd now × (p.taken ≤ p.limit)

-- between two states these bytes were used
abbrev pub Uses : Option (List ℕ) → Option (List ℕ) → Pending → Pending → List ℕ → Type 0
Uses before now p q bytes = (start : Option (List ℕ)) (used : List ℕ) → HasUsed start before p used → HasUsed start now q (used ++ bytes)

-- where nothing was pending, one read was made: of its bytes those within the limit are pending
pub record Refills (before now : Option (List ℕ)) (p q : Pending) : Type 0 where
  pub given : List ℕ
  pub consumed : Consumes before now given
  pub counted : q.taken ≡ p.taken + length given
  pub most : q.taken ≤ q.limit + 1
  pub limit : q.limit ≡ p.limit
  pub within : q.bytes ≡ take (p.limit - p.taken) given
  pub at_end : q.ended ≡ true → IsAtEnd now × (q.taken ≤ q.limit)

-- nothing is pending, and the source is at its end
abbrev pub IsUsedUp : Pending → Type 0
IsUsedUp p = (p.bytes ≡ []) × (p.ended ≡ true)

-- these lines were given, and this is the line so far
pub record HasBegun (start now : Option (List ℕ)) (p : Pending) (lines : List (List ℕ)) (line : List ℕ) : Type 0 where
  pub used : List ℕ
  pub has_used : HasUsed start now p used
  pub ended : lines ≡ ended_lines_of used
  pub rest : rest_from [] used ≡ line

-- since then this line was begun
abbrev pub Begins : Option (List ℕ) → Option (List ℕ) → Pending → Pending → List ℕ → Type 0
Begins before now p q line = (start : Option (List ℕ)) (lines : List (List ℕ)) → HasGiven start before p lines → HasBegun start now q lines line

-- what is kept of a line: all of it, or that it is too long
pub record IsKept (is_long : Bool) (text line : List ℕ) : Type 0 where
  pub short : is_long ≡ false → line ≡ text
  pub fits : length text ≤ 120
  pub long : is_long ≡ true → 120 < length line

-- THE LINES THAT WERE GIVEN ARE THOSE OF THE BYTES TAKEN.
use Rattle.std.specs.Prelude.{◌≡◌, ◌≢◌, ℕ, ◌+◌, ◌≤◌, ◌⊎◌, true, false, List, [], ◌++◌, length, take, Option}
use Rattle.std.specs.Io.KnownBytes.{Consumes, IsAtEnd}
use Rattle.cc_model.specs.Lines.{lines_of, ended_lines_of, rest_from}
use Rattle.cc_reader.specs.Pending.{Pending}

-- the lines of the bytes used so far, each of which was ended by a line feed; no read has said the end
pub record AreEnded (p : Pending) (lines : List (List ℕ)) (used : List ℕ) : Type 0 where
  pub going : p.ended ≡ false
  pub lines_are : lines ≡ ended_lines_of used
  pub no_rest : rest_from [] used ≡ []

-- the source is at its end: all lines, of which the last lacks its line feed
pub record LastUnended (p : Pending) (lines : List (List ℕ)) (used : List ℕ) : Type 0 where
  pub ended : p.ended ≡ true
  pub nothing_left : p.bytes ≡ []
  pub lines_are : lines ≡ lines_of used
  pub rest : rest_from [] used ≢ []

-- the lines of the bytes used so far: a line that no line feed ended is among them only where the source is at its end
abbrev pub AreLinesOf : Pending → List (List ℕ) → List ℕ → Type 0
AreLinesOf p lines used = AreEnded p lines used ⊎ LastUnended p lines used

-- From a source that had `start` left, and has `now` left, these lines were given; `given` are all bytes taken.
pub record HasGiven (start now : Option (List ℕ)) (p : Pending) (lines : List (List ℕ)) : Type 0 where
  pub given : List ℕ
  pub consumed : Consumes start now given
  pub counted : length given ≡ p.taken
  pub most : p.taken ≤ p.limit + 1
  pub used : List ℕ
  pub parted : used ++ p.bytes ≡ take p.limit given
  pub cut : AreLinesOf p lines used
  pub at_end : p.ended ≡ true → IsAtEnd now × (p.taken ≤ p.limit)

-- the source is at its end, and these were all lines
pub record AreAllGiven (start now : Option (List ℕ)) (p : Pending) (lines : List (List ℕ)) : Type 0 where
  pub given : List ℕ
  pub consumed : Consumes start now given
  pub counted : length given ≡ p.taken
  pub ended : p.ended ≡ true
  pub at_end : IsAtEnd now
  pub within : length given ≤ p.limit
  pub lines_are : lines ≡ lines_of given

-- a read failed, and these were the lines that ended
pub record IsBroken (start now : Option (List ℕ)) (p : Pending) (lines : List (List ℕ)) : Type 0 where
  pub given : List ℕ
  pub consumed : Consumes start now given
  pub counted : length given ≡ p.taken
  pub going : p.ended ≡ false
  pub within : length given ≤ p.limit
  pub lines_are : lines ≡ ended_lines_of given

-- one byte more than the limit was taken, and these were the lines that ended within the limit
pub record IsOver (start now : Option (List ℕ)) (p : Pending) (lines : List (List ℕ)) : Type 0 where
  pub given : List ℕ
  pub consumed : Consumes start now given
  pub counted : length given ≡ p.taken
  pub going : p.ended ≡ false
  pub above : length given ≡ p.limit + 1
  pub lines_are : lines ≡ ended_lines_of (take p.limit given)

-- these are the first of the lines that ended within the limit, and no read has said the end
pub record AreFirstGiven (p : Pending) (lines : List (List ℕ)) (given : List ℕ) : Type 0 where
  pub going : p.ended ≡ false
  pub more : List (List ℕ)
  pub lines_are : lines ++ more ≡ ended_lines_of (take p.limit given)

-- these are the first lines: of those that ended within the limit; or, where the source is at its end, all, of which
-- the last lacks its line feed
pub record AreFirst (start now : Option (List ℕ)) (p : Pending) (lines : List (List ℕ)) : Type 0 where
  pub given : List ℕ
  pub consumed : Consumes start now given
  pub counted : length given ≡ p.taken
  pub most : length given ≤ p.limit + 1
  pub at_end : p.ended ≡ true → IsAtEnd now × (length given ≤ p.limit)
  pub first : AreFirstGiven p lines given ⊎ LastUnended p lines given

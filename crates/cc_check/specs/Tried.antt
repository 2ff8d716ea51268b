-- A TRIAL OF A TRANSCRIPT: what is known after some of its lines, and what a line and a source's end make of it.
use Rattle.std.specs.Prelude.{◌≡◌, ◌↔◌, ℕ, ◌+◌, ◌<◌, ◌≤◌, true, false, List, [], ◌∷◌, ◌++◌, length, take, Option, Some, None, is_none, slice_get}
use Rattle.cc_names.specs.Allowance.{Allowance}
use Rattle.cc_model.specs.Asks.{asks_of}
use Rattle.cc_model.specs.Lines.{lines_of}
use Rattle.cc_reader.specs.Given.{HasGiven}
use Rattle.cc_reader.specs.Pending.{Pending}
use Rattle.cc_verdict.specs.Following.{first_place}
use Rattle.cc_verdict.specs.GoingOn.{CanGoOn, ReadNone}
use Rattle.cc_verdict.specs.Parting.{HasParted, IsLawfulSoFar}
use Rattle.cc_verdict.specs.Positions.{GoesOn, reciting}
use Rattle.cc_verdict.specs.Verdicts.{length_of_lines}
use Rattle.cc_check.specs.declared.cause.Cause.{Cause}
use Rattle.cc_check.specs.declared.heard.Heard.{Heard}
use Rattle.cc_check.specs.declared.heard.Heard.TheVariants.{Text, Long}
use Rattle.cc_check.specs.declared.trial.Trial.{Trial}
use Rattle.cc_check.specs.Causes.{IsBlamed}
use Rattle.cc_check.specs.Checked.{Ends, ReadsWhole}
use Rattle.cc_check.specs.Judging.{IsReadOf}
use Rattle.cc_check.specs.Standing.{IsHeard, IsKept, asks_left, position_of}

-- how many bytes a line has with its line feed; those of a long line are not counted
abbrev pub bytes_of : Heard → ℕ
bytes_of (Text text) = length text.now + 1
bytes_of Long = 0

-- these are the lines of a transcript that is lawful but for its last line feed
abbrev pub AnswersScript : Allowance → List ℕ → List (List ℕ) → Type 0
AnswersScript limits script lines = GoesOn (reciting [] (first_place limits)) (asks_of script) lines

-- the judge of a trial can hear a further line
abbrev pub IsReady : Trial → Type 0
IsReady t = t.is_lawful ≡ true → IsKept t.judge × CanGoOn (position_of t.judge) (asks_left t.script)

-- the cause for which the line with this number, counted from 0, parts, where there is one
abbrev pub IsBlamedIn : Allowance → List ℕ → List (List ℕ) → ℕ → ℕ → Option Cause → Type 0
IsBlamedIn limits script lines n asked None = Unit {0}
IsBlamedIn limits script lines n asked (Some c) = (line : List ℕ) → slice_get lines n ≡ Some line →
    IsBlamed limits script (take n lines) line asked c

-- THE LINES WERE TRIED: whatever lines come behind them, they answer the script exactly where the judge lets them come; and
-- where some can, the bytes of those tried are counted. So are the lines that did not part: all of them, or those before the first with
-- which no lawful transcript begins, which parts for its cause. Where the script reads no weak register, a lawful transcript begins with
-- the lines that did not part
pub record IsTried (limits : Allowance) (script : List ℕ) (t : Trial) (lines : List (List ℕ)) : Type 0 where
  pub lawful : t.is_lawful ≡ true → (rest : List (List ℕ)) → AnswersScript limits script (lines ++ rest) ↔ GoesOn (position_of t.judge) (asks_left t.script) rest
  pub counted : t.is_lawful ≡ true → (rest : List (List ℕ)) → AnswersScript limits script (lines ++ rest) → t.bytes ≡ length_of_lines lines
  pub unlawful : t.is_lawful ≡ false → (rest : List (List ℕ)) → ¬ (AnswersScript limits script (lines ++ rest))
  pub unread : t.is_lawful ≡ true → ReadNone (asks_of script) → t.judge.has_read ≡ false
  pub so_far : ReadNone (asks_of script) → IsLawfulSoFar limits script (take t.lines lines)
  pub all : t.is_lawful ≡ true → t.lines ≡ length lines
  pub parted : t.is_lawful ≡ false → (t.lines < length lines) × HasParted limits script (take (t.lines + 1) lines)
  pub asked : t.is_lawful ≡ true → IsReadOf t.script (asks_of script)
  pub caused : t.is_lawful ≡ is_none t.cause
  pub blamed : IsBlamedIn limits script lines t.lines t.script.asked t.cause

-- one more line is tried
abbrev pub Tries : Trial → Trial → Heard → Type 0
Tries t u heard = (limits : Allowance) (script : List ℕ) (lines : List (List ℕ)) (line : List ℕ) → IsHeard heard line →
    IsTried limits script t lines → IsTried limits script u (lines ++ line ∷ [])

-- what a source has left, the reader, and the trial
pub record Moment : Type 0 where
  pub left : Option (List ℕ)
  pub window : Pending
  pub trial : Trial

abbrev pub moment : Option (List ℕ) → Pending → Trial → Moment
moment left window t = record { left = left; window = window; trial = t }

-- from a source that had `start` left, lines were given, and tried
pub record AreTried (IsGiven : Option (List ℕ) → Option (List ℕ) → Pending → List (List ℕ) → Type 0) (limits : Allowance) (script : List ℕ) (start : Option (List ℕ)) (m : Moment) : Type 0 where
  pub lines : List (List ℕ)
  pub given : IsGiven start m.left m.window lines
  pub tried : IsTried limits script m.trial lines

-- between two moments further lines were given, and tried
abbrev pub GoesOnTrying : (Option (List ℕ) → Option (List ℕ) → Pending → List (List ℕ) → Type 0) → Moment → Moment → Type 0
GoesOnTrying IsGiven old new = (limits : Allowance) (script : List ℕ) (start : Option (List ℕ)) →
    AreTried HasGiven limits script start old → AreTried IsGiven limits script start new

-- no more was taken than the limit and one byte, and of a source at its end no more than the limit
pub record IsWithin (p : Pending) : Type 0 where
  pub most : p.taken ≤ p.limit + 1
  pub at_end : p.ended ≡ true → p.taken ≤ p.limit

-- between two moments no more was taken
abbrev pub StaysWithin : Moment → Moment → Type 0
StaysWithin old new = (limits : Allowance) (script : List ℕ) (start : Option (List ℕ)) →
    AreTried HasGiven limits script start old → IsWithin new.window

-- the bytes to the end of the source were so many, and their lines were tried
pub record AreAllTried (limits : Allowance) (script : List ℕ) (e : Ends) (t : Trial) (taken : ℕ) : Type 0 where
  pub given : List ℕ
  pub whole : ReadsWhole limits.bytes script e given
  pub counted : length given ≡ taken
  pub tried : IsTried limits script t (lines_of given)

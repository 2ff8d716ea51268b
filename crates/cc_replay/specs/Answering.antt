-- How lines are answered, one after the other.
use Rattle.std.specs.Prelude.{◌≡◌, ℕ, IsTrue, List, [], ◌∷◌, ◌++◌, Option, Result, Ok, Err}
use Rattle.std.specs.List.{list_all}
use Rattle.cc_model.specs.Telling.{Telling, Tells}
use Rattle.cc_model.specs.Answers.{Answer, all_items_of}
use Rattle.cc_model.specs.declared.dialect.Dialect.{Dialect}
use Rattle.cc_model.specs.Asks.{ask_of, asks_from, dialect_after, dialect_from}
use Rattle.cc_model.specs.Collecting.{Machine}
use Rattle.cc_laws_run.specs.Memory.{AreDoneFor}
use Rattle.cc_laws_run.specs.Running.{ask_in_range}
use Rattle.cc_reader.specs.Pending.{Pending}
use Rattle.cc_reader.specs.Given.{HasGiven}
use Rattle.cc_reader.specs.declared.read_stop.ReadStop.{ReadStop}
use Rattle.cc_reader.specs.declared.read_stop.ReadStop.TheVariants as stop
use Rattle.cc_replay.specs.declared.answering.Next.{Next}
use Rattle.cc_replay.specs.declared.answering.Next.TheVariants.{End}
use Rattle.cc_replay.specs.declared.status.Status.{Status}
use Rattle.cc_replay.specs.declared.status.Status.TheVariants as status
use Rattle.cc_replay.specs.Answered.{IsAnswered}

-- one more line was given, whatever was given before
abbrev pub GivesLine : Option (List ℕ) → Option (List ℕ) → Pending → Pending → List ℕ → Type 0
GivesLine left left_now old new line = (start : Option (List ℕ)) (lines : List (List ℕ)) →
    HasGiven start left old lines → HasGiven start left_now new (lines ++ line ∷ [])

-- a line is answered as the plain run answers it, its numbers are in range, and it decides how the next is read
pub record LineIsAnswered (v w : Dialect) (old new : Machine) (line : List ℕ) (before after : Telling) : Type 0 where
  pub answered : IsAnswered old new (ask_of v line) before after
  pub in_range : IsTrue (ask_in_range (ask_of v line))
  pub next : w ≡ dialect_after v (ask_of v line)

-- what came next ends a run so
abbrev pub EndsBy : Result Next ReadStop → Status → Type 0
EndsBy came status.Done = came ≡ Ok End
EndsBy came status.ReadFault = came ≡ Err stop.Fault
EndsBy came status.Limit = came ≡ Err stop.Limit
EndsBy came _ = ⊥

-- what is read from and what answers: what the source has left, the reader, how the next line is read, the machine, and what
-- was told
pub record Moment : Type 0 where
  pub left : Option (List ℕ)
  pub window : Pending
  pub dialect : Dialect
  pub machine : Machine
  pub telling : Telling

abbrev pub moment : Option (List ℕ) → Pending → Dialect → Machine → Telling → Moment
moment left window dialect machine telling = record { left = left; window = window; dialect = dialect; machine = machine; telling = telling }

-- these lines are answered, from one moment to another
pub record AreAnswered (v w : Dialect) (old new : Machine) (lines : List (List ℕ)) (before after : Telling) : Type 0 where
  pub answers : List Answer
  pub done : AreDoneFor old (asks_from v lines) answers new
  pub in_range : IsTrue (list_all ask_in_range (asks_from v lines))
  pub told : Tells before after (all_items_of answers)
  pub next : w ≡ dialect_from v lines

-- from a moment at which a reader began to another, lines were given of which this holds, and all of them are answered
pub record Answers (IsGiven : Option (List ℕ) → Option (List ℕ) → Pending → List (List ℕ) → Type 0) (old new : Moment) : Type 0 where
  pub lines : (start : Option (List ℕ)) → HasGiven start old.left old.window [] →
      (given : List (List ℕ)) × IsGiven start new.left new.window given × AreAnswered old.dialect new.dialect old.machine new.machine given old.telling new.telling

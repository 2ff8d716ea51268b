-- TRANSCRIPTS by hand, and what is said of them: that they are right, or that their last answer is wrong.
use Rattle.std.specs.Prelude.{ℕ, ◌-◌, List, [], length, take, None}
use Rattle.cc_names.specs.declared.name.Name.{Name}
use Rattle.cc_model.specs.declared.item.Refusal.{Refusal}
use Rattle.cc_model.specs.declared.item.Refusal.TheVariants.{NoMemory}
use Rattle.cc_model.specs.declared.item.Reply.TheVariants.{Named, Done, Census, Refused}
use Rattle.cc_model.specs.declared.item.Event.{Event}
use Rattle.cc_model.specs.Answers.{Answer, Step, replying, listing, explaining}
use Rattle.cc_model.specs.Asks.{Ask, asks_of}
use Rattle.cc_model.specs.Lawful.{IsLawful}
use Rattle.cc_model.specs.Quiet.{IsQuiet}
use Rattle.cc_worked.specs.Examples.{default_limits}

-- what was asked, and what was answered
pub record Transcript : Type 0 where
  pub asks : List Ask
  pub answers : List Answer

-- a script with answers to its lines
abbrev pub answered : List ℕ → List Answer → Transcript
answered input answers = record { asks = asks_of input; answers = answers }

-- Answers

-- a name, without events
abbrev pub made : Name → Answer
made x = replying [] (Named x)

abbrev pub done_after : List Event → Answer
done_after events = replying events Done

abbrev pub ok : Answer
ok = done_after []

abbrev pub refused : Refusal → Answer
refused refusal = replying [] (Refused refusal)

abbrev pub without_memory : Answer
without_memory = refused NoMemory

-- names in the order in which they are listed, and their number
abbrev pub lists : List Name → Answer
lists names = listing names (Census (length names))

-- steps, and that they lead there
abbrev pub path : List Step → Answer
path steps = explaining steps Done

-- events, and no reply
abbrev pub only : List Event → Answer
only events = record { events = events; listed = []; steps = []; reply = None }

-- Right and wrong

abbrev pub IsLawfulTranscript : Transcript → Type 0
IsLawfulTranscript t = IsLawful default_limits t.asks t.answers

abbrev pub IsQuietTranscript : Transcript → Type 0
IsQuietTranscript t = IsQuiet default_limits t.asks t.answers

abbrev pub IsRight : Transcript → Type 0
IsRight t = IsLawfulTranscript t × IsQuietTranscript t

-- all but the last of a list
abbrev pub but_last : {X : Type 0} → List X → List X
but_last xs = take (length xs - 1) xs

-- a transcript without its last line and its last answer
abbrev pub before_its_end : Transcript → Transcript
before_its_end t = record { asks = but_last t.asks; answers = but_last t.answers }

-- THE LAST ANSWER IS NOT LAWFUL, and all is right but for that
abbrev pub IsUnlawfulAtItsEnd : Transcript → Type 0
IsUnlawfulAtItsEnd t = IsRight (before_its_end t) × IsQuietTranscript t × (¬ (IsLawfulTranscript t))

abbrev pub IsUnquiet : Transcript → Type 0
IsUnquiet t = ¬ (IsQuietTranscript t)

-- THE LAST ANSWER IS A CENSUS THAT IS NOT QUIET, and all is right but for that
abbrev pub IsUnquietAtItsEnd : Transcript → Type 0
IsUnquietAtItsEnd t = IsRight (before_its_end t) × IsLawfulTranscript t × IsUnquiet t

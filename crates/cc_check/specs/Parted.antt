-- WHERE A TRANSCRIPT PARTS from every lawful one, and why, told of its lines and of the bytes that were read.
use Rattle.std.specs.Prelude.{◌≡◌, ℕ, ◌-◌, ◌≤◌, List, length, take, Some, slice_get}
use Rattle.cc_names.specs.Allowance.{Allowance}
use Rattle.cc_model.specs.Asks.{asks_of}
use Rattle.cc_model.specs.Lines.{lines_of}
use Rattle.cc_verdict.specs.GoingOn.{ReadNone}
use Rattle.cc_verdict.specs.Parting.{HasParted, IsLawfulSoFar}
use Rattle.cc_verdict.specs.Verdicts.{IsLawfulTranscript}
use Rattle.cc_check.specs.declared.parting.Blame.{Blame}
use Rattle.cc_check.specs.Causes.{IsBlamed}
use Rattle.cc_check.specs.Checked.{Ends, ReadsWhole}

-- WITH THE LINES UP TO THIS ONE, whose number is counted from one, no lawful transcript of the script begins. It is the first such line
-- where the script reads no weak register. Where it does, none may begin with the lines before it either: what was freed there may be
-- led to again by what the script gets from a weak register later, and a census that must list it then has no answer
pub record PartsAt (limits : Allowance) (script : List ℕ) (lines : List (List ℕ)) (number : ℕ) : Type 0 where
  pub first : 1 ≤ number
  pub within : number ≤ length lines
  pub parts_here : HasParted limits script (take number lines)
  pub lawful_until : ReadNone (asks_of script) → IsLawfulSoFar limits script (take (number - 1) lines)

-- the transcript parts at the line that is blamed, and for that cause
pub record PartsFor (limits : Allowance) (script : List ℕ) (lines : List (List ℕ)) (b : Blame) : Type 0 where
  pub parts : PartsAt limits script lines b.line
  pub blamed : (line : List ℕ) → slice_get lines (b.line - 1) ≡ Some line → IsBlamed limits script (take (b.line - 1) lines) line b.asked b.cause

-- the text ends too early: it is no lawful transcript, and where the script reads no weak register, one begins with its lines
pub record IsEarly (limits : Allowance) (script : List ℕ) (text : List ℕ) : Type 0 where
  pub so_far : ReadNone (asks_of script) → IsLawfulSoFar limits script (lines_of text)
  pub unlawful : ¬ (IsLawfulTranscript limits script text)

-- the bytes to the end of the source part at a line
pub record IsFoundParted (limits : Allowance) (script : List ℕ) (e : Ends) (b : Blame) : Type 0 where
  pub given : List ℕ
  pub whole : ReadsWhole limits.bytes script e given
  pub parts : PartsFor limits script (lines_of given) b

-- they end too early
pub record IsFoundEarly (limits : Allowance) (script : List ℕ) (e : Ends) : Type 0 where
  pub given : List ℕ
  pub whole : ReadsWhole limits.bytes script e given
  pub early : IsEarly limits script given

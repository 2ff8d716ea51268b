-- THE VERDICT ON A TRANSCRIPT: lawful where it is exactly the text of answers that are lawful and quiet.
use Rattle.std.specs.Prelude.{◌≡◌, ℕ, ◌+◌, List, length}
use Rattle.std.specs.List.{sum_by}
use Rattle.cc_names.specs.Allowance.{Allowance}
use Rattle.cc_model.specs.Answers.{Answer, text_of_answers}
use Rattle.cc_model.specs.Asks.{Ask, asks_of}
use Rattle.cc_model.specs.Lawful.{IsLawful}
use Rattle.cc_model.specs.Quiet.{IsQuiet}

-- bytes are a transcript that answers these asks lawfully, and lists what it must
pub record IsLawfulText (limits : Allowance) (asks : List Ask) (text : List ℕ) : Type 0 where
  pub answers : List Answer
  pub text_is : text ≡ text_of_answers answers
  pub lawful : IsLawful limits asks answers
  pub quiet : IsQuiet limits asks answers

-- THE VERDICT: these bytes are a lawful transcript of this script
abbrev pub IsLawfulTranscript : Allowance → List ℕ → List ℕ → Type 0
IsLawfulTranscript limits script text = IsLawfulText limits (asks_of script) text

-- how many bytes lines have, each with a line feed
abbrev pub length_of_lines : List (List ℕ) → ℕ
length_of_lines lines = sum_by (λ line. length line + 1) lines

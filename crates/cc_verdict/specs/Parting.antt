-- WHERE A TRANSCRIPT PARTS from every lawful one.
use Rattle.std.specs.Prelude.{◌≡◌, ℕ, ◌++◌, List}
use Rattle.cc_names.specs.Allowance.{Allowance}
use Rattle.cc_model.specs.Lines.{lines_of}
use Rattle.cc_verdict.specs.Verdicts.{IsLawfulTranscript}

-- LAWFUL SO FAR: a lawful transcript of the script begins with these lines
pub record IsLawfulSoFar (limits : Allowance) (script : List ℕ) (lines : List (List ℕ)) : Type 0 where
  pub text : List ℕ
  pub rest : List (List ℕ)
  pub lawful : IsLawfulTranscript limits script text
  pub lines_are : lines_of text ≡ lines ++ rest

-- PARTED: no lawful transcript of the script begins with these lines
abbrev pub HasParted : Allowance → List ℕ → List (List ℕ) → Type 0
HasParted limits script lines = ¬ (IsLawfulSoFar limits script lines)

-- What an example is given, and what is said of its plain run.
use Rattle.std.specs.Prelude.{ℕ, ◌-◌, ◌^◌, Bool, true, false, List, [], ◌∷◌, ◌++◌, replicate, take}
use Rattle.cc_names.specs.Allowance.{Allowance}
use Rattle.cc_model.specs.Answers.{Answer, text_of_answers}
use Rattle.cc_model.specs.Asks.{asks_of, ended}
use Rattle.cc_model.specs.Lawful.{IsLawful}
use Rattle.cc_model.specs.Quiet.{IsQuiet}
use Rattle.cc_model.specs.Run.{plain_run}

abbrev pub limits : ℕ → ℕ → ℕ → Allowance
limits natives scripts bytes = record { natives = natives; scripts = scripts; bytes = bytes }

-- the limits where no option says otherwise
abbrev pub default_limits : Allowance
default_limits = limits 1000000 1000000 (2 ^ 32 - 1)

-- memory is never refused
abbrev pub ample : List Bool
ample = []

-- the k-th wish for memory is refused, and no other
abbrev pub refused_at : ℕ → List Bool
refused_at k = replicate (k - 1) true ++ false ∷ []

-- what the plain run answers to a script
abbrev pub answers_to : Allowance → List Bool → List ℕ → List Answer
answers_to allowance memory input = plain_run allowance memory (asks_of input)

-- THE PLAIN RUN OF A SCRIPT IS LAWFUL
abbrev pub IsLawfulRun : Allowance → List Bool → List ℕ → Type 0
IsLawfulRun allowance memory input = IsLawful allowance (asks_of input) (answers_to allowance memory input)

-- THE PLAIN RUN OF A SCRIPT IS QUIET
abbrev pub IsQuietRun : Allowance → List Bool → List ℕ → Type 0
IsQuietRun allowance memory input = IsQuiet allowance (asks_of input) (answers_to allowance memory input)

-- what is written where the input has more bytes than may be read: of the first bytes the ended lines are answered
abbrev pub text_within : Allowance → List Bool → List ℕ → List ℕ
text_within allowance memory bytes = text_of_answers (plain_run allowance memory (ended (take allowance.bytes bytes)))

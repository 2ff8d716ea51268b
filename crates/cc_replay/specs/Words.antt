-- The words of the command line that are taken, and what they ask for.
use Rattle.std.specs.Prelude.{◌≡◌, ℕ, ◌≤◌, true, List, [], ◌∷◌, map, Option, Some, pos, codes, option_and_then, option_map}
use Rattle.std.specs.Borrow.{Bor}
use Rattle.std.specs.Str.Parse.{IsNumeral, digits_value, without_leading_plus}
use Rattle.clap.specs.Words.{App, Rule, Text, new_app, new_rule, with_rule, with_subcommand, subcommand_of, takes, one_of}
use Rattle.clap.specs.Simple.{Shape, on_top}
use Rattle.clap.specs.declared.builder.action.ArgAction.TheVariants.{Set}
use Rattle.clap.specs.declared.builder.value_parser.ValueParser.{ValueParser}
use Rattle.clap.specs.declared.builder.value_parser.ValueParser.TheVariants as parser
use Rattle.cc_names.specs.Allowance.{Allowance}
use Rattle.cc_replay.specs.declared.words.Request.{Request}
use Rattle.cc_replay.specs.declared.words.Request.TheVariants.{Replay, Make, Check}

-- the reader of a whole number from 0 to `most`
abbrev pub number_up_to : ℕ → ValueParser
number_up_to most = parser.Signed (pos 0) (pos most)

-- an option `--NAME`, which has one value
abbrev pub named_option : Text → Rule
named_option name = record (new_rule name) {
  long = Some name;
  action = Some Set;
}

-- an option `--NAME N`, a whole number from 0 to `most`, with this default
abbrev pub number_option : Text → ℕ → Text → Rule
number_option name most default = record (named_option name) {
  parser = Some (number_up_to most);
  defaults = default ∷ [];
}

-- the limit on natives
abbrev pub natives_option : Rule
natives_option = number_option (codes "natives") 1000000 (codes "1000000")

-- the limit on plain objects, weak maps and proxies
abbrev pub scripts_option : Rule
scripts_option = number_option (codes "scripts") 1000000 (codes "1000000")

-- the limit on the bytes that are read
abbrev pub bytes_option : Rule
bytes_option = number_option (codes "bytes") 4294967295 (codes "4294967295")

-- the subcommand `replay`, with its three options
abbrev pub replay_app : App
replay_app = with_rule (with_rule (with_rule (new_app (codes "replay")) natives_option) scripts_option) bytes_option

-- an argument that must be given, with one value; its place alone tells it from the others
abbrev pub required_argument : Text → Rule
required_argument name = record (new_rule name) {
  required = true;
  action = Some Set;
}

-- an argument that must be given, a whole number that `reader` takes
abbrev pub number_argument : Text → ValueParser → Rule
number_argument name reader = record (required_argument name) { parser = Some reader }

-- the number from which a script is drawn
abbrev pub seed_argument : Rule
seed_argument = number_argument (codes "seed") (parser.Unsigned 0 18446744073709551615)

-- how many lines of it are drawn
abbrev pub count_argument : Rule
count_argument = number_argument (codes "count") (number_up_to 1000000)

-- the subcommand `make`, with its two arguments
abbrev pub make_app : App
make_app = with_rule (with_rule (new_app (codes "make")) seed_argument) count_argument

-- how many bytes of the source are a script
abbrev pub script_argument : Rule
script_argument = number_argument (codes "script") (number_up_to 4294967295)

-- the subcommand `check`, with its argument and the three options of `replay`
abbrev pub check_app : App
check_app = with_rule (with_rule (with_rule (with_rule (new_app (codes "check")) script_argument) natives_option) scripts_option) bytes_option

-- the program `ccreplay`, as far as it names its subcommands
abbrev pub optional_app : App
optional_app = with_subcommand (with_subcommand (with_subcommand (new_app (codes "ccreplay")) replay_app.top) make_app.top) check_app.top

-- a subcommand is required, and there is no help: a wish for it is a faulty command line
abbrev pub without_help : Shape → Shape
without_help s = record s { subcommand_required = true; disable_help_flag = true; disable_help_subcommand = true }

-- the program `ccreplay`
abbrev pub app : App
app = on_top without_help optional_app

-- the words, the name of the program first, are taken
abbrev pub IsTaken : List Text → Type 0
IsTaken words = takes app words ≡ true

-- the words name this subcommand
abbrev pub IsFor : Text → List Text → Type 0
IsFor subcommand words = option_map (λ named. named.0) (subcommand_of app words) ≡ Some subcommand

-- the text that the subcommand has for an option or an argument: what the words give it, or its default; a first minus,
-- which only a zero can have, is left off
abbrev pub text_for : Text → List Text → Option Text
text_for name words = option_and_then (λ named. one_of name named.1) (subcommand_of app words)

-- the text is there and is a number in decimal digits, where a plus may stand first
pub record IsNumber (given : Option Text) (n : ℕ) : Type 0 where
  pub text : Text
  pub is : given ≡ Some text
  pub numeral : IsNumeral 10 (without_leading_plus text)
  pub value : n ≡ digits_value 10 (without_leading_plus text)

-- it is such a number, and at most `most`
abbrev pub HasNumberUpTo : ℕ → Option Text → Type 0
HasNumberUpTo most given = (n : ℕ) × IsNumber given n × (n ≤ most)

-- the texts of the words that are handed in
abbrev pub texts : List (Bor Text) → List Text
texts words = map (λ w. w.now) words

-- the words are for `replay`, and give these limits
pub record GivesLimits (words : List Text) (limits : Allowance) : Type 0 where
  pub subcommand : IsFor (codes "replay") words
  pub natives : IsNumber (text_for (codes "natives") words) limits.natives
  pub scripts : IsNumber (text_for (codes "scripts") words) limits.scripts
  pub bytes : IsNumber (text_for (codes "bytes") words) limits.bytes

-- the words are for `make`, and give this seed and this count
pub record GivesMade (words : List Text) (seed count : ℕ) : Type 0 where
  pub subcommand : IsFor (codes "make") words
  pub seed_is : IsNumber (text_for (codes "seed") words) seed
  pub count_is : IsNumber (text_for (codes "count") words) count
  pub within : count ≤ 1000000

-- the words are for `check`, and give this many bytes of script and these limits
pub record GivesCheck (words : List Text) (script : ℕ) (limits : Allowance) : Type 0 where
  pub subcommand : IsFor (codes "check") words
  pub script_is : IsNumber (text_for (codes "script") words) script
  pub natives : IsNumber (text_for (codes "natives") words) limits.natives
  pub scripts : IsNumber (text_for (codes "scripts") words) limits.scripts
  pub bytes : IsNumber (text_for (codes "bytes") words) limits.bytes

-- the words are for `check`
abbrev pub AreForCheck : List Text → Type 0
AreForCheck words = IsFor (codes "check") words

-- the words ask for this
abbrev pub GivesRequest : List Text → Request → Type 0
GivesRequest words (Replay limits) = GivesLimits words limits
GivesRequest words (Make seed count) = GivesMade words seed count
GivesRequest words (Check script limits) = GivesCheck words script limits

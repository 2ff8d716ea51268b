-- What the lines of an input ask.
use Rattle.std.specs.Prelude.{ℕ, Bool, true, false, List, [], ◌∷◌, ◌==◌, Option, Some, None, bytes_eq, nat_lt, length}
use Rattle.cc_model.specs.declared.command.Command.{Command}
use Rattle.cc_model.specs.declared.command.Command.TheVariants.{Nothing, Version2}
use Rattle.cc_model.specs.declared.dialect.Dialect.{Dialect}
use Rattle.cc_model.specs.declared.dialect.Dialect.TheVariants.{Start, One, Two}
use Rattle.cc_model.specs.Lines.{lines_of, ended_lines_of, without_return}
use Rattle.cc_model.specs.Tokens.{tokens_of}
use Rattle.cc_model.specs.Forms.{Form, forms_of}

-- a line that is too long, one that is not in the grammar, or a command
pub data Ask : Type 0 where
  long : Ask
  bad : Ask
  taken : Command → Ask

-- what a form reads of a word and the tokens after it
abbrev pub read_by : Form → List ℕ → List (List ℕ) → Option Command
read_by f word after = elim (bytes_eq word f.word) [ true ↦ f.reads after | false ↦ None ]

-- the first form that reads them
abbrev pub command_in : List Form → List ℕ → List (List ℕ) → Option Command
command_in [] word after = None
command_in (f ∷ fs) word after = elim (read_by f word after) [ Some c ↦ Some c | None ↦ command_in fs word after ]

-- a comment begins with %
abbrev pub is_comment : List ℕ → Bool
is_comment [] = false
is_comment (b ∷ bytes) = b == 37

-- a blank line and a comment ask nothing
abbrev pub command_of_tokens : List Form → List (List ℕ) → Option Command
command_of_tokens forms [] = Some Nothing
command_of_tokens forms (word ∷ after) = elim (is_comment word) [ true ↦ Some Nothing | false ↦ command_in forms word after ]

-- THE COMMAND OF A LINE without its line feed; none where the line is not in the grammar
unfoldable pub command_of : Dialect → List ℕ → Option Command
command_of v line = command_of_tokens (forms_of v) (tokens_of (without_return line))

abbrev pub taken_or_bad : Option Command → Ask
taken_or_bad None = bad
taken_or_bad (Some c) = taken c

-- the most bytes of a line before its line feed
abbrev pub longest_line : ℕ
longest_line = 120

-- a line of more bytes is long, a carriage return counted, a comment too
abbrev pub ask_of : Dialect → List ℕ → Ask
ask_of v line = elim (nat_lt longest_line (length line)) [ true ↦ long | false ↦ taken_or_bad (command_of v line) ]

-- a script is of version 2 where its first line that is not blank and no comment asks for it, and else of version 1
abbrev pub version_from : Ask → Dialect
version_from (taken Nothing) = Start
version_from (taken Version2) = Two
version_from _ = One

-- how the line behind one is read
abbrev pub dialect_after : Dialect → Ask → Dialect
dialect_after Start ask = version_from ask
dialect_after One ask = One
dialect_after Two ask = Two

-- what lines ask, one after the other
abbrev pub asks_from : Dialect → List (List ℕ) → List Ask
asks_from v [] = []
asks_from v (line ∷ lines) = ask_of v line ∷ asks_from (dialect_after v (ask_of v line)) lines

-- how the line behind them is read
abbrev pub dialect_from : Dialect → List (List ℕ) → Dialect
dialect_from v [] = v
dialect_from v (line ∷ lines) = dialect_from (dialect_after v (ask_of v line)) lines

-- THE ASKS of an input
abbrev pub asks_of : List ℕ → List Ask
asks_of bytes = asks_from Start (lines_of bytes)

-- the asks of the lines that a line feed ended
abbrev pub ended : List ℕ → List Ask
ended bytes = asks_from Start (ended_lines_of bytes)

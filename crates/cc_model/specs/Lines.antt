-- Bytes cut into lines. What stands before the cut so far is the beginning of the next line.
use Rattle.std.specs.Prelude.{ℕ, List, [], ◌∷◌, ◌++◌, ◌==◌, if◌then◌else◌}

-- the line that a byte ends: a line feed ends one
abbrev pub ended_by : List ℕ → ℕ → List (List ℕ)
ended_by line b = if b == 10 then line ∷ [] else []

-- the line so far, after a byte
abbrev pub line_after : List ℕ → ℕ → List ℕ
line_after line b = if b == 10 then [] else line ++ b ∷ []

-- a last line that no line feed ends, if it has a byte
abbrev pub last_line : List ℕ → List (List ℕ)
last_line [] = []
last_line (b ∷ bytes) = (b ∷ bytes) ∷ []

-- all lines, the last also without its line feed
abbrev pub lines_from : List ℕ → List ℕ → List (List ℕ)
lines_from line [] = last_line line
lines_from line (b ∷ bytes) = ended_by line b ++ lines_from (line_after line b) bytes

abbrev pub lines_of : List ℕ → List (List ℕ)
lines_of bytes = lines_from [] bytes

-- the lines that a line feed ends
abbrev pub ended_from : List ℕ → List ℕ → List (List ℕ)
ended_from line [] = []
ended_from line (b ∷ bytes) = ended_by line b ++ ended_from (line_after line b) bytes

abbrev pub ended_lines_of : List ℕ → List (List ℕ)
ended_lines_of bytes = ended_from [] bytes

-- what stands after the last line feed
abbrev pub rest_from : List ℕ → List ℕ → List ℕ
rest_from line [] = line
rest_from line (b ∷ bytes) = rest_from (line_after line b) bytes

-- one carriage return at the end is dropped
abbrev pub without_return : List ℕ → List ℕ
without_return [] = []
without_return (b ∷ []) = if b == 13 then [] else b ∷ []
without_return (b ∷ c ∷ bytes) = b ∷ without_return (c ∷ bytes)

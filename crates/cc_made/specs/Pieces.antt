-- The made script while its bytes are given out: piece by piece.
use Rattle.std.specs.Prelude.{ℕ, List, [], ◌++◌, drop}
use Rattle.rand_pcg.specs.Lcg.{Lcg}
use Rattle.cc_made.specs.declared.script.Piece.{Piece}
use Rattle.cc_made.specs.declared.script.Piece.TheVariants.{Line, Tail}
use Rattle.cc_made.specs.Made.{lines_from, script_of, tail}

-- the bytes of a piece: one line, or the tail
abbrev pub text_of : Piece → List ℕ
text_of (Line line) = line
text_of Tail = script_of tail

-- what comes after a piece, where so many lines are still to be made
abbrev pub after : Piece → ℕ → Lcg → List ℕ
after (Line line) count words = script_of (lines_from count words)
after Tail count words = []

-- what is left where so many bytes of a piece were given out
abbrev pub left_of : Piece → ℕ → ℕ → Lcg → List ℕ
left_of piece place count words = drop place (text_of piece) ++ after piece count words

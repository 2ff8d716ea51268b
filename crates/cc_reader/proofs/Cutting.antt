-- Bytes cut into lines, one after the other.
use Rattle.std.proofs.Common.{◌≡◌, ℕ, List, [], ◌∷◌, ◌++◌, refl, sym, ap, ◌∙◌, append_assoc, append-nil}
use Rattle.cc_model.specs.Lines.{ended_by, line_after, last_line, lines_from, lines_of, ended_from, ended_lines_of, rest_from}

-- the lines that were ended, of some bytes and then others
pub ended_from-append : (line xs ys : List ℕ) → ended_from line (xs ++ ys) ≡ ended_from line xs ++ ended_from (rest_from line xs) ys
ended_from-append line [] ys = refl
ended_from-append line (x ∷ xs) ys = ap (λ ls. ended_by line x ++ ls) (ended_from-append (line_after line x) xs ys)
    ∙ sym (append_assoc (ended_by line x) (ended_from (line_after line x) xs) (ended_from (rest_from (line_after line x) xs) ys))

-- what stands after the last line feed, of some bytes and then others
pub rest_from-append : (line xs ys : List ℕ) → rest_from line (xs ++ ys) ≡ rest_from (rest_from line xs) ys
rest_from-append line [] ys = refl
rest_from-append line (x ∷ xs) ys = rest_from-append (line_after line x) xs ys

-- the lines of some bytes and then others
pub lines_from-append : (line xs ys : List ℕ) → lines_from line (xs ++ ys) ≡ ended_from line xs ++ lines_from (rest_from line xs) ys
lines_from-append line [] ys = refl
lines_from-append line (x ∷ xs) ys = ap (λ ls. ended_by line x ++ ls) (lines_from-append (line_after line x) xs ys)
    ∙ sym (append_assoc (ended_by line x) (ended_from (line_after line x) xs) (lines_from (rest_from (line_after line x) xs) ys))

-- the lines are those that were ended, and the rest
pub lines_from-ended : (line xs : List ℕ) → lines_from line xs ≡ ended_from line xs ++ last_line (rest_from line xs)
lines_from-ended line xs = ap (lines_from line) (sym (append-nil xs)) ∙ lines_from-append line xs []

-- the lines that were ended, after one byte more
pub ended_from-byte : (line xs : List ℕ) (b : ℕ) → ended_from line (xs ++ b ∷ []) ≡ ended_from line xs ++ ended_by (rest_from line xs) b
ended_from-byte line xs b = ended_from-append line xs (b ∷ []) ∙ ap (λ ls. ended_from line xs ++ ls) (append-nil (ended_by (rest_from line xs) b))

-- where no rest is left, all lines were ended
pub lines_of-ended : (xs : List ℕ) → rest_from [] xs ≡ [] → lines_of xs ≡ ended_lines_of xs
lines_of-ended xs e = lines_from-ended [] xs ∙ ap (λ r. ended_lines_of xs ++ last_line r) e ∙ append-nil (ended_lines_of xs)

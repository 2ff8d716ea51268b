-- WHERE A TEXT HAS A BYTE MORE FOR EACH OF ITS LINES, each of them ends with a line feed, and the text is the lines.
use Rattle.std.proofs.Common.{◌≡◌, ℕ, ◌+◌, Bool, true, false, ◌==◌, List, [], ◌∷◌, ◌++◌, length, flat_map, if◌then◌else◌, refl, sym, ap, ◌∙◌, arith, append_assoc, append-nil, length-append}
use Rattle.std.proofs.lemmas.Bool.{eqb-true}
use Rattle.std.proofs.lemmas.List.Sums.{sum_by-append, sum_by-cons}
use Rattle.cc_model.specs.declared.item.Item.{Item}
use Rattle.cc_model.specs.Lines.{ended_by, line_after, last_line, lines_from, lines_of, ended_from, ended_lines_of, rest_from}
use Rattle.cc_model.specs.Texts.{texts_of, words_of}
use Rattle.cc_verdict.specs.Following.{lines_of_items}
use Rattle.cc_verdict.specs.Verdicts.{length_of_lines}

-- a line with its line feed
abbrev with_feed : List ℕ → List ℕ
with_feed line = line ++ 10 ∷ []

abbrev with_feeds : List (List ℕ) → List ℕ
with_feeds lines = flat_map with_feed lines

-- the lines are those that were ended, and the rest
lines-parts : (line bytes : List ℕ) → lines_from line bytes ≡ ended_from line bytes ++ last_line (rest_from line bytes)
lines-parts line [] = refl
lines-parts line (b ∷ bytes) = ap (λ ls. ended_by line b ++ ls) (lines-parts (line_after line b) bytes)
    ∙ sym (append_assoc (ended_by line b) (ended_from (line_after line b) bytes) (last_line (rest_from (line_after line b) bytes)))

-- bytes are the lines that were ended, with their line feeds, and the rest
bytes-parts : (line bytes : List ℕ) → with_feeds (ended_from line bytes) ++ rest_from line bytes ≡ line ++ bytes
bytes-parts line [] = sym (append-nil line)
bytes-parts line (b ∷ bytes) = go (b == 10) refl (bytes-parts [] bytes) (bytes-parts (line ++ b ∷ []) bytes)
  where
    go : (ends : Bool) → (b == 10) ≡ ends →
        with_feeds (ended_from [] bytes) ++ rest_from [] bytes ≡ bytes →
        with_feeds (ended_from (line ++ b ∷ []) bytes) ++ rest_from (line ++ b ∷ []) bytes ≡ (line ++ b ∷ []) ++ bytes →
        with_feeds ((if ends then line ∷ [] else []) ++ ended_from (if ends then [] else line ++ b ∷ []) bytes) ++ rest_from (if ends then [] else line ++ b ∷ []) bytes ≡ line ++ b ∷ bytes
    go true is fresh more =
        append_assoc (with_feed line) (with_feeds (ended_from [] bytes)) (rest_from [] bytes)
        ∙ (ap (λ t. with_feed line ++ t) fresh
        ∙ (append_assoc line (10 ∷ []) bytes ∙ ap (λ k. line ++ k ∷ bytes) (sym (eqb-true b 10 is))))
    go false is fresh more = more ∙ append_assoc line (b ∷ []) bytes

length-with_feeds : (lines : List (List ℕ)) → length (with_feeds lines) ≡ length_of_lines lines
length-with_feeds [] = refl
length-with_feeds (line ∷ lines) = omega (
  arith,
  length-with_feeds lines,
  length-append (with_feed line) (with_feeds lines),
  length-append line (10 ∷ []),
  sum_by-cons (λ line. length line + 1) line lines,
)

-- where the length is that of the lines with their line feeds, there is no rest
no-rest : (ended : List (List ℕ)) (rest : List ℕ) → length (with_feeds ended ++ rest) ≡ length_of_lines (ended ++ last_line rest) → rest ≡ []
no-rest ended [] e = refl
no-rest ended (b ∷ rest) e = absurd (omega (
  arith,
  e,
  length-append (with_feeds ended) (b ∷ rest),
  length-with_feeds ended,
  sum_by-append (λ line. length line + 1) ended ((b ∷ rest) ∷ []),
  sum_by-cons (λ line. length line + 1) (b ∷ rest) [],
))

text-with_feeds : (text : List ℕ) → length text ≡ length_of_lines (lines_of text) → text ≡ with_feeds (lines_of text)
text-with_feeds text e =
    let ended = ended_lines_of text in
    let rest = rest_from [] text in
    let parts : with_feeds ended ++ rest ≡ text = bytes-parts [] text in
    let lines : lines_of text ≡ ended ++ last_line rest = lines-parts [] text in
    let none : rest ≡ [] = no-rest ended rest (ap length parts ∙ (e ∙ ap length_of_lines lines)) in
    sym parts
    ∙ (ap (λ r. with_feeds ended ++ r) none
    ∙ (append-nil (with_feeds ended)
    ∙ ap with_feeds (sym (lines ∙ (ap (λ r. ended ++ last_line r) none ∙ append-nil ended)))))

feeds-of_items : (items : List Item) → with_feeds (lines_of_items items) ≡ texts_of items
feeds-of_items [] = refl
feeds-of_items (i ∷ items) = ap (λ t. with_feed (words_of i) ++ t) (feeds-of_items items)

-- A TEXT OF THE LINES OF ITEMS IS THEIR TEXT, where its length says that each line is ended.
pub text-of_items : (text : List ℕ) (items : List Item) → length text ≡ length_of_lines (lines_of text) → lines_of text ≡ lines_of_items items → text ≡ texts_of items
text-of_items text items e lines = text-with_feeds text e ∙ (ap with_feeds lines ∙ feeds-of_items items)

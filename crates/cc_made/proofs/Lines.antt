-- The lines of a made script, as a reader of lines cuts them.
use Rattle.std.proofs.Common.{◌≡◌, ℕ, zero, suc, ◌+◌, ◌*◌, ◌≤◌, Bool, true, false, not, ◌==◌, List, [], ◌∷◌, ◌++◌, length, map, refl, sym, ap, ◌∙◌, arith, lit≤, append_assoc, append-nil, length-append, nat_le, if◌then◌else◌}
use Rattle.std.specs.List.{All, list_all}
use Rattle.std.proofs.lemmas.Bool.{and_parts, false≢true, leb-true}
use Rattle.std.proofs.lemmas.List.Folds.{list_all-append, list_all-map}
use Rattle.cc_model.specs.Asks.{Ask, ask_of, asks_from, asks_of, command_of, dialect_after}
use Rattle.cc_model.specs.Checks.{Objects}
use Rattle.cc_model.specs.Deeds.{deed_of}
use Rattle.cc_model.proofs.Dialects.{ask_of-start, asks_from-one}
use Rattle.cc_model.specs.declared.dialect.Dialect.TheVariants.{Start, One}
use Rattle.cc_model.specs.Lines.{lines_from as cut_from, lines_of}
use Rattle.rand_pcg.specs.Lcg.{Lcg}
use Rattle.cc_made.specs.Asked.{writes_of_eight, is_command, tail_asks}
use Rattle.cc_made.specs.Forms.{forms}
use Rattle.cc_made.specs.Made.{lines_from, made_line, script_of, tail}
use Rattle.cc_made.proofs.Passing.{all-made, form_passes, passes-made}
use Rattle.cc_made.proofs.Tables.{passes-at}

-- a byte that ends no line
abbrev pub is_inside : ℕ → Bool
is_inside b = not (b == 10)

-- a line that no line feed cuts
abbrev pub is_uncut : List ℕ → Bool
is_uncut line = list_all is_inside line

cut-inside : (so_far : List ℕ) (b : ℕ) (after : List ℕ) → is_inside b ≡ true → cut_from so_far (b ∷ after) ≡ cut_from (so_far ++ b ∷ []) after
cut-inside so_far b after h = go (b == 10) h
  where
    go : (ends : Bool) → not ends ≡ true →
        (if ends then so_far ∷ [] else []) ++ cut_from (if ends then [] else so_far ++ b ∷ []) after ≡ cut_from (so_far ++ b ∷ []) after
    go true h = absurd (false≢true h)
    go false h = refl

-- a line that a line feed ends is the first, behind what stands before it
cut-ended : (so_far line after : List ℕ) → is_uncut line ≡ true → cut_from so_far (line ++ 10 ∷ after) ≡ (so_far ++ line) ∷ cut_from [] after
cut-ended so_far [] after h = ap (λ l. l ∷ cut_from [] after) (sym (append-nil so_far))
cut-ended so_far (b ∷ line) after h =
    cut-inside so_far b (line ++ 10 ∷ after) (and_parts _ _ h).0
    ∙ cut-ended (so_far ++ b ∷ []) line after (and_parts _ _ h).1
    ∙ ap (λ l. l ∷ cut_from [] after) (append_assoc so_far (b ∷ []) line)

-- lines that are ended are cut where they end
pub cut-script : (lines : List (List ℕ)) → list_all is_uncut lines ≡ true → lines_of (script_of lines) ≡ lines
cut-script [] h = refl
cut-script (line ∷ lines) h =
    ap lines_of (append_assoc line (10 ∷ []) (script_of lines))
    ∙ cut-ended [] line (script_of lines) (and_parts _ _ h).0
    ∙ ap (λ l. line ∷ l) (cut-script lines (and_parts _ _ h).1)

pub uncut-made : (count : ℕ) (words : Lcg) → list_all is_uncut (lines_from count words) ≡ true
uncut-made count words = all-made is_uncut refl refl count words

-- how many they are
pub many-made : (count : ℕ) (words : Lcg) → length (lines_from count words) ≡ count + 20
many-made zero words = refl
many-made (suc count) words = omega (arith, many-made count (made_line words).words)

-- a line of at most 13 bytes
abbrev pub is_short : List ℕ → Bool
is_short line = nat_le (length line) 13

pub short-made : (words : Lcg) → length (made_line words).text ≤ 13
short-made words = leb-true _ _ (passes-made is_short refl words)

-- how many bytes they have with their line feeds: the tail has 149
pub bytes-made : (count : ℕ) (words : Lcg) → length (script_of (lines_from count words)) ≤ 14 * count + 149
bytes-made zero words = lit≤ tt
bytes-made (suc count) words =
    let line = (made_line words).text in
    let others = script_of (lines_from count (made_line words).words) in
    omega (arith, short-made words, bytes-made count (made_line words).words, length-append (line ++ 10 ∷ []) others, length-append line (10 ∷ []))

-- a test that each ask passes
pub asks-pass : (test : Ask → Bool) → list_all (form_passes (λ line. test (ask_of One line))) forms ≡ true → list_all (λ line. test (ask_of One line)) tail ≡ true →
    (count : ℕ) (words : Lcg) → list_all test (map (ask_of One) (lines_from count words)) ≡ true
asks-pass test all last count words =
    list_all-map test (ask_of One) (lines_from count words) ∙ all-made (λ line. test (ask_of One line)) all last count words

pub commands-made : (count : ℕ) (words : Lcg) → list_all is_command (map (ask_of One) (lines_from count words)) ≡ true
unfolding command_of
commands-made = asks-pass is_command refl refl

pub registers-made : (o : Objects) (count : ℕ) (words : Lcg) → list_all (writes_of_eight o) (map (ask_of One) (lines_from count words)) ≡ true
unfolding command_of deed_of
registers-made o = asks-pass (writes_of_eight o) refl refl

tail-asks : map (ask_of One) tail ≡ tail_asks
unfolding command_of
tail-asks = refl

-- what stands before the tail
abbrev pub drawn_lines : ℕ → Lcg → List (List ℕ)
drawn_lines zero words = []
drawn_lines (suc count) words = (made_line words).text ∷ drawn_lines count (made_line words).words

pub many-drawn : (count : ℕ) (words : Lcg) → length (drawn_lines count words) ≡ count
many-drawn zero words = refl
many-drawn (suc count) words = ap (λ n. suc n) (many-drawn count (made_line words).words)

pub tail-made : (count : ℕ) (words : Lcg) → map (ask_of One) (lines_from count words) ≡ map (ask_of One) (drawn_lines count words) ++ tail_asks
tail-made zero words = tail-asks
tail-made (suc count) words = ap (λ l. ask_of One (made_line words).text ∷ l) (tail-made count (made_line words).words)

-- what a command asks at the start it asks in version 1, and so do all lines behind it
command-start : (ask : Ask) → is_command ask ≡ true → dialect_after Start ask ≡ One
command-start ask is = grind arith

asks-start : (line : List ℕ) (lines : List (List ℕ)) → is_command (ask_of Start line) ≡ true → asks_from Start (line ∷ lines) ≡ map (ask_of One) (line ∷ lines)
asks-start line lines is = grind (arith, command-start, ask_of-start, asks_from-one)

lines-start : (count : ℕ) (words : Lcg) → asks_from Start (lines_from count words) ≡ map (ask_of One) (lines_from count words)
unfolding command_of
lines-start zero words = refl
lines-start (suc count) words = asks-start (made_line words).text (lines_from count (made_line words).words) (passes-made (λ line. is_command (ask_of Start line)) refl words)

-- the asks of the script's bytes are those of its lines
pub asks-made : (count : ℕ) (words : Lcg) → asks_of (script_of (lines_from count words)) ≡ map (ask_of One) (lines_from count words)
asks-made count words = ap (asks_from Start) (cut-script (lines_from count words) (uncut-made count words)) ∙ lines-start count words

-- each is short
pub each-short : (count : ℕ) (words : Lcg) → All (λ line. length line ≤ 13) (lines_from count words)
each-short count words = λ k d within. leb-true _ _ (passes-at is_short (lines_from count words) k d within (all-made is_short refl refl count words))

-- what stands before the tail writes the first eight registers alone
pub drawn-fill : (count : ℕ) (words : Lcg) (o : Objects) → list_all (writes_of_eight o) (map (ask_of One) (drawn_lines count words)) ≡ true
drawn-fill count words o =
    let all : list_all (writes_of_eight o) (map (ask_of One) (drawn_lines count words) ++ tail_asks) ≡ true =
    ap (list_all (writes_of_eight o)) (sym (tail-made count words)) ∙ registers-made o count words in
    (and_parts _ _ (sym (list_all-append (writes_of_eight o) (map (ask_of One) (drawn_lines count words)) tail_asks) ∙ all)).0

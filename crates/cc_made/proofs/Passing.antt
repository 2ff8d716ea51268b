-- A test that each line of a made script passes, since it passes all lines that can be made.
use Rattle.std.proofs.Common.{◌≡◌, ℕ, zero, suc, ◌+◌, ◌%◌, Bool, true, List, [], ◌∷◌, ◌++◌, codes, arith}
use Rattle.std.specs.List.{list_all}
use Rattle.std.proofs.lemmas.Bool.{and_from}
use Rattle.rand_pcg.specs.Lcg.{Lcg}
use Rattle.cc_made.specs.declared.operand.Operand.{Operand}
use Rattle.cc_made.specs.declared.operand.Operand.TheVariants.{Index, Native, Script, Slots, Units}
use Rattle.cc_made.specs.Forms.{Form, form, form_at, forms}
use Rattle.cc_made.specs.Made.{lines_from, made_line, next_word, rest, tail, with_operands}
use Rattle.cc_made.proofs.Tables.{eight, four, passes-at, passes-eight, passes-four}

-- whether a text passes with each number behind it
abbrev pub all_written : (List ℕ → Bool) → List ℕ → List ℕ → (ℕ → ℕ) → List ℕ → Bool
all_written p numbers before number text = list_all (λ n. p (text ++ before ++ (48 + number n) ∷ [])) numbers

-- whether a text passes with all operands that can stand behind it
abbrev pub all_pass : (List ℕ → Bool) → List Operand → List ℕ → Bool
all_pass p [] text = p text
all_pass p (Native ∷ os) text = all_written (all_pass p os) eight (codes " n") (λ n. n) text
all_pass p (Script ∷ os) text = all_written (all_pass p os) eight (codes " s") (λ n. n) text
all_pass p (Index ∷ os) text = all_written (all_pass p os) four (codes " ") (λ n. n) text
all_pass p (Units ∷ os) text = all_written (all_pass p os) eight (codes " ") (λ n. 1 + n) text
all_pass p (Slots ∷ os) text = all_pass p os (text ++ codes " 4")

abbrev pub form_passes : (List ℕ → Bool) → Form → Bool
form_passes p f = all_pass p f.operands f.word

passes-with : (p : List ℕ → Bool) (os : List Operand) (text : List ℕ) (words : Lcg) → all_pass p os text ≡ true →
    p (with_operands os (record { text = text; words = words })).text ≡ true
passes-with p [] text words all = all
passes-with p (Native ∷ os) text words all =
    passes-with p os _ (rest words) (passes-eight (λ n. all_pass p os (text ++ codes " n" ++ (48 + n) ∷ [])) (next_word words) all)
passes-with p (Script ∷ os) text words all =
    passes-with p os _ (rest words) (passes-eight (λ n. all_pass p os (text ++ codes " s" ++ (48 + n) ∷ [])) (next_word words) all)
passes-with p (Index ∷ os) text words all =
    passes-with p os _ (rest words) (passes-four (λ n. all_pass p os (text ++ codes " " ++ (48 + n) ∷ [])) (next_word words) all)
passes-with p (Units ∷ os) text words all =
    passes-with p os _ (rest words) (passes-eight (λ n. all_pass p os (text ++ codes " " ++ (48 + (1 + n)) ∷ [])) (next_word words) all)
passes-with p (Slots ∷ os) text words all = passes-with p os (text ++ codes " 4") words all

-- EACH MADE LINE passes what all lines of all forms pass
pub passes-made : (p : List ℕ → Bool) → list_all (form_passes p) forms ≡ true → (words : Lcg) → p (made_line words).text ≡ true
passes-made p all words =
    let f = form_at (next_word words % 20) in
    passes-with p f.operands f.word (rest words) (passes-at (form_passes p) forms (next_word words % 20) (form [] []) (omega arith) all)

-- and so does each line of a script where the tail's lines pass it too
pub all-made : (p : List ℕ → Bool) → list_all (form_passes p) forms ≡ true → list_all p tail ≡ true →
    (count : ℕ) (words : Lcg) → list_all p (lines_from count words) ≡ true
all-made p all last zero words = last
all-made p all last (suc count) words = and_from _ _ (passes-made p all words) (all-made p all last count (made_line words).words)

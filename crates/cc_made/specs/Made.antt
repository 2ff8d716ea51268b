-- The made script: lines drawn from a generator, and a tail.
use Rattle.std.specs.Prelude.{ℕ, zero, suc, ◌+◌, ◌%◌, List, [], ◌∷◌, ◌++◌, codes}
use Rattle.std.specs.List.{flat_map}
use Rattle.cc_made.specs.declared.operand.Operand.{Operand}
use Rattle.cc_made.specs.declared.operand.Operand.TheVariants.{Index, Native, Script, Slots, Units}
use Rattle.cc_made.specs.Forms.{Form, form_at}
use Rattle.rand_pcg.specs.Lcg.{Lcg, increment_of, started}
use Rattle.rand_pcg.specs.Pcg.{multiplier_64, pcg32}

-- THE GENERATOR at the start: that of `Pcg32::new(seed, 1)`
unfoldable pub seeded : ℕ → Lcg
seeded seed = started 64 multiplier_64 seed (increment_of 64 1)

-- the next word of 32 bits
unfoldable pub next_word : Lcg → ℕ
next_word words = (pcg32 words).0

-- the generator after it
unfoldable pub rest : Lcg → Lcg
rest words = (pcg32 words).1

-- a line while it is made: its text so far, and the generator of the words that are not yet drawn
pub record Draft : Type 0 where
  pub text : List ℕ
  pub words : Lcg

-- a number below ten, which a word that is drawn gives, is written as one digit behind these bytes
abbrev pub drawn : List ℕ → (ℕ → ℕ) → Draft → Draft
drawn before number d = record { text = d.text ++ before ++ (48 + number (next_word d.words)) ∷ []; words = rest d.words }

-- AN OPERAND is written behind a space: a register of eight, the index of a slot of four, or 1 to 8 units, for each of
-- which one word is drawn; or that there are four slots, for which none is
abbrev pub with_operand : Operand → Draft → Draft
with_operand Native d = drawn (codes " n") (λ word. word % 8) d
with_operand Script d = drawn (codes " s") (λ word. word % 8) d
with_operand Index d = drawn (codes " ") (λ word. word % 4) d
with_operand Units d = drawn (codes " ") (λ word. 1 + word % 8) d
with_operand Slots d = record d { text = d.text ++ codes " 4" }

-- operands, from left to right
abbrev pub with_operands : List Operand → Draft → Draft
with_operands [] d = d
with_operands (operand ∷ operands) d = with_operands operands (with_operand operand d)

-- the word of a form and its operands
abbrev pub of_form : Form → Lcg → Draft
of_form form words = with_operands form.operands (record { text = form.word; words = words })

-- A LINE: one word picks its form
abbrev pub made_line : Lcg → Draft
made_line words = of_form (form_at (next_word words % 20)) (rest words)

-- THE TAIL: the first eight registers of both banks are emptied, then all that is left is collected and counted
abbrev pub tail : List (List ℕ)
tail =
    codes "drop n0"
    ∷ codes "drop n1"
    ∷ codes "drop n2"
    ∷ codes "drop n3"
    ∷ codes "drop n4"
    ∷ codes "drop n5"
    ∷ codes "drop n6"
    ∷ codes "drop n7"
    ∷ codes "drop s0"
    ∷ codes "drop s1"
    ∷ codes "drop s2"
    ∷ codes "drop s3"
    ∷ codes "drop s4"
    ∷ codes "drop s5"
    ∷ codes "drop s6"
    ∷ codes "drop s7"
    ∷ codes "gc"
    ∷ codes "collect"
    ∷ codes "gc"
    ∷ codes "census"
    ∷ []

-- so many lines, and the tail
abbrev pub lines_from : ℕ → Lcg → List (List ℕ)
lines_from zero words = tail
lines_from (suc count) words = (made_line words).text ∷ lines_from count (made_line words).words

-- a line and its line feed
abbrev pub ended : List ℕ → List ℕ
ended line = line ++ 10 ∷ []

-- the bytes of lines
abbrev pub script_of : List (List ℕ) → List ℕ
script_of lines = flat_map ended lines

-- THE MADE SCRIPT: its lines, and its bytes
abbrev pub made_lines : ℕ → ℕ → List (List ℕ)
made_lines seed count = lines_from count (seeded seed)

abbrev pub made_script : ℕ → ℕ → List ℕ
made_script seed count = script_of (made_lines seed count)

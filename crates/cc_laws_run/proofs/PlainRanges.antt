-- EACH ASK OF AN INPUT IS IN RANGE: what the forms read are registers of a bank and so many slots as are allowed.
use Rattle.std.specs.Prelude.{IsTrue, nat_le, bytes_eq, if◌then◌else◌}
use Rattle.std.proofs.Common.{◌≡◌, ℕ, ◌+◌, ◌-◌, ◌*◌, ◌<◌, ◌≤◌, Bool, true, false, ◌&&◌, List, [], ◌∷◌, Option, Some, None, refl, arith}
use Rattle.std.specs.List.{list_all}
use Rattle.std.proofs.lemmas.Bool.{and_from, and_parts, lt-ltb, le-leb, leb-true}
use Rattle.cc_names.specs.Sizes.{bank_length, most_slots}
use Rattle.cc_model.specs.declared.command.Command.{Command}
use Rattle.cc_model.specs.Ranges.{is_register, is_weak_register, is_slots, in_range}
use Rattle.cc_model.specs.Lines.{lines_of, without_return}
use Rattle.cc_model.specs.Tokens.{tokens_of, is_digit_within, digits_from, number_within, slots_number, register_with, native_register, script_register, weak_register}
use Rattle.cc_model.specs.declared.dialect.Dialect.{Dialect}
use Rattle.cc_model.specs.declared.dialect.Dialect.TheVariants.{Start, One, Two}
use Rattle.cc_model.specs.Dialects.{registers_of, slots_of}
use Rattle.cc_model.specs.Forms.{Form, common_forms, forms_of}
use Rattle.cc_model.specs.Asks.{read_by, command_in, command_of_tokens, command_of, ask_of, dialect_after, asks_from, asks_of}
use Rattle.cc_laws_run.specs.Running.{ask_in_range}

-- what is read has the property
abbrev Has : {A : Type 0} → (A → Type 0) → Option A → Type 0
Has P None = Unit {0}
Has P (Some a) = P a

-- Numbers and registers

-- digits lead to at most the most
digits-below : (most n : ℕ) (bytes : List ℕ) → n ≤ most → Has (λ k. k ≤ most) (digits_from most n bytes)
digits-below most n [] le = le
digits-below most n (b ∷ bytes) le = go (digits-below most (n * 10 + (b - 48)) bytes) (is_digit_within most n b) refl
  where
    go : (n * 10 + (b - 48) ≤ most → Has (λ k. k ≤ most) (digits_from most (n * 10 + (b - 48)) bytes)) → (t : Bool) → is_digit_within most n b ≡ t →
        Has (λ k. k ≤ most) (if t then digits_from most (n * 10 + (b - 48)) bytes else None)
    go ih true e =
        let later = (and_parts (nat_le 48 b) (nat_le b 57 && nat_le (n * 10 + (b - 48)) most) e).1 in
        ih (leb-true (n * 10 + (b - 48)) most (and_parts (nat_le b 57) (nat_le (n * 10 + (b - 48)) most) later).1)
    go ih false e = tt

-- a number is at most the most
number-below : (most : ℕ) (token : List ℕ) → Has (λ k. k ≤ most) (number_within most token)
number-below most token = grind (arith, digits-below)

-- what is read has a property that follows from another one that it has
Has-so : {A : Type 0} (P Q : A → Type 0) → ((a : A) → P a → Q a) → (o : Option A) → Has P o → Has Q o
Has-so P Q so e h = grind arith

-- Every version's sizes are at most those of the heaps.
few_slots : (v : Dialect) → slots_of v ≤ most_slots
few_slots v = grind arith

few_registers : (v : Dialect) (k : ℕ) → k ≤ registers_of v - 1 → k < bank_length
few_registers v k le = grind arith

-- a number of slots is in range
slots-below : (v : Dialect) (token : List ℕ) → Has (λ k. IsTrue (is_slots k)) (slots_number v token)
slots-below v token = Has-so (λ k. k ≤ slots_of v) (λ k. IsTrue (is_slots k)) (λ k le. le-leb k most_slots (omega (arith, le, few_slots v)))
    (number_within (slots_of v) token) (number-below (slots_of v) token)

-- a register is in range
register-below : (v : Dialect) (letter : ℕ) (token : List ℕ) → Has (λ k. IsTrue (is_register k)) (register_with v letter token)
register-below v letter token = grind (arith, Has-so, lt-ltb, number-below, few_registers)

-- a native register is in range
native-below : (v : Dialect) (token : List ℕ) → Has (λ k. IsTrue (is_register k)) (native_register v token)
native-below v token = register-below v 110 token

-- a script register is in range
script-below : (v : Dialect) (token : List ℕ) → Has (λ k. IsTrue (is_register k)) (script_register v token)
script-below v token = register-below v 115 token

-- a weak register is in range
weak-below : (token : List ℕ) → Has (λ w. IsTrue (is_weak_register w)) (weak_register token)
weak-below token = grind (arith, Has-so, lt-ltb, number-below)

-- Forms

-- the command is in range
abbrev InRange : Command → Type 0
InRange c = IsTrue (in_range c)

-- what a form reads is in range
abbrev ReadsInRange : (List (List ℕ) → Option Command) → Type 0
ReadsInRange reads = (tokens : List (List ℕ)) → Has InRange (reads tokens)

-- each form of the list reads what is in range
abbrev EachInRange : List Form → Type 0
EachInRange [] = Unit {0}
EachInRange (f ∷ fs) = ReadsInRange f.reads × EachInRange fs

-- both of them
infixr 3 ◌also◌
◌also◌ : {A B : Type 0} → A → B → A × B
p also q = (p, q)

-- Each form is read from its tokens: registers and numbers of slots are in range, whatever the command.
ruleset below = (native-below, script-below, weak-below, slots-below)

-- THE FORMS OF EVERY VERSION read commands in range.
common-in_range : (v : Dialect) → EachInRange (common_forms v)
common-in_range v =
    (λ tokens. grind (arith, below))
    also (λ tokens. grind (arith, below))
    also (λ tokens. grind (arith, below))
    also (λ tokens. grind (arith, below))
    also (λ tokens. grind (arith, below))
    also (λ tokens. grind (arith, below))
    also (λ tokens. grind (arith, below))
    also (λ tokens. grind (arith, below))
    also (λ tokens. grind (arith, below))
    also (λ tokens. grind (arith, below))
    also (λ tokens. grind (arith, below))
    also (λ tokens. grind (arith, below))
    also (λ tokens. grind (arith, below))
    also (λ tokens. grind (arith, below))
    also (λ tokens. grind (arith, below))
    also (λ tokens. grind (arith, below))
    also (λ tokens. grind (arith, below))
    also (λ tokens. grind (arith, below))
    also (λ tokens. grind (arith, below))
    also (λ tokens. grind (arith, below))
    also (λ tokens. grind (arith, below))
    also (λ tokens. grind (arith, below))
    also (λ tokens. grind (arith, below))
    also (λ tokens. grind (arith, below))
    also (λ tokens. grind (arith, below))
    also (λ tokens. grind (arith, below))
    also (λ tokens. grind (arith, below))
    also tt

-- ALL FORMS read commands in range.
forms-in_range : (v : Dialect) → EachInRange (forms_of v)
forms-in_range Start = (λ tokens. grind arith) also common-in_range Start
forms-in_range One = common-in_range One
forms-in_range Two =
    (λ tokens. grind (arith, below))
    also (λ tokens. grind arith)
    also (λ tokens. grind arith)
    also (λ tokens. grind (arith, below))
    also (λ tokens. grind (arith, below))
    also (λ tokens. grind (arith, below))
    also (λ tokens. grind (arith, below))
    also common-in_range Two

-- Lines

-- the first form that reads a word and its tokens reads a command in range
command_in-range : (forms : List Form) (word : List ℕ) (after : List (List ℕ)) → EachInRange forms → Has InRange (command_in forms word after)
command_in-range [] word after each = tt
command_in-range (f ∷ fs) word after each = go (command_in-range fs word after each.1) (read_by f word after) (by_word (bytes_eq word f.word))
  where
    by_word : (t : Bool) → Has InRange (elim t [ true ↦ f.reads after | false ↦ None ])
    by_word true = each.0 after
    by_word false = tt

    go : Has InRange (command_in fs word after) → (o : Option Command) → Has InRange o →
        Has InRange (elim o [ Some c ↦ Some c | None ↦ command_in fs word after ])
    go ih None h = ih
    go ih (Some c) h = h

-- the tokens of a line are read as a command in range
tokens-in_range : (forms : List Form) (tokens : List (List ℕ)) → EachInRange forms → Has InRange (command_of_tokens forms tokens)
tokens-in_range forms tokens each = grind (arith, command_in-range)

-- the command of a line is in range
command_of-range : (v : Dialect) (line : List ℕ) → Has InRange (command_of v line)
unfolding command_of
command_of-range v line = tokens-in_range (forms_of v) (tokens_of (without_return line)) (forms-in_range v)

-- what a line asks is in range
ask_of-range : (v : Dialect) (line : List ℕ) → IsTrue (ask_in_range (ask_of v line))
ask_of-range v line = grind (arith, command_of-range)

-- what all lines ask is in range
lines-in_range : (v : Dialect) (lines : List (List ℕ)) → IsTrue (list_all ask_in_range (asks_from v lines))
lines-in_range v [] = refl
lines-in_range v (line ∷ lines) =
    let later = dialect_after v (ask_of v line) in
    and_from (ask_in_range (ask_of v line)) (list_all ask_in_range (asks_from later lines)) (ask_of-range v line) (lines-in_range later lines)

-- ALL ASKS OF AN INPUT ARE IN RANGE.
pub asks_of-range : (bytes : List ℕ) → IsTrue (list_all ask_in_range (asks_of bytes))
asks_of-range bytes = lines-in_range Start (lines_of bytes)

-- LINES READ ONE AFTER THE OTHER: one more line, and lines of version 1.
use Rattle.std.proofs.Common.{◌≡◌, ℕ, List, [], ◌∷◌, ◌++◌, map, refl, ap, arith}
use Rattle.cc_model.specs.declared.dialect.Dialect.{Dialect}
use Rattle.cc_model.specs.declared.dialect.Dialect.TheVariants.{Start, One}
use Rattle.cc_model.specs.Tokens.{native_register, script_register}
use Rattle.cc_model.specs.Forms.{Form, common_forms, version_form}
use Rattle.cc_model.specs.Asks.{ask_of, asks_from, command_of, command_of_tokens, dialect_after, dialect_from, taken_or_bad}

-- one more line asks what it asks behind those before it
pub asks_from-more : (v : Dialect) (lines : List (List ℕ)) (line : List ℕ) → asks_from v (lines ++ line ∷ []) ≡ asks_from v lines ++ ask_of (dialect_from v lines) line ∷ []
asks_from-more v [] line = refl
asks_from-more v (l ∷ lines) line = ap (λ asks. ask_of v l ∷ asks) (asks_from-more (dialect_after v (ask_of v l)) lines line)

-- and so does the line behind it
pub dialect_from-more : (v : Dialect) (lines : List (List ℕ)) (line : List ℕ) →
    dialect_from v (lines ++ line ∷ []) ≡ dialect_after (dialect_from v lines) (ask_of (dialect_from v lines) line)
dialect_from-more v [] line = refl
dialect_from-more v (l ∷ lines) line = dialect_from-more (dialect_after v (ask_of v l)) lines line

-- in version 1 each line is read alike
pub asks_from-one : (lines : List (List ℕ)) → asks_from One lines ≡ map (ask_of One) lines
asks_from-one [] = refl
asks_from-one (line ∷ lines) = ap (λ asks. ask_of One line ∷ asks) (asks_from-one lines)

same_function : {A B : Type 0} (f g : A → B) → ((a : A) → f a ≡ g a) → f ≡ g
same_function f g same = λ i a. same a i

native-start : (token : List ℕ) → native_register Start token ≡ native_register One token
native-start [] = refl
native-start (b ∷ token) = refl

script-start : (token : List ℕ) → script_register Start token ≡ script_register One token
script-start [] = refl
script-start (b ∷ token) = refl

-- what every version's forms read at the start is of version 1
forms-start : common_forms Start ≡ common_forms One
forms-start =
    let natives : native_register Start ≡ native_register One = same_function (native_register Start) (native_register One) native-start in
    let scripts : script_register Start ≡ script_register One = same_function (script_register Start) (script_register One) script-start in
    rw (natives, scripts) refl

-- where it makes the script one of version 1, a line asks at the start what it asks in version 1
tokens-start : (forms : List Form) (tokens : List (List ℕ)) → dialect_after Start (taken_or_bad (command_of_tokens (version_form ∷ forms) tokens)) ≡ One →
    command_of_tokens (version_form ∷ forms) tokens ≡ command_of_tokens forms tokens
tokens-start forms [] one = cc
tokens-start forms (word ∷ after) one = grind arith

pub ask_of-start : (line : List ℕ) → dialect_after Start (ask_of Start line) ≡ One → ask_of Start line ≡ ask_of One line
unfolding command_of
ask_of-start line one = grind (arith, tokens-start, forms-start)

-- How commands are read off tokens.
use Rattle.std.proofs.Common.{◌≡◌, ◌≢◌, ℕ, ◌<◌, true, false, List, [], ◌∷◌, ◌++◌, length, Option, Some, None, refl, sym, ap, ◌∙◌, get_or, arith}
use Rattle.std.proofs.lemmas.Slice.Eq.{bytes_eq-Decides}
use Rattle.std.proofs.lemmas.Bool.Decides.{nat_tests}
use Rattle.std.specs.Prelude.{bytes_eq}
use Rattle.cc_model.specs.declared.command.Command.{Command}
use Rattle.cc_model.specs.declared.command.Command.TheVariants.{Nothing}
use Rattle.cc_model.specs.declared.dialect.Dialect.{Dialect}
use Rattle.cc_model.specs.declared.dialect.Dialect.TheVariants.{Start, One, Two}
use Rattle.cc_model.specs.Lines.{without_return}
use Rattle.cc_model.specs.Tokens.{tokens_of}
use Rattle.cc_model.specs.Forms.{Form, common_forms, forms_of}
use Rattle.cc_model.specs.Asks.{command_in, command_of, command_of_tokens, is_comment}
use Rattle.cc_reader.specs.Words.{heap_forms, own_forms, reflector_forms, register_forms, slot_forms}

-- a word that is told to be another, which is known
pub command_in-word : (forms : List Form) (word other known : List ℕ) (after : List (List ℕ)) → true ≡ bytes_eq word other → other ≡ known →
    command_in forms word after ≡ command_in forms known after
command_in-word forms word other known after told is = ap (λ w. command_in forms w after) ((bytes_eq-Decides word other).0 (sym told) ∙ is)

-- a line with no token
pub command_of-blank : (v : Dialect) (line : List ℕ) → tokens_of (without_return line) ≡ [] → command_of v line ≡ Some Nothing
unfolding command_of
command_of-blank v line e = ap (command_of_tokens (forms_of v)) e

comment : (forms : List Form) (word : List ℕ) (after : List (List ℕ)) → 0 < length word → get_or word 0 0 ≡ 37 → command_of_tokens forms (word ∷ after) ≡ Some Nothing
comment forms word after l e = grind arith

no_comment : (word : List ℕ) → 0 < length word → get_or word 0 0 ≢ 37 → is_comment word ≡ false
no_comment word l e = grind (arith, nat_tests)

-- a comment
pub command_of-comment : (v : Dialect) (line word rest : List ℕ) → tokens_of (without_return line) ≡ word ∷ tokens_of rest → 0 < length word → get_or word 0 0 ≡ 37 →
    command_of v line ≡ Some Nothing
unfolding command_of
command_of-comment v line word rest e l c = ap (command_of_tokens (forms_of v)) e ∙ comment (forms_of v) word (tokens_of rest) l c

-- a line that begins with a word
pub command_of-word : (v : Dialect) (line word rest : List ℕ) → tokens_of (without_return line) ≡ word ∷ tokens_of rest → 0 < length word → get_or word 0 0 ≢ 37 →
    command_of v line ≡ command_in (forms_of v) word (tokens_of rest)
unfolding command_of
command_of-word v line word rest e l n = grind (arith, no_comment)

-- what is read first, or else the rest
abbrev or_else : Option Command → Option Command → Option Command
or_else r rest = elim r [ Some c ↦ Some c | None ↦ rest ]

-- forms and then others
command_in-append : (xs ys : List Form) (word : List ℕ) (after : List (List ℕ)) → command_in (xs ++ ys) word after ≡ or_else (command_in xs word after) (command_in ys word after)
command_in-append [] ys word after = refl
command_in-append (f ∷ xs) ys word after = grind (arith, command_in-append xs ys word after)

forms_of-parts : (v : Dialect) → forms_of v ≡ own_forms v ++ common_forms v
forms_of-parts Start = refl
forms_of-parts One = refl
forms_of-parts Two = refl

-- the groups of forms, one after the other
pub in_groups : (v : Dialect) (word : List ℕ) (after : List (List ℕ)) → command_in (forms_of v) word after
    ≡ or_else (command_in (own_forms v) word after) (or_else (command_in (register_forms v) word after) (or_else (command_in (slot_forms v) word after)
    (or_else (command_in (reflector_forms v) word after) (command_in heap_forms word after))))
in_groups v word after =
    ap (λ forms. command_in forms word after) (forms_of-parts v)
    ∙ (command_in-append (own_forms v) (common_forms v) word after
    ∙ ap (or_else (command_in (own_forms v) word after)) (command_in-append (register_forms v) (slot_forms v ++ (reflector_forms v ++ heap_forms)) word after
    ∙ ap (or_else (command_in (register_forms v) word after)) (command_in-append (slot_forms v) (reflector_forms v ++ heap_forms) word after
    ∙ ap (or_else (command_in (slot_forms v) word after)) (command_in-append (reflector_forms v) heap_forms word after))))

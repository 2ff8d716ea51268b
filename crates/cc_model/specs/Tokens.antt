-- The tokens of a line, and the numbers and registers among them.
use Rattle.std.specs.Prelude.{ℕ, ◌+◌, ◌-◌, ◌*◌, ◌^◌, Bool, true, false, List, [], ◌∷◌, ◌++◌, ◌==◌, ◌&&◌, ◌||◌, Option, Some, None, if◌then◌else◌, nat_le, nat_lt, length, slice_index, filter, bytes_eq, codes, option_and_then, option_map}
use Rattle.cc_names.specs.declared.name.Name.{Name}
use Rattle.cc_names.specs.Names.{native, object, reflector}
use Rattle.cc_names.specs.Sizes.{weak_length}
use Rattle.cc_model.specs.declared.dialect.Dialect.{Dialect}
use Rattle.cc_model.specs.Dialects.{registers_of, slots_of}

-- the token that a byte ends: a space ends one; a tab is no space
abbrev pub token_ended : List ℕ → ℕ → List (List ℕ)
token_ended token b = if b == 32 then token ∷ [] else []

-- the token so far, after a byte
abbrev pub token_after : List ℕ → ℕ → List ℕ
token_after token b = if b == 32 then [] else token ++ b ∷ []

-- the pieces between single spaces, empty ones among them
abbrev pub pieces_from : List ℕ → List ℕ → List (List ℕ)
pieces_from token [] = token ∷ []
pieces_from token (b ∷ bytes) = token_ended token b ++ pieces_from (token_after token b) bytes

abbrev pub has_bytes : List ℕ → Bool
has_bytes [] = false
has_bytes (b ∷ bytes) = true

-- THE TOKENS of a line: parted by one space or more, with spaces allowed before the first and after the last
abbrev pub tokens_of : List ℕ → List (List ℕ)
tokens_of line = filter has_bytes (pieces_from [] line)

-- whether a byte is a digit that takes the number n on to at most `most`
abbrev pub is_digit_within : ℕ → ℕ → ℕ → Bool
is_digit_within most n b = nat_le 48 b && (nat_le b 57 && nat_le (n * 10 + (b - 48)) most)

-- the number of the digits of n and then these, where none of its beginnings is above `most`;
-- beginnings are at most the whole, so that says that the whole is at most `most`
abbrev pub digits_from : ℕ → ℕ → List ℕ → Option ℕ
digits_from most n [] = Some n
digits_from most n (b ∷ bytes) = if is_digit_within most n b then digits_from most (n * 10 + (b - 48)) bytes else None

-- 0 in front of further digits
abbrev pub has_leading_zero : List ℕ → Bool
has_leading_zero token = nat_lt 1 (length token) && slice_index token 0 == 48

-- A NUMBER of at most `most`, in decimal digits, with no sign and no leading zero
abbrev pub number_within : ℕ → List ℕ → Option ℕ
number_within most token = if length token == 0 || has_leading_zero token then None else digits_from most 0 token

-- the greatest number of a line
abbrev pub greatest_number : ℕ
greatest_number = 2 ^ 32 - 1

abbrev pub number : List ℕ → Option ℕ
number token = number_within greatest_number token

-- a number of slots
abbrev pub slots_number : Dialect → List ℕ → Option ℕ
slots_number d token = number_within (slots_of d) token

-- a number of units, 1 to 1000000
abbrev pub units_number : List ℕ → Option ℕ
units_number token = option_and_then (λ n. if nat_lt 0 n then Some n else None) (number_within 1000000 token)

-- A REGISTER: a letter, and at once its number in its bank
abbrev pub register_with : Dialect → ℕ → List ℕ → Option ℕ
register_with d letter [] = None
register_with d letter (b ∷ token) = if b == letter then number_within (registers_of d - 1) token else None

abbrev pub native_register : Dialect → List ℕ → Option ℕ
native_register d token = register_with d 110 token

abbrev pub script_register : Dialect → List ℕ → Option ℕ
script_register d token = register_with d 115 token

-- A WEAK REGISTER: the letter w, and at once its number
abbrev pub weak_register : List ℕ → Option ℕ
weak_register [] = None
weak_register (b ∷ token) = if b == 119 then number_within (weak_length - 1) token else None

-- the number of a version that a script may ask for
abbrev pub is_version_two : List ℕ → Bool
is_version_two token = bytes_eq token (codes "2")

-- THE NAME OF AN OBJECT: `#`, `@` or `~`, and at once its number, from 1 on
abbrev pub made_number : List ℕ → Option ℕ
made_number token = option_and_then (λ n. if nat_lt 0 n then Some n else None) (number token)

abbrev pub object_name : List ℕ → Option Name
object_name [] = None
object_name (b ∷ token) =
    if b == 35 then option_map native (made_number token)
    else if b == 64 then option_map object (made_number token)
    else if b == 126 then option_map reflector (made_number token) else None

-- the word `none`
abbrev pub is_none_word : List ℕ → Bool
is_none_word token = bytes_eq token (codes "none")

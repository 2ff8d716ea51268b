-- The sizes of the language by their names in specifications. The figures stand in the code alone.
use Rattle.std.specs.Prelude.{ℕ, ◌+◌, ◌*◌}
use Rattle.cc_names.specs.declared.sizes.TheConstants.{BANK_LENGTH, MOST_ROOTS, WEAK_LENGTH, MOST_SLOTS, FIRST_BANK_LENGTH, FIRST_MOST_SLOTS}

-- so many registers of each kind commands can name; a bank has so many or more
abbrev pub bank_length : ℕ
bank_length = BANK_LENGTH

-- no bank has more registers
abbrev pub most_roots : ℕ
most_roots = MOST_ROOTS

-- so many weak registers there are
abbrev pub weak_length : ℕ
weak_length = WEAK_LENGTH

-- no object has more slots
abbrev pub most_slots : ℕ
most_slots = MOST_SLOTS

-- a script of version 1 can name so many registers of each kind, the first ones
abbrev pub first_bank_length : ℕ
first_bank_length = FIRST_BANK_LENGTH

-- and gives no object more slots
abbrev pub first_most_slots : ℕ
first_most_slots = FIRST_MOST_SLOTS

-- so many references may lead to one native where there are n native registers: from each of them, from each slot of a
-- million natives, and from its reflector
abbrev pub most_references : ℕ → ℕ
most_references n = n + most_slots * 1000000 + 1

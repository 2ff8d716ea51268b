-- THE VERSIONS OF THE LANGUAGE: how far the numbers of a line go.
use Rattle.std.specs.Prelude.{ℕ}
use Rattle.cc_names.specs.Sizes.{bank_length, most_slots, first_bank_length, first_most_slots}
use Rattle.cc_model.specs.declared.dialect.Dialect.{Dialect}
use Rattle.cc_model.specs.declared.dialect.Dialect.TheVariants.{Start, One, Two}

-- a line can name so many registers of each kind
abbrev pub registers_of : Dialect → ℕ
registers_of Start = first_bank_length
registers_of One = first_bank_length
registers_of Two = bank_length

-- and gives an object at most so many slots
abbrev pub slots_of : Dialect → ℕ
slots_of Start = first_most_slots
slots_of One = first_most_slots
slots_of Two = most_slots

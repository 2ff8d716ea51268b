-- THE TWO BANKS OF REGISTERS.
use Rattle.std.specs.Prelude.{◌≡◌, ℕ, ◌≤◌, None, slice_index_or}
use Rattle.cc_names.specs.declared.register.Reg.{Reg}
use Rattle.cc_names.specs.declared.register.Reg.TheVariants.{N, S}
use Rattle.cc_model.specs.Slots.{Slots}
use Rattle.cc_model.specs.Derivations.{Leads}
use Rattle.cc_search.specs.declared.bank.Bank.{Bank}
use Rattle.cc_search.specs.declared.bank.Bank.TheVariants.{Natives, Scripts}

-- a register of a bank
abbrev pub reg_in : Bank → ℕ → Reg
reg_in Natives r = N r
reg_in Scripts r = S r

-- what a bank holds
abbrev pub slots_in : Leads → Bank → Slots
slots_in l Natives = l.native_registers
slots_in l Scripts = l.script_registers

-- from a number on all are empty
abbrev pub AreEmptyFrom : Slots → ℕ → Type 0
AreEmptyFrom slots n = (i : ℕ) → n ≤ i → slice_index_or slots i None ≡ None

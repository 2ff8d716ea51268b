-- THE BANKS OF REGISTERS: one for each kind of object that a register may hold. Weak registers have a bank of their own, which
-- is empty wherever a root is read: that alone keeps them from being roots.
use Rattle.std.specs.Prelude.{ℕ, ◌≤◌, List, ◌++◌}
use Rattle.cc_names.specs.declared.register.Reg.{Reg}
use Rattle.cc_names.specs.declared.register.Reg.TheVariants.{N, S, W}
use Rattle.cc_names.specs.Sizes.{bank_length, most_roots}

pub data Bank : Type 0 where
  of_natives : Bank
  of_scripts : Bank
  of_weak : Bank

-- the bank of a register
abbrev pub bank_of : Reg → Bank
bank_of (N r) = of_natives
bank_of (S r) = of_scripts
bank_of (W r) = of_weak

-- and its place there
abbrev pub place_in_bank : Reg → ℕ
place_in_bank (N r) = r
place_in_bank (S r) = r
place_in_bank (W r) = r

-- what each bank of roots gives, one after the other
abbrev pub over_banks : {X : Type 0} → (Bank → List X) → List X
over_banks f = f of_natives ++ f of_scripts

-- HOW LONG A BANK MAY BE: it has each register that commands can name, and no more than are allowed
pub record IsBankLength (n : ℕ) : Type 0 where
  pub enough : bank_length ≤ n
  pub allowed : n ≤ most_roots

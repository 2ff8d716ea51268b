-- The ranges of a command's numbers.
use Rattle.std.specs.Prelude.{ℕ, Bool, true, false, ◌&&◌, Option, Some, None, nat_lt, nat_le}
use Rattle.cc_names.specs.declared.register.Reg.{Reg}
use Rattle.cc_names.specs.declared.register.Reg.TheVariants.{N, S, W}
use Rattle.cc_names.specs.Sizes.{bank_length, most_slots, weak_length}
use Rattle.cc_model.specs.declared.command.Command.{Command}
use Rattle.cc_model.specs.declared.command.Command.TheVariants.{Native, Script, WeakMap, Proxy, CopyNative, CopyScript, Drop, Set, Get, Move, Put, Take, Wrap, Unwrap, Preserve, SetEntry, GetEntry, Expose, Weak, Deref}

-- a register is one of its bank
abbrev pub is_register : ℕ → Bool
is_register r = nat_lt r bank_length

abbrev pub are_registers : ℕ → ℕ → Bool
are_registers r s = is_register r && is_register s

abbrev pub is_weak_register : ℕ → Bool
is_weak_register w = nat_lt w weak_length

-- a weak register is no place to get an object into, and no source
abbrev pub is_reg : Reg → Bool
is_reg (N r) = is_register r
is_reg (S r) = is_register r
is_reg (W r) = false

-- `drop` empties weak registers too
abbrev pub is_dropped : Reg → Bool
is_dropped (N r) = is_register r
is_dropped (S r) = is_register r
is_dropped (W w) = is_weak_register w

abbrev pub is_source : Option Reg → Bool
is_source None = true
is_source (Some r) = is_reg r

abbrev pub is_script_source : Option ℕ → Bool
is_script_source None = true
is_script_source (Some r) = is_register r

-- an object has only so many slots
abbrev pub is_slots : ℕ → Bool
is_slots n = nat_le n most_slots

-- whether a command's registers and its number of slots are in range, as those of every line are
abbrev pub in_range : Command → Bool
in_range (Native d n) = is_register d && is_slots n
in_range (Script d n) = is_register d && is_slots n
in_range (WeakMap d) = is_register d
in_range (Proxy d s) = are_registers d s
in_range (CopyNative d s) = are_registers d s
in_range (CopyScript d s) = are_registers d s
in_range (Drop r) = is_dropped r
in_range (Set d i r) = is_register d && is_source r
in_range (Get r s i) = is_reg r && is_register s
in_range (Move d i s j) = are_registers d s
in_range (Put d i s) = is_register d && is_script_source s
in_range (Take d s i) = are_registers d s
in_range (Wrap d s) = are_registers d s
in_range (Unwrap d s) = are_registers d s
in_range (Preserve s) = is_register s
in_range (SetEntry m k v) = are_registers m k && is_script_source v
in_range (GetEntry d m k) = is_register d && are_registers m k
in_range (Expose s i) = is_register s
in_range (Weak w s) = is_weak_register w && is_register s
in_range (Deref d w) = is_register d && is_weak_register w
in_range _ = true

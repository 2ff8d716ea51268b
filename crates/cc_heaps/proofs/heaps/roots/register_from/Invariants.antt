use Rattle.std.proofs.Common.{◌≡◌, drop}
use Rattle.cc_heaps.specs.Roots.{keys_in_registers}
use Rattle.cc_heaps.proofs.heaps.roots.register_from.Given as goal

abbrev pub invariant-loop-i : goal.invariant-loop-i
invariant-loop-i l = keys_in_registers (drop l.fn.next l.registers) ≡ keys_in_registers (drop l.i l.registers)

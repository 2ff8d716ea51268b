use Rattle.std.proofs.Common.{[], arith}
use Rattle.cc_tests_heaps.proofs.weak_registers.finds_no_other.Goals as goal

pub new_native-requires-clause-order : goal.new_native-requires-clause-order
new_native-requires-clause-order c = ([], c.set_native_reg.ensures.kept.order [] c.requires)

pub new_native-requires-clause-within : goal.new_native-requires-clause-within
new_native-requires-clause-within c = omega (arith, (c.set_native_reg.ensures.kept.order [] c.requires).sound.well_formed.registers.0.enough)

use Rattle.std.proofs.Common.{[], arith}
use Rattle.cc_heaps.proofs.FewCounts.{none-owned}
use Rattle.cc_tests_heaps.proofs.walks.leaves.Goals as goal

pub set_native_reg-requires-clause-within : goal.set_native_reg-requires-clause-within
set_native_reg-requires-clause-within c = omega (arith, (c.walk_add.ensures.kept.order [] (c.new_native.ensures.kept.order [] c.requires)).sound.well_formed.registers.0.enough)

pub set_native_reg-requires-clause-order : goal.set_native_reg-requires-clause-order
set_native_reg-requires-clause-order c = none-owned c.walk_add.new.self (c.walk_add.ensures.kept.order [] (c.new_native.ensures.kept.order [] c.requires))

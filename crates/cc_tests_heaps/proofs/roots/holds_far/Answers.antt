use Rattle.std.proofs.Common.{[], arith}
use Rattle.cc_heaps.proofs.FewCounts.{none-owned}
use Rattle.cc_tests_heaps.proofs.roots.holds_far.Goals as goal

pub new_native-requires-clause-within : goal.new_native-requires-clause-within
new_native-requires-clause-within c = omega (arith, c.requires.sound.well_formed.registers.0.enough)

pub new_native-requires-clause-order : goal.new_native-requires-clause-order
new_native-requires-clause-order c = ([], c.requires)

pub root_at-requires-clause-order : goal.root_at-requires-clause-order
root_at-requires-clause-order c = none-owned c.new_native.new.self (c.new_native.ensures.kept.order [] c.requires)

pub set_native_reg-requires-clause-within : goal.set_native_reg-requires-clause-within
set_native_reg-requires-clause-within c =
    omega (arith, (c.root_at.ensures.kept.order [] (c.new_native.ensures.kept.order [] c.requires)).sound.well_formed.registers.0.enough)

pub set_native_reg-requires-clause-order : goal.set_native_reg-requires-clause-order
set_native_reg-requires-clause-order c =
    none-owned c.root_at.new.self (c.root_at.ensures.kept.order [] (c.new_native.ensures.kept.order [] c.requires))

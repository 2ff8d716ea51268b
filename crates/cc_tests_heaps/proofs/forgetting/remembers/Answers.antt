use Rattle.std.proofs.Common.{[], arith}
use Rattle.cc_heaps.proofs.FewCounts.{none-owned}
use Rattle.cc_tests_heaps.proofs.forgetting.remembers.Goals as goal

pub new_native-requires-clause-within : goal.new_native-requires-clause-within
new_native-requires-clause-within c = omega (arith, c.requires.sound.well_formed.registers.0.enough)

pub new_native-requires-clause-order : goal.new_native-requires-clause-order
new_native-requires-clause-order c = ([], c.requires)

pub store_native-requires-clause-order : goal.store_native-requires-clause-order
store_native-requires-clause-order c = none-owned c.new_native.new.self (c.new_native.ensures.kept.order [] c.requires)

pub set_native_reg-requires-clause-within : goal.set_native_reg-requires-clause-within
set_native_reg-requires-clause-within c =
    omega (arith, (c.store_native.ensures.kept.order [] (c.new_native.ensures.kept.order [] c.requires)).sound.well_formed.registers.0.enough)

pub set_native_reg-requires-clause-order : goal.set_native_reg-requires-clause-order
set_native_reg-requires-clause-order c =
    none-owned c.store_native.new.self (c.store_native.ensures.kept.order [] (c.new_native.ensures.kept.order [] c.requires))

pub forget-forgotten-requires : goal.forget-forgotten-requires
forget-forgotten-requires c =
    record { order = ([], c.set_native_reg.ensures.kept.order [] (c.store_native.ensures.kept.order [] (c.new_native.ensures.kept.order [] c.requires))) }

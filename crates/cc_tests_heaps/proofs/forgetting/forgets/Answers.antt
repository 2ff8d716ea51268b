use Rattle.std.proofs.Common.{[], arith}
use Rattle.cc_tests_heaps.proofs.forgetting.forgets.Goals as goal

pub forget-none-requires : goal.forget-none-requires
forget-none-requires c = record { order = ([], c.requires) }

pub new_native-requires-clause-within : goal.new_native-requires-clause-within
new_native-requires-clause-within c = omega (arith, (c.forget-none.ensures.kept.order [] c.requires).sound.well_formed.registers.0.enough)

pub new_native-requires-clause-order : goal.new_native-requires-clause-order
new_native-requires-clause-order c = ([], c.forget-none.ensures.kept.order [] c.requires)

pub give_back-requires-clause-owned : goal.give_back-requires-clause-owned
give_back-requires-clause-owned c = ([], c.new_native.ensures.kept.order [] (c.forget-none.ensures.kept.order [] c.requires))

pub forget-first-requires : goal.forget-first-requires
forget-first-requires c = record { order = ([], c.give_back.ensures.kept.order [] (c.new_native.ensures.kept.order [] (c.forget-none.ensures.kept.order [] c.requires))) }

pub forget-second-requires : goal.forget-second-requires
forget-second-requires c =
    record { order = ([], c.forget-first.ensures.kept.order [] (c.give_back.ensures.kept.order [] (c.new_native.ensures.kept.order [] (c.forget-none.ensures.kept.order [] c.requires)))) }

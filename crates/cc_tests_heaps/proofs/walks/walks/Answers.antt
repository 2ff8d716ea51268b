use Rattle.std.proofs.Common.{[], arith}
use Rattle.cc_tests_heaps.proofs.walks.walks.Goals as goal

pub new_plain-requires-clause-within : goal.new_plain-requires-clause-within
new_plain-requires-clause-within c = omega (arith, (c.new_native.ensures.kept.order [] c.requires).sound.well_formed.registers.1.enough)

pub new_plain-requires-clause-order : goal.new_plain-requires-clause-order
new_plain-requires-clause-order c = ([], c.new_native.ensures.kept.order [] c.requires)

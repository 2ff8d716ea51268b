use Rattle.std.proofs.Common.{[]}
use Rattle.cc_tests_heaps.proofs.weak_registers.natives_are_found.Goals as goal

pub finds_no_other-requires : goal.finds_no_other-requires
finds_no_other-requires c = c.new_native.ensures.kept.order [] c.requires

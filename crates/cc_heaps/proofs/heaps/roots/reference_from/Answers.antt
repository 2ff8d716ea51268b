use Rattle.std.proofs.Common.{arith}
use Rattle.cc_heaps.proofs.References.{few-slots}
use Rattle.cc_heaps.proofs.heaps.roots.reference_from.Goals as goal

pub overflow_add-i-end : goal.overflow_add-i-end
overflow_add-i-end c = omega (arith, c.slots-i-end.ensures, few-slots c.args.counted.now c.requires.few_slots c.args.native.0)

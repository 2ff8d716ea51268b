use Rattle.cc_heaps.proofs.Registers.{none-by}
use Rattle.cc_weakrefs.proofs.weak_regs.no_registers.Goals as goal

pub returns : goal.returns
returns c = c.in_ok-vec.ensures.items_if_clones_equal (none-by _ (λ k h. h))

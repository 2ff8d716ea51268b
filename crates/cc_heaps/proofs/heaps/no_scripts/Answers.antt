use Rattle.cc_heaps.proofs.Registers.{none-by}
use Rattle.cc_heaps.proofs.heaps.no_scripts.Goals as goal

pub returns : goal.returns
returns c = c.in_ok-vec.ensures.items_if_clones_equal (none-by _ (λ k h. h))

use Rattle.std.specs.Prelude.{◌≡◌, vec_capacity}
use Rattle.cc_pool.specs.Blocks.{AreEmptiedTo}
use Rattle.cc_pool.proofs.pool.empty.Given as goal

abbrev pub invariant-loop-i : goal.invariant-loop-i
invariant-loop-i g l = record { emptied : AreEmptiedTo l.i l.fn.blocks.items l.blocks.items; places : vec_capacity l.blocks ≡ vec_capacity l.fn.blocks }

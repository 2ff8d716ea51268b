use Rattle.std.proofs.Common.{length}
use Rattle.cc_pool.proofs.Emptying.{blocks-room}
use Rattle.cc_pool.proofs.pool.Pool.capacity.Goals as goal

pub returns-clause-whole : goal.returns-clause-whole
returns-clause-whole g c = (length c.self.inside.blocks.items, blocks-room g.row.N _ _ _ c.self.invariant.blocks)

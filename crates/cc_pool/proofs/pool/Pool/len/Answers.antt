use Rattle.std.proofs.Common.{◌≤◌, ◌<◌, ◌^◌, subst}
use Rattle.cc_pool.proofs.Filling.{blocks-fit}
use Rattle.cc_pool.proofs.Places.{counted}
use Rattle.cc_pool.proofs.pool.Pool.len.Goals as goal

pub returns-clause-count : goal.returns-clause-count
returns-clause-count g c = counted g.row.N _ _ _ _ c.self.invariant c.self.view_is

pub returns-clause-within : goal.returns-clause-within
returns-clause-within g c = subst (λ p. c.self.inside.len ≤ p.capacity) c.self.view_is (blocks-fit g.row.N _ _ _ c.self.invariant.blocks)

pub returns-clause-small : goal.returns-clause-small
returns-clause-small g c = subst (λ p. p.capacity < 2 ^ 64) c.self.view_is c.self.invariant.small

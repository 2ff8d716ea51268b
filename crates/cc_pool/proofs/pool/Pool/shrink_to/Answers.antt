use Rattle.std.proofs.Common.{ap, arith}
use Rattle.cc_pool.proofs.Places.{counted}
use Rattle.cc_pool.proofs.Emptying.{pooled-taken, shown-taken}
use Rattle.cc_pool.proofs.pool.Pool.shrink_to.Goals as goal

pub invariant_of-self : goal.invariant_of-self
invariant_of-self g c =
    let count = counted g.row.N _ _ _ _ c.self.invariant c.self.view_is in
    let room = ap (λ p. p.capacity) c.self.view_is in
    rw c.truncate.ensures.items (pooled-taken g.row.N _ _ _ c.requires.whole.0 _ c.self.invariant c.requires.whole.1 (omega (arith, count, c.requires.enough)) (omega (arith, room, c.requires.within)))

pub returns : goal.returns
returns g c =
    let count = counted g.row.N _ _ _ _ c.self.invariant c.self.view_is in
    rw (c.truncate.ensures.items, c.truncate.ensures.capacity) (shown-taken g.row.N _ _ _ c.requires.whole.0 _ _ c.self.invariant c.requires.whole.1 (omega (arith, count, c.requires.enough)) c.self.view_is)

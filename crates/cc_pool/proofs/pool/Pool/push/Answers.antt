use Rattle.std.proofs.Common.{◌<◌, ◌+◌, ◌^◌, ap, arith, rules}
use Rattle.cc_pool.proofs.Places.{counted, block-there, block-open, pooled-pushed, shown-pushed}
use Rattle.cc_pool.proofs.pool.Pool.push.Goals as goal

pub index_mut-requires : goal.index_mut-requires
index_mut-requires g c =
    let count = counted g.row.N _ _ _ _ c.self.invariant c.self.view_is in
    let room = ap (λ p. p.capacity) c.self.view_is in
    block-there g.row.N _ _ c.self.inside.len c.self.inside.blocks c.self.invariant (omega (arith, count, room, c.requires))

pub push_reserved-requires : goal.push_reserved-requires
push_reserved-requires g c =
    let count = counted g.row.N _ _ _ _ c.self.invariant c.self.view_is in
    let room = ap (λ p. p.capacity) c.self.view_is in
    block-open g.row.N _ _ _ _ c.self.invariant (omega (arith, count, room, c.requires)) c.index_mut.ensures.value

pub overflow_add-self : goal.overflow_add-self
overflow_add-self g c =
    let count = counted g.row.N _ _ _ _ c.self.invariant c.self.view_is in
    let room = ap (λ p. p.capacity) c.self.view_is in
    let small : c.self.inside.len + 1 < 2 ^ 64 = omega (arith, count, room, c.requires, c.self.invariant.small) in
    search rules

pub invariant_of-self : goal.invariant_of-self
invariant_of-self g c =
    let count = counted g.row.N _ _ _ _ c.self.invariant c.self.view_is in
    let room = ap (λ p. p.capacity) c.self.view_is in
    pooled-pushed g.row.N _ _ _ _ _ c.args.value c.self.invariant (omega (arith, count, room, c.requires)) c.index_mut.ensures.value
    c.push_reserved.ensures.items c.push_reserved.ensures.capacity

pub returns : goal.returns
returns g c =
    let count = counted g.row.N _ _ _ _ c.self.invariant c.self.view_is in
    let room = ap (λ p. p.capacity) c.self.view_is in
    shown-pushed g.row.N _ _ _ _ _ c.args.value _ c.self.invariant c.self.view_is (omega (arith, count, room, c.requires)) c.index_mut.ensures.value
    c.push_reserved.ensures.items

use Rattle.std.proofs.Common.{◌≤◌, arith, refl}
use Rattle.cc_pool.proofs.Filling.{blocks-fit}
use Rattle.cc_pool.proofs.Places.{counted, block-there, place-there, pooled-written, shown-written}
use Rattle.cc_pool.proofs.pool.Pool.set.Goals as goal

pub index_mut-requires : goal.index_mut-requires
index_mut-requires g c =
    let count = counted g.row.N _ _ _ _ c.self.invariant c.self.view_is in
    let fits : c.self.inside.len ≤ c.self.inside.capacity = blocks-fit g.row.N _ _ _ c.self.invariant.blocks in
    block-there g.row.N _ _ c.args.i c.self.inside.blocks c.self.invariant (omega (arith, count, fits, c.requires))

pub index_mut-requires-2 : goal.index_mut-requires-2
index_mut-requires-2 g c =
    let count = counted g.row.N _ _ _ _ c.self.invariant c.self.view_is in
    place-there g.row.N _ _ c.args.i _ _ c.self.invariant (omega (arith, count, c.requires)) c.index_mut.ensures.value

pub invariant_of-self : goal.invariant_of-self
invariant_of-self g c =
    let count = counted g.row.N _ _ _ _ c.self.invariant c.self.view_is in
    pooled-written g.row.N _ _ c.args.i _ _ _ c.args.value c.self.invariant (omega (arith, count, c.requires)) c.index_mut.ensures.value refl refl

pub returns : goal.returns
returns g c =
    let count = counted g.row.N _ _ _ _ c.self.invariant c.self.view_is in
    shown-written g.row.N _ _ c.args.i _ _ _ c.args.value _ c.self.invariant c.self.view_is (omega (arith, count, c.requires)) c.index_mut.ensures.value refl

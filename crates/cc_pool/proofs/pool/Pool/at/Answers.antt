use Rattle.std.proofs.Common.{◌≤◌, arith}
use Rattle.cc_pool.proofs.Filling.{blocks-fit}
use Rattle.cc_pool.proofs.Places.{counted, block-there, place-there, read}
use Rattle.cc_pool.proofs.pool.Pool.at.Goals as goal

pub index-requires : goal.index-requires
index-requires g c =
    let count = counted g.row.N _ _ _ _ c.self.invariant c.self.view_is in
    let fits : c.self.inside.len ≤ c.self.inside.capacity = blocks-fit g.row.N _ _ _ c.self.invariant.blocks in
    block-there g.row.N _ _ c.args.i c.self.inside.blocks c.self.invariant (omega (arith, count, fits, c.requires))

pub index-requires-2 : goal.index-requires-2
index-requires-2 g c =
    let count = counted g.row.N _ _ _ _ c.self.invariant c.self.view_is in
    place-there g.row.N _ _ c.args.i _ _ c.self.invariant (omega (arith, count, c.requires)) c.index.ensures

pub returns : goal.returns
returns g c =
    let count = counted g.row.N _ _ _ _ c.self.invariant c.self.view_is in
    read g.row.N _ _ c.args.i _ _ _ _ c.self.invariant c.self.view_is (omega (arith, count, c.requires)) c.index.ensures c.index-2.ensures

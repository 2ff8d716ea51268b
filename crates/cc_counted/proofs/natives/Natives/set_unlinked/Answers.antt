use Rattle.std.proofs.Common.{false, ap, refl}
use Rattle.cc_counted.specs.Lists.{placed_unlinked}
use Rattle.cc_counted.proofs.Scripts.{scripts-reflected}
use Rattle.cc_counted.proofs.Threading.{stored-written, room-written, kept-recounted}
use Rattle.cc_counted.proofs.natives.Natives.set_unlinked.Goals as goal

pub recount-requires : goal.recount-requires
recount-requires c =
    room-written c.self.inside c.self.invariant _ c.self.view_is c.args.key.0 _ c.index_mut.ensures.value placed_unlinked _ (ap placed_unlinked c.cell.view_is) c.self.inside.holders refl refl

pub invariant_of-self : goal.invariant_of-self
invariant_of-self c =
    let cell = c.index_mut.result.now.cell in
    kept-recounted c.self.inside c.self.invariant _ c.self.view_is c.args.key.0 _ c.index_mut.ensures.value placed_unlinked _ (ap placed_unlinked c.cell.view_is) c.recount.new.holders refl refl
    c.refers_by_reflector-before.result false
    (rw c.refers_by_reflector-before.ensures (scripts-reflected cell (placed_unlinked cell) refl))
    c.recount.ensures

pub returns : goal.returns
returns c = stored-written c.self.inside c.self.invariant _ c.self.view_is c.args.key.0 _ c.index_mut.ensures.value placed_unlinked _ (ap placed_unlinked c.cell.view_is) c.recount.new.holders

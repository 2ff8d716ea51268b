use Rattle.std.proofs.Common.{arith}
use Rattle.cc_script.proofs.Coloured.{held-whole, removed-whole, slots-removed}
use Rattle.cc_script.proofs.cells.Cells.remove.Goals as goal

pub remove-cell-requires : goal.remove-cell-requires
remove-cell-requires c = held-whole c.self.inside.slab c.self.inside.bodies.items c.self.inside.new_marks.items c.self.inside.colours.items c.args.self.now c.self.view_is c.args.key c.requires

pub index_mut-requires : goal.index_mut-requires
index_mut-requires c = grind (arith, held-whole, c.self.invariant.filled)

pub returns-clause-slots : goal.returns-clause-slots
returns-clause-slots c =
    slots-removed c.self.inside.slab c.self.inside.bodies.items c.self.inside.new_marks.items c.self.inside.colours.items c.args.self.now c.self.view_is c.args.key c.remove-cell.new.self _
    c.remove-cell.ensures.updates.changed c.remove-cell.ensures.slots

pub returns-clause-updates : goal.returns-clause-updates
returns-clause-updates c =
    removed-whole c.self.inside.slab c.self.inside.bodies.items c.self.inside.new_marks.items c.self.inside.colours.items c.args.self.now c.self.view_is c.args.key c.remove-cell.new.self _
    c.remove-cell.ensures.updates

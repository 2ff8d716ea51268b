use Rattle.std.proofs.Common.{get_or}
use Rattle.cc_names.specs.declared.kind.Colour.TheVariants.{White}
use Rattle.cc_script.specs.Cells.{nothing}
use Rattle.cc_script.proofs.Coloured.{held-whole, read-whole}
use Rattle.cc_script.proofs.cells.Cells.cell.Goals as goal

pub index-requires : goal.index-requires
index-requires c = held-whole c.self.inside.slab c.self.inside.bodies.items c.self.inside.new_marks.items c.self.inside.colours.items c.args.self.now c.self.view_is c.args.key c.requires

pub returns : goal.returns
returns c =
    let contents = c.self.inside.bodies.items in
    let marks = c.self.inside.new_marks.items in
    let colours = c.self.inside.colours.items in (
      get_or colours c.args.key White,
      (
        get_or marks c.args.key White,
        (
          get_or contents c.args.key nothing,
          read-whole c.self.inside.slab contents marks colours c.args.self.now c.self.view_is c.args.key c.index.result.now c.index.ensures,
        ),
      ),
    )

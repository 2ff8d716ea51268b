use Rattle.std.proofs.Common.{get_or, Some, ap, sym, ◌∙◌, arith}
use Rattle.std.proofs.lemmas.List.{get_or_default}
use Rattle.cc_lists.proofs.Held.{is_some-found}
use Rattle.slab.specs.Slab.{get}
use Rattle.cc_names.specs.declared.kind.Colour.TheVariants.{White}
use Rattle.cc_script.specs.Cells.{Content, filled, in_colour, in_new_mark, nothing}
use Rattle.cc_script.proofs.Coloured.{held-whole, read-whole}
use Rattle.cc_script.proofs.cells.Cells.body.Goals as goal

pub index-requires : goal.index-requires
index-requires c =
    let held = held-whole c.self.inside.slab c.self.inside.bodies.items c.self.inside.new_marks.items c.self.inside.colours.items c.args.self.now c.self.view_is c.args.key c.requires in
    omega (arith, c.self.invariant.filled c.args.key held, c.self.inside.bodies.ok.0)

pub returns : goal.returns
returns c =
    let s = c.self.inside.slab in
    let contents = c.self.inside.bodies.items in
    let marks = c.self.inside.new_marks.items in
    let colours = c.self.inside.colours.items in
    let mark = get_or marks c.args.key White in
    let colour = get_or colours c.args.key White in
    let held = held-whole s contents marks colours c.args.self.now c.self.view_is c.args.key c.requires in
    let there = is_some-found (get s c.args.key) held in (
      colour,
      (
        mark,
        (
          there.0,
          read-whole s contents marks colours c.args.self.now c.self.view_is c.args.key there.0 there.1
              ∙ ap (λ (w : Content). Some (in_colour colour (in_new_mark mark (filled w there.0))))
              (sym (c.index.ensures ∙ get_or_default contents c.args.key c.index.result.now nothing (c.self.invariant.filled c.args.key held))),
        ),
      ),
    )

use Rattle.std.proofs.Common.{Some, option_map, ap, sym, ◌∙◌, arith}
use Rattle.std.proofs.lemmas.List.{get_or_default}
use Rattle.cc_lists.proofs.Held.{is_some-found}
use Rattle.slab.specs.Slab.{get}
use Rattle.cc_names.specs.declared.kind.Colour.TheVariants.{White}
use Rattle.cc_script.specs.Cells.{Linked}
use Rattle.cc_script.proofs.Coloured.{held-whole, read-whole}
use Rattle.cc_script.proofs.cells.Cells.new_mark.Goals as goal

pub index-requires : goal.index-requires
index-requires c =
    let held = held-whole c.self.inside.slab c.self.inside.bodies.items c.self.inside.new_marks.items c.self.inside.colours.items c.args.self.now c.self.view_is c.args.key c.requires in
    omega (arith, c.self.invariant.marked c.args.key held, c.self.inside.new_marks.ok.0)

pub returns : goal.returns
returns c =
    let s = c.self.inside.slab in
    let contents = c.self.inside.bodies.items in
    let marks = c.self.inside.new_marks.items in
    let colours = c.self.inside.colours.items in
    let held = held-whole s contents marks colours c.args.self.now c.self.view_is c.args.key c.requires in
    let there = is_some-found (get s c.args.key) held in
    ap (option_map (λ (z : Linked). z.placed.new_mark)) (read-whole s contents marks colours c.args.self.now c.self.view_is c.args.key there.0 there.1)
    ∙ ap Some (sym (c.index.ensures ∙ get_or_default marks c.args.key c.index.result.now White (c.self.invariant.marked c.args.key held)))

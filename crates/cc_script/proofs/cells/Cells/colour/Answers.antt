use Rattle.std.proofs.Common.{Some, option_map, ap, sym, ◌∙◌, arith}
use Rattle.std.proofs.lemmas.List.{get_or_default}
use Rattle.cc_lists.proofs.Held.{is_some-found}
use Rattle.slab.specs.Slab.{get}
use Rattle.cc_names.specs.declared.kind.Colour.TheVariants.{White}
use Rattle.cc_script.specs.Cells.{Linked, bare_slab}
use Rattle.cc_script.proofs.Coloured.{held-bare, reaches-bare, read-coloured}
use Rattle.cc_script.proofs.cells.Cells.colour.Goals as goal

pub index-requires : goal.index-requires
index-requires c =
    let held = held-bare (bare_slab c.self.inside.slab c.self.inside.bodies.items c.self.inside.new_marks.items) c.self.inside.colours.items c.args.self.now c.self.view_is c.args.key c.requires in
    omega (arith, reaches-bare c.self.inside.slab c.self.inside.bodies.items c.self.inside.new_marks.items c.self.inside.colours.items c.self.invariant.coloured c.args.key held, c.self.inside.colours.ok.0)

pub returns : goal.returns
returns c =
    let held = held-bare (bare_slab c.self.inside.slab c.self.inside.bodies.items c.self.inside.new_marks.items) c.self.inside.colours.items c.args.self.now c.self.view_is c.args.key c.requires in
    let there = is_some-found (get (bare_slab c.self.inside.slab c.self.inside.bodies.items c.self.inside.new_marks.items) c.args.key) held in
    ap (option_map (λ (z : Linked). z.placed.colour))
    (read-coloured (bare_slab c.self.inside.slab c.self.inside.bodies.items c.self.inside.new_marks.items) c.self.inside.colours.items c.args.self.now c.self.view_is c.args.key there.0 there.1)
    ∙ ap Some (sym (c.index.ensures ∙ get_or_default c.self.inside.colours.items c.args.key c.index.result.now White (reaches-bare c.self.inside.slab c.self.inside.bodies.items c.self.inside.new_marks.items c.self.inside.colours.items c.self.invariant.coloured c.args.key held)))

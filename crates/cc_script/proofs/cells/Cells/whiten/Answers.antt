use Rattle.std.proofs.Common.{◌+◌, List, ap, sym, subst, ◌∙◌}
use Rattle.std.specs.Prelude.{vec_capacity}
use Rattle.slab.specs.Slab.{Slab}
use Rattle.cc_names.specs.declared.kind.Colour.{Colour}
use Rattle.cc_names.specs.declared.kind.Colour.TheVariants.{White}
use Rattle.cc_script.specs.Lists.{painted}
use Rattle.cc_script.specs.Cells.{ChangesEach, Linked, bare_slab, coloured_slab}
use Rattle.cc_script.proofs.Coloured.{whitens-all}
use Rattle.cc_script.proofs.cells.Cells.whiten.Goals as goal

pub returns : goal.returns
returns c =
    let others = c.self.inside.slab.capacity + vec_capacity c.self.inside.bodies + vec_capacity c.self.inside.new_marks in
    let room = others + vec_capacity c.self.inside.colours in
    let s = bare_slab c.self.inside.slab c.self.inside.bodies.items c.self.inside.new_marks.items in
    let whitens = subst (λ (z : Slab Linked). ChangesEach z (coloured_slab room s c.fill.new.self.items) (painted White)) c.self.view_is
    (subst (λ (colours : List Colour). ChangesEach (coloured_slab room s c.self.inside.colours.items) (coloured_slab room s colours) (painted White)) (sym (c.fill.ensures.items (λ y clone. clone)))
    (whitens-all s c.self.inside.colours.items _)) in
    record {
      cells = whitens.cells;
      links = whitens.links;
      capacity = ap (λ n. others + n) c.fill.ensures.capacity ∙ ap (λ (z : Slab Linked). z.capacity) c.self.view_is;
    }

use Rattle.std.proofs.Common.{◌+◌, List, ap, sym, subst, ◌∙◌}
use Rattle.std.specs.Prelude.{vec_capacity}
use Rattle.slab.specs.Slab.{Slab}
use Rattle.cc_names.specs.declared.kind.Colour.{Colour}
use Rattle.cc_names.specs.declared.kind.Colour.TheVariants.{White}
use Rattle.cc_script.specs.Lists.{newly_marked}
use Rattle.cc_script.specs.Cells.{ChangesEach, Linked, coloured_slab, filled_slab, marked_slab}
use Rattle.cc_script.proofs.Coloured.{unmarks-all}
use Rattle.cc_script.proofs.cells.Cells.unmark_new.Goals as goal

pub returns : goal.returns
returns c =
    let others = c.self.inside.slab.capacity + vec_capacity c.self.inside.bodies in
    let colours = c.self.inside.colours in
    let room = others + vec_capacity c.self.inside.new_marks + vec_capacity colours in
    let s = filled_slab c.self.inside.slab c.self.inside.bodies.items in
    let old = coloured_slab room (marked_slab s c.self.inside.new_marks.items) colours.items in
    let unmarks = subst (λ (z : Slab Linked). ChangesEach z (coloured_slab room (marked_slab s c.fill.new.self.items) colours.items) (newly_marked White)) c.self.view_is
    (subst (λ (marks : List Colour). ChangesEach old (coloured_slab room (marked_slab s marks) colours.items) (newly_marked White)) (sym (c.fill.ensures.items (λ y clone. clone)))
    (unmarks-all s c.self.inside.new_marks.items colours.items _)) in
    record {
      cells = unmarks.cells;
      links = unmarks.links;
      capacity = ap (λ n. others + n + vec_capacity colours) c.fill.ensures.capacity ∙ ap (λ (z : Slab Linked). z.capacity) c.self.view_is;
    }

use Rattle.std.proofs.Common.{sym, ◌∙◌, ap}
use Rattle.slab.specs.Slab.{Slab, slab_len}
use Rattle.cc_names.specs.declared.kind.Colour.TheVariants.{White}
use Rattle.cc_script.specs.Cells.{Linked, bare_slab, filled, filled_slab, in_colour, in_new_mark, nothing}
use Rattle.cc_script.proofs.Paired.{paired-counted}
use Rattle.cc_script.proofs.cells.Cells.len.Goals as goal

pub returns : goal.returns
returns c =
    let s = c.self.inside.slab in
    let contents = c.self.inside.bodies.items in
    let marks = c.self.inside.new_marks.items in
    c.len.ensures
    ∙ (sym (paired-counted filled nothing s.slots contents)
    ∙ (sym (paired-counted in_new_mark White (filled_slab s contents).slots marks)
    ∙ (sym (paired-counted in_colour White (bare_slab s contents marks).slots c.self.inside.colours.items)
    ∙ ap (λ (z : Slab Linked). slab_len z) c.self.view_is)))

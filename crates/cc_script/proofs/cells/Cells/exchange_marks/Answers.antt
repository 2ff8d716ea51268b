use Rattle.std.proofs.Common.{◌≡◌, ◌+◌, ap, sym, subst, arith}
use Rattle.std.specs.Prelude.{vec_capacity}
use Rattle.slab.specs.Slab.{Slab}
use Rattle.cc_script.specs.Lists.{exchanged_marks}
use Rattle.cc_script.specs.Cells.{ChangesEach, Linked, coloured_slab, filled_slab, marked_slab}
use Rattle.cc_script.proofs.Coloured.{exchanges-all}
use Rattle.cc_script.proofs.cells.Cells.exchange_marks.Goals as goal

pub returns : goal.returns
returns c =
    let others = c.self.inside.slab.capacity + vec_capacity c.self.inside.bodies in
    let room = others + vec_capacity c.self.inside.new_marks + vec_capacity c.self.inside.colours in
    let other = others + vec_capacity c.swap.new.y + vec_capacity c.swap.new.x in
    let s = filled_slab c.self.inside.slab c.self.inside.bodies.items in
    let marks = c.self.inside.new_marks.items in
    let colours = c.self.inside.colours.items in
    let x_after = c.swap.ensures.x_after in
    let y_after = c.swap.ensures.y_after in
    let same : other ≡ room = omega (arith, ap vec_capacity x_after, ap vec_capacity y_after) in
    subst (λ (old : Slab Linked). ChangesEach old (coloured_slab other (marked_slab s c.swap.new.y.items) c.swap.new.x.items) exchanged_marks) c.self.view_is
    (subst (λ (new : Slab Linked). ChangesEach (coloured_slab room (marked_slab s marks) colours) new exchanged_marks)
    (λ i. coloured_slab other (marked_slab s (sym y_after i).items) (sym x_after i).items)
    (exchanges-all {room = room} {other = other} s marks colours same))

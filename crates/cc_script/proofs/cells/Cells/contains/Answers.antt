use Rattle.std.proofs.Common.{◌≡◌, ◌↔◌, Bool, true, false, is_some, refl, sym, ◌∙◌, ap}
use Rattle.slab.specs.Slab.{Slab, get}
use Rattle.cc_names.specs.declared.kind.Colour.TheVariants.{White}
use Rattle.cc_script.specs.Cells.{Linked, bare_slab, filled, filled_slab, in_colour, in_new_mark, nothing}
use Rattle.cc_script.proofs.Paired.{paired-held}
use Rattle.cc_script.proofs.cells.Cells.contains.Goals as goal

-- two answers agree where each is true if the other is
as-true : (a b : Bool) → (a ≡ true) ↔ (b ≡ true) → a ≡ b
as-true true true e = refl
as-true true false e = sym (e.0 refl)
as-true false true e = e.1 refl
as-true false false e = refl

pub returns : goal.returns
returns c =
    let s = c.self.inside.slab in
    let contents = c.self.inside.bodies.items in
    let marks = c.self.inside.new_marks.items in
    let key = c.args.key in
    as-true c.contains.result (is_some (get s key)) c.contains.ensures
    ∙ (sym (paired-held filled nothing s.slots contents key)
    ∙ (sym (paired-held in_new_mark White (filled_slab s contents).slots marks key)
    ∙ (sym (paired-held in_colour White (bare_slab s contents marks).slots c.self.inside.colours.items key)
    ∙ ap (λ (z : Slab Linked). is_some (get z key)) c.self.view_is)))

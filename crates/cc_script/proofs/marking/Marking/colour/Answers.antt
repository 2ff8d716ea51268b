use Rattle.std.proofs.Common.{◌≡◌, Some, subst, ◌∙◌}
use Rattle.cc_script.specs.Objects.{colour_at}
use Rattle.cc_script.specs.Parts.{lists_of}
use Rattle.cc_script.specs.Underway.{Underway}
use Rattle.cc_script.proofs.Places.{colour_at-cell}
use Rattle.cc_script.proofs.marking.Marking.colour.Goals as goal

pub returns : goal.returns
returns c =
    subst (λ (u : Underway). colour_at u.objects c.args.key.0 ≡ Some c.colour.result) c.self.view_is
    (colour_at-cell (lists_of c.self.inside.parts) c.self.invariant.under_way.placed c.args.key.0 ∙ c.colour.ensures)

use Rattle.std.proofs.Common.{◌≡◌, List, Some, subst, ◌∙◌}
use Rattle.cc_script.specs.Objects.{Object, colour_at}
use Rattle.cc_script.specs.Parts.{lists_of}
use Rattle.cc_script.proofs.Places.{colour_at-cell}
use Rattle.cc_script.proofs.scripts.Scripts.colour.Goals as goal

pub returns : goal.returns
returns c =
    subst (λ (v : List Object). colour_at v c.args.key.0 ≡ Some c.colour.result) c.self.view_is
    (colour_at-cell (lists_of c.self.inside.parts) c.self.invariant.placed c.args.key.0 ∙ c.colour.ensures)

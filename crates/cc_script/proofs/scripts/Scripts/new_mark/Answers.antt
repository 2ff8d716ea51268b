use Rattle.std.proofs.Common.{◌≡◌, List, Some, subst, ◌∙◌}
use Rattle.cc_script.specs.Objects.{Object, new_mark_at}
use Rattle.cc_script.specs.Parts.{lists_of}
use Rattle.cc_script.proofs.Places.{new_mark_at-cell}
use Rattle.cc_script.proofs.scripts.Scripts.new_mark.Goals as goal

pub returns : goal.returns
returns c =
    subst (λ (v : List Object). new_mark_at v c.args.key.0 ≡ Some c.new_mark.result) c.self.view_is
    (new_mark_at-cell (lists_of c.self.inside.parts) c.self.invariant.placed c.args.key.0 ∙ c.new_mark.ensures)

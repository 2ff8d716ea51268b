use Rattle.std.proofs.Common.{◌≡◌, List, Some, option_map, ap, sym, subst, ◌∙◌}
use Rattle.cc_script.specs.Objects.{Object, kind_at}
use Rattle.cc_script.specs.Cells.{Label, filled, in_colour, in_new_mark}
use Rattle.cc_script.specs.Parts.{lists_of}
use Rattle.cc_script.proofs.Places.{object_at-placed}
use Rattle.cc_script.proofs.scripts.Scripts.kind.Goals as goal

pub returns : goal.returns
returns c =
    subst (λ (v : List Object). kind_at v c.args.key.0 ≡ Some c.kind.result) c.self.view_is
    (ap (option_map (λ (o : Object). o.kind)) (object_at-placed (lists_of c.self.inside.parts) c.self.invariant.placed c.args.key.0 (in_colour c.cell.ensures.0 (in_new_mark c.cell.ensures.1.0 (filled c.cell.ensures.1.1.0 c.cell.result.now))).placed c.cell.ensures.1.1.1)
    ∙ ap (λ (p : Label). Some p.kind) (sym c.behind-self.view_is) ∙ ap Some (sym c.kind.ensures))

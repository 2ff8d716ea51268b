use Rattle.std.proofs.Common.{sym, ◌∙◌}
use Rattle.cc_chain.proofs.Occupied.{parts-counted}
use Rattle.cc_script.specs.Cells.{Linked}
use Rattle.cc_script.specs.Parts.{lists_of}
use Rattle.cc_script.proofs.Places.{objects-counted}
use Rattle.cc_script.proofs.parts.ScriptParts.len.Goals as goal

pub returns : goal.returns
returns c =
    c.len.ensures
    ∙ (sym (parts-counted (λ (z : Linked). z.placed) c.args.self.now.cells.slots) ∙ objects-counted (lists_of c.args.self.now) c.requires.placed)

use Rattle.std.proofs.Common.{◌∙◌, ap}
use Rattle.cc_script.specs.Parts.{marking_of}
use Rattle.cc_script.specs.Underway.{Underway}
use Rattle.cc_script.proofs.Underway.{marked-ordered}
use Rattle.cc_script.proofs.marking.Marking.into_parts.Goals as goal

pub returns-clause-at_rest : goal.returns-clause-at_rest
returns-clause-at_rest c =
    let parts = c.self.inside.parts in
    let emptied = ap (λ (u : Underway). u.waiting) c.self.view_is ∙ c.requires.done in
    record {
      placed = c.self.invariant.under_way.placed;
      chained = c.self.invariant.under_way.chained;
      coloured = marked-ordered c.self.inside.to (marking_of parts) emptied c.self.invariant.marked;
      emptied = emptied;
    }

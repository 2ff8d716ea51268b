use Rattle.std.proofs.Common.{refl, ap, sym, subst, ◌∙◌}
use Rattle.cc_script.specs.Objects.{with_new_mark}
use Rattle.cc_script.specs.ColourOrder.{HasColourOrder}
use Rattle.cc_script.specs.Lists.{objects_of, IsPlaced}
use Rattle.cc_script.specs.Cells.{cells_of}
use Rattle.cc_script.specs.Parts.{lists_of, shows}
use Rattle.cc_script.proofs.Places.{live-cell, live-some}
use Rattle.cc_script.proofs.Painting.{IsPlaced-newly_marked, objects-newly_marked}
use Rattle.cc_script.proofs.Chained.{lists-kept}
use Rattle.cc_script.proofs.Walked.{HasColourOrder-changed}
use Rattle.cc_script.proofs.parts.ScriptParts.set_new_mark.Goals as goal

pub set_new_mark-requires : goal.set_new_mark-requires
set_new_mark-requires c = record { live = live-some (lists_of c.args.self.now) c.requires.at_rest.placed c.args.key.0 c.requires.live }

pub returns-clause-shows : goal.returns-clause-shows
returns-clause-shows c =
    let p = c.args.self.now in
    let l = lists_of p in
    let changes = c.set_new_mark.ensures.changes in
    let f = live-cell l c.requires.at_rest.placed c.args.key.0 c.requires.live in
    ap objects_of (lists-kept p c.requires.at_rest.chained c.set_new_mark.new.self changes.links).lists
    ∙ objects-newly_marked l c.requires.at_rest.placed c.args.key.0 f.0 f.1 c.args.mark (cells_of c.set_new_mark.new.self.slots) changes.cells

pub returns-clause-at_rest : goal.returns-clause-at_rest
returns-clause-at_rest c =
    let p = c.args.self.now in
    let l = lists_of p in
    let changes = c.set_new_mark.ensures.changes in
    let f = live-cell l c.requires.at_rest.placed c.args.key.0 c.requires.live in
    let a = lists-kept p c.requires.at_rest.chained c.set_new_mark.new.self changes.links in
    record {
      placed = subst IsPlaced (sym a.lists)
          (IsPlaced-newly_marked l c.requires.at_rest.placed c.args.key.0 f.0 f.1 c.args.mark (cells_of c.set_new_mark.new.self.slots) changes.cells);
      chained = a.chained;
      coloured = subst HasColourOrder (sym (returns-clause-shows c))
          (HasColourOrder-changed (shows p) c.args.key.0 (with_new_mark c.args.mark) (λ o. refl) (λ o. refl) (λ o. refl) c.requires.at_rest.coloured);
      emptied = a.waits ∙ c.requires.at_rest.emptied;
    }

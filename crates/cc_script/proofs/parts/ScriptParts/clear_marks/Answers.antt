use Rattle.std.proofs.Common.{sym, subst, ap, ◌∙◌}
use Rattle.cc_script.specs.ColourOrder.{HasColourOrder}
use Rattle.cc_script.specs.Lists.{objects_of, IsPlaced}
use Rattle.cc_script.specs.Parts.{lists_of, shows}
use Rattle.cc_script.proofs.ChangingEach.{IsPlaced-whitened, objects-whitened}
use Rattle.cc_script.proofs.Chained.{lists-kept}
use Rattle.cc_script.proofs.InOrder.{HasColourOrder-whitened}
use Rattle.cc_script.proofs.parts.ScriptParts.clear_marks.Goals as goal

pub returns-clause-shows : goal.returns-clause-shows
returns-clause-shows c =
    let p = c.args.self.now in
    let whitens = c.whiten.ensures in
    ap objects_of (lists-kept p c.requires.at_rest.chained c.whiten.new.self whitens.links).lists
    ∙ objects-whitened (lists_of p) c.requires.at_rest.placed _ whitens.cells

pub returns-clause-at_rest : goal.returns-clause-at_rest
returns-clause-at_rest c =
    let p = c.args.self.now in
    let whitens = c.whiten.ensures in
    let a = lists-kept p c.requires.at_rest.chained c.whiten.new.self whitens.links in
    record {
      placed = subst IsPlaced (sym a.lists) (IsPlaced-whitened (lists_of p) c.requires.at_rest.placed _ whitens.cells);
      chained = a.chained;
      coloured = subst HasColourOrder (sym (returns-clause-shows c)) (HasColourOrder-whitened (shows p));
      emptied = a.waits ∙ c.requires.at_rest.emptied;
    }

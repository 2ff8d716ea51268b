use Rattle.std.proofs.Common.{refl, sym, subst, ap, ◌∙◌}
use Rattle.cc_names.specs.declared.kind.Colour.TheVariants.{White}
use Rattle.cc_script.specs.Objects.{with_new_mark}
use Rattle.cc_script.specs.ColourOrder.{HasColourOrder}
use Rattle.cc_script.specs.Lists.{objects_of, IsPlaced}
use Rattle.cc_script.specs.Parts.{lists_of, shows}
use Rattle.cc_script.proofs.ChangingEach.{IsPlaced-unmarked, objects-unmarked}
use Rattle.cc_script.proofs.Chained.{lists-kept}
use Rattle.cc_script.proofs.Walked.{HasColourOrder-mapped}
use Rattle.cc_script.proofs.parts.ScriptParts.unmark_new.Goals as goal

pub returns-clause-shows : goal.returns-clause-shows
returns-clause-shows c =
    let p = c.args.self.now in
    let each = c.unmark_new.ensures in
    ap objects_of (lists-kept p c.requires.at_rest.chained c.unmark_new.new.self each.links).lists
    ∙ objects-unmarked (lists_of p) c.requires.at_rest.placed _ each.cells

pub returns-clause-at_rest : goal.returns-clause-at_rest
returns-clause-at_rest c =
    let p = c.args.self.now in
    let each = c.unmark_new.ensures in
    let a = lists-kept p c.requires.at_rest.chained c.unmark_new.new.self each.links in
    record {
      placed = subst IsPlaced (sym a.lists) (IsPlaced-unmarked (lists_of p) c.requires.at_rest.placed _ each.cells);
      chained = a.chained;
      coloured = subst HasColourOrder (sym (returns-clause-shows c)) (HasColourOrder-mapped (with_new_mark White) (λ o. refl) (λ o. refl) (λ o. refl) (shows p) c.requires.at_rest.coloured);
      emptied = a.waits ∙ c.requires.at_rest.emptied;
    }

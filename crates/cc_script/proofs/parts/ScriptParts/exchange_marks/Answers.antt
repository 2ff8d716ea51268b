use Rattle.std.proofs.Common.{sym, subst, ◌∙◌}
use Rattle.cc_script.specs.ColourOrder.{HasColourOrder}
use Rattle.cc_script.proofs.ChangingEach.{are-exchanged}
use Rattle.cc_script.proofs.parts.ScriptParts.exchange_marks.Goals as goal

pub returns-clause-shows : goal.returns-clause-shows
returns-clause-shows c =
    (are-exchanged c.args.self.now c.requires.at_rest.placed c.requires.at_rest.chained c.exchange_marks.new.self c.exchange_marks.ensures).objects

pub returns-clause-at_rest : goal.returns-clause-at_rest
returns-clause-at_rest c =
    let a = are-exchanged c.args.self.now c.requires.at_rest.placed c.requires.at_rest.chained c.exchange_marks.new.self c.exchange_marks.ensures in
    record {
      placed = a.placed;
      chained = a.chained;
      coloured = subst HasColourOrder (sym a.objects) c.requires.order;
      emptied = a.waits ∙ c.requires.at_rest.emptied;
    }

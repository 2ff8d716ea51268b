use Rattle.std.proofs.Common.{map, ap, sym, subst, ◌∙◌}
use Rattle.cc_names.specs.declared.kind.Colour.TheVariants.{Black}
use Rattle.cc_script.specs.Objects.{AreWhole, is_there, raised_among}
use Rattle.cc_script.specs.ColourOrder.{HasColourOrder}
use Rattle.cc_script.specs.NewMarks.{exchanged, keys_to_blacken}
use Rattle.cc_script.specs.Parts.{shows, marking_of}
use Rattle.cc_script.proofs.Raising.{raised-none}
use Rattle.cc_script.proofs.ChangingEach.{are-exchanged}
use Rattle.cc_script.proofs.Blackening.{blackened-exchanged, exchanged-twice, order-blackened, there-exchanged, whole-exchanged}
use Rattle.cc_script.proofs.parts.ScriptParts.expose_new.Goals as goal

pub blacken_from-requires-clause-under_way : goal.blacken_from-requires-clause-under_way
blacken_from-requires-clause-under_way c =
    let p = c.args.self.now in
    let cells = c.exchange_marks.new.self in
    let a = are-exchanged p c.requires.at_rest.placed c.requires.at_rest.chained cells c.exchange_marks.ensures in
    let q = record p { cells = cells } in
    record { placed = a.placed; chained = a.chained; raised = raised-none Black (shows q) (marking_of q).waiting (a.waits ∙ c.requires.at_rest.emptied) }

pub blacken_from-requires-clause-emptied : goal.blacken_from-requires-clause-emptied
blacken_from-requires-clause-emptied c =
    (are-exchanged c.args.self.now c.requires.at_rest.placed c.requires.at_rest.chained c.exchange_marks.new.self c.exchange_marks.ensures).waits ∙ c.requires.at_rest.emptied

pub blacken_from-requires-clause-live : goal.blacken_from-requires-clause-live
blacken_from-requires-clause-live c =
    let a = are-exchanged c.args.self.now c.requires.at_rest.placed c.requires.at_rest.chained c.exchange_marks.new.self c.exchange_marks.ensures in
    ap (λ os. is_there os c.args.key.0) a.objects ∙ (there-exchanged (shows c.args.self.now) c.args.key.0 ∙ c.requires.live)

pub blacken_from-requires-clause-whole : goal.blacken_from-requires-clause-whole
blacken_from-requires-clause-whole c =
    let a = are-exchanged c.args.self.now c.requires.at_rest.placed c.requires.at_rest.chained c.exchange_marks.new.self c.exchange_marks.ensures in
    subst AreWhole (sym a.objects) (whole-exchanged (shows c.args.self.now) c.requires.whole)

pub returns-clause-shows : goal.returns-clause-shows
returns-clause-shows c =
    let objects = shows c.args.self.now in
    let a = are-exchanged c.args.self.now c.requires.at_rest.placed c.requires.at_rest.chained c.exchange_marks.new.self c.exchange_marks.ensures in
    let b = are-exchanged c.blacken_from.new.self c.blacken_from.ensures.under_way.placed c.blacken_from.ensures.under_way.chained c.exchange_marks-2.new.self c.exchange_marks-2.ensures in
    let keys = ap (λ os. keys_to_blacken os c.args.key.0) (ap (map exchanged) a.objects ∙ exchanged-twice objects) in
    let raised = c.blacken_from.ensures.shows ∙ (λ i. raised_among (keys i) Black (a.objects i)) in
    b.objects ∙ (ap (map exchanged) raised ∙ blackened-exchanged (keys_to_blacken objects c.args.key.0) objects)

pub returns-clause-at_rest : goal.returns-clause-at_rest
returns-clause-at_rest c =
    let objects = shows c.args.self.now in
    let b = are-exchanged c.blacken_from.new.self c.blacken_from.ensures.under_way.placed c.blacken_from.ensures.under_way.chained c.exchange_marks-2.new.self c.exchange_marks-2.ensures in
    record {
      placed = b.placed;
      chained = b.chained;
      coloured = subst HasColourOrder (sym (returns-clause-shows c)) (order-blackened (keys_to_blacken objects c.args.key.0) objects c.requires.at_rest.coloured);
      emptied = b.waits ∙ c.blacken_from.ensures.emptied;
    }

use Rattle.std.proofs.Common.{length, Some, ap, sym, ◌∙◌, arith}
use Rattle.std.proofs.lemmas.List.{length-map}
use Rattle.cc_script.specs.Objects.{slots_at}
use Rattle.cc_script.specs.Cells.{Content, filled, in_colour, in_new_mark}
use Rattle.cc_script.specs.Marking.{raise_slot}
use Rattle.cc_script.specs.Parts.{lists_of, shows, marking_of}
use Rattle.cc_script.proofs.Places.{slots_at-placed}
use Rattle.cc_script.proofs.Reading.{held_key, slot-read, slot-among}
use Rattle.cc_script.proofs.parts.ScriptParts.raise_slot.Goals as goal

pub index-requires : goal.index-requires
index-requires c =
    let slots = slots_at-placed (lists_of c.args.self.now) c.requires.under_way.placed c.args.key.0 (in_colour c.body.ensures.0 (in_new_mark c.body.ensures.1.0 (filled c.body.result.now c.body.ensures.1.1.0))).placed c.body.ensures.1.1.1 in
    omega (
      arith,
      c.requires.within,
      ap length slots,
      ap (λ (z : Content). length z.slots) c.behind-self.view_is,
      length-map c.behind-self.inside.slots.items held_key,
      c.behind-self.inside.slots.ok.0,
    )

pub raise-requires-clause-live : goal.raise-requires-clause-live
raise-requires-clause-live c =
    let slots = slots_at-placed (lists_of c.args.self.now) c.requires.under_way.placed c.args.key.0 (in_colour c.body.ensures.0 (in_new_mark c.body.ensures.1.0 (filled c.body.result.now c.body.ensures.1.1.0))).placed c.body.ensures.1.1.1 in
    let read = slot-read c.behind-self.inside.slots.items (slots_at (shows c.args.self.now) c.args.key.0) c.args.i c.index.result.now
    (ap (λ (z : Content). z.slots) c.behind-self.view_is ∙ sym slots) c.requires.within c.index.ensures in
    c.requires.held c.in-Some.item.0 (slot-among (slots_at (shows c.args.self.now) c.args.key.0) c.args.i (Some c.in-Some.item.0) c.requires.within (sym read ∙ ap held_key c.in-Some.is))

pub returns-in-Some-clause-raises : goal.returns-in-Some-clause-raises
returns-in-Some-clause-raises c =
    let slots = slots_at-placed (lists_of c.args.self.now) c.requires.under_way.placed c.args.key.0 (in_colour c.body.ensures.0 (in_new_mark c.body.ensures.1.0 (filled c.body.result.now c.body.ensures.1.1.0))).placed c.body.ensures.1.1.1 in
    let read = slot-read c.behind-self.inside.slots.items (slots_at (shows c.args.self.now) c.args.key.0) c.args.i c.index.result.now
    (ap (λ (z : Content). z.slots) c.behind-self.view_is ∙ sym slots) c.requires.within c.index.ensures in
    c.raise.ensures.raises ∙ ap (λ x. raise_slot c.args.to x (marking_of c.args.self.now)) (sym (sym read ∙ ap held_key c.in-Some.is))

pub returns-in_default-clause-raises : goal.returns-in_default-clause-raises
returns-in_default-clause-raises c =
    let slots = slots_at-placed (lists_of c.args.self.now) c.requires.under_way.placed c.args.key.0 (in_colour c.body.ensures.0 (in_new_mark c.body.ensures.1.0 (filled c.body.result.now c.body.ensures.1.1.0))).placed c.body.ensures.1.1.1 in
    let read = slot-read c.behind-self.inside.slots.items (slots_at (shows c.args.self.now) c.args.key.0) c.args.i c.index.result.now
    (ap (λ (z : Content). z.slots) c.behind-self.view_is ∙ sym slots) c.requires.within c.index.ensures in
    ap (λ x. raise_slot c.args.to x (marking_of c.args.self.now)) (sym (sym read ∙ ap held_key c.in_default.is))

use Rattle.std.proofs.Common.{◌≡◌, ◌+◌, ◌<◌, ◌≤◌, length, get_or, drop, None, ap, sym, ◌∙◌, arith}
use Rattle.std.proofs.lemmas.List.{length-map, drop_all}
use Rattle.cc_script.specs.Objects.{is_there, slots_at}
use Rattle.cc_script.specs.Cells.{Content, filled, in_colour, in_new_mark}
use Rattle.cc_script.specs.Marking.{Marking, raise_slot, raise_each}
use Rattle.cc_script.specs.Parts.{lists_of, shows, marking_of}
use Rattle.cc_script.proofs.Places.{slots_at-placed}
use Rattle.cc_script.proofs.Reading.{held_key}
use Rattle.cc_script.proofs.Raising.{raise_slot-there, raise_slot-slots, raise_each-more}
use Rattle.cc_script.proofs.parts.ScriptParts.raise_each.Goals as goal

pub raise_slot-requires-clause-within : goal.raise_slot-requires-clause-within
raise_slot-requires-clause-within c =
    let slots = slots_at-placed (lists_of c.args.self.now) c.requires.under_way.placed c.args.key.0 (in_colour c.body.ensures.0 (in_new_mark c.body.ensures.1.0 (filled c.body.result.now c.body.ensures.1.1.0))).placed c.body.ensures.1.1.1 in
    omega (
      arith,
      ap length c.loop-i.invariant.same_slots,
      ap length slots,
      ap (λ (z : Content). length z.slots) c.behind-self.view_is,
      length-map c.behind-self.inside.slots.items held_key,
      c.behind-self.inside.slots.ok.0,
      c.len-slots.ensures,
    )

pub loop-i-preserved : goal.loop-i-preserved
loop-i-preserved c =
    let slots = slots_at (shows c.args.self.now) c.args.key.0 in
    let within : c.loop-i.i < length slots =
    omega (
      arith,
      ap length (slots_at-placed (lists_of c.args.self.now) c.requires.under_way.placed c.args.key.0 (in_colour c.body.ensures.0 (in_new_mark c.body.ensures.1.0 (filled c.body.result.now c.body.ensures.1.1.0))).placed c.body.ensures.1.1.1),
      ap (λ (z : Content). length z.slots) c.behind-self.view_is,
      length-map c.behind-self.inside.slots.items held_key,
      c.behind-self.inside.slots.ok.0,
      c.len-slots.ensures,
    ) in
    let raises : marking_of c.raise_slot.new.self ≡ raise_slot c.args.to (get_or slots c.loop-i.i None) (marking_of c.loop-i.self) =
    c.raise_slot.ensures.raises ∙ ap (λ ys. raise_slot c.args.to (get_or ys c.loop-i.i None) (marking_of c.loop-i.self)) c.loop-i.invariant.same_slots in
    record {
      left = ap (raise_each c.args.to (drop (c.loop-i.i + 1) slots)) raises ∙ (raise_each-more c.args.to slots c.loop-i.i (marking_of c.loop-i.self) within ∙ c.loop-i.invariant.left);
      same_slots = ap (λ (z : Marking). slots_at z.objects c.args.key.0) raises
          ∙ (raise_slot-slots c.args.to (get_or slots c.loop-i.i None) (marking_of c.loop-i.self) c.args.key.0 ∙ c.loop-i.invariant.same_slots);
      there = λ q. ap (λ (z : Marking). is_there z.objects q) raises
          ∙ (raise_slot-there c.args.to (get_or slots c.loop-i.i None) (marking_of c.loop-i.self) q ∙ c.loop-i.invariant.there q);
      under_way = c.raise_slot.ensures.under_way;
    }

pub returns-clause-raises : goal.returns-clause-raises
returns-clause-raises c =
    let slots = slots_at-placed (lists_of c.args.self.now) c.requires.under_way.placed c.args.key.0 (in_colour c.body.ensures.0 (in_new_mark c.body.ensures.1.0 (filled c.body.result.now c.body.ensures.1.1.0))).placed c.body.ensures.1.1.1 in
    let past : length (slots_at (shows c.args.self.now) c.args.key.0) ≤ c.loop-i.i =
    omega (
      arith,
      ap length slots,
      ap (λ (z : Content). length z.slots) c.behind-self.view_is,
      length-map c.behind-self.inside.slots.items held_key,
      c.behind-self.inside.slots.ok.0,
      c.len-slots.ensures,
    ) in
    sym (ap (λ xs. raise_each c.args.to xs (marking_of c.loop-i.self)) (drop_all c.loop-i.i (slots_at (shows c.args.self.now) c.args.key.0) past)) ∙ c.loop-i.invariant.left

use Rattle.std.proofs.Common.{◌+◌, None, ap, sym, subst, ◌∙◌}
use Rattle.std.proofs.lemmas.List.{get_or_default}
use Rattle.cc_counted.specs.Counts.{native_held}
use Rattle.cc_counted.specs.Stored.{Stored}
use Rattle.cc_counted.proofs.Holding.{held-native}
use Rattle.cc_counted.proofs.Each.{GivesUpRest, GivesUpRest-none, GivesUpRest-some, balanced-next}
use Rattle.cc_counted.proofs.natives.Natives.give_up_each.Goals as goal
use Rattle.cc_counted.proofs.natives.Natives.give_up_each.Goals.{in-Some, in_default}

pub give_up-requires-clause-balanced : goal.give_up-requires-clause-balanced
give_up-requires-clause-balanced c =
    balanced-next c.args.self.now.lists c.args.slots.now c.loop-slot.self.lists c.loop-slot.slot-index c.loop-slot-test.true c.loop-slot.invariant c.requires.live
    c.in-Some.native.0 (held-native _ c.in-Some.native (sym (c.native_held.ensures ∙ ap native_held (c.held.ensures ∙ (c.slot-item.is ∙ get_or_default c.args.slots.now c.loop-slot.slot-index _ None c.loop-slot-test.true))) ∙ c.in-Some.is))

pub loop-slot-preserved : goal.loop-slot-preserved
loop-slot-preserved c =
    let P : Stored → Type 0 = λ p. GivesUpRest c.args.self.now.lists p.lists c.args.slots.now (c.loop-slot.slot-index + 1) in
    elim c.match-native_held.branch [
      | in-Some w ↦
          subst P (sym w.self-is)
          (GivesUpRest-some c.args.self.now.lists c.args.slots.now c.loop-slot.self.lists c.loop-slot.slot-index c.loop-slot-test.true c.loop-slot.invariant c.requires.live
          w.in-Some.native.0 (held-native _ w.in-Some.native (sym (c.native_held.ensures ∙ ap native_held (c.held.ensures ∙ (c.slot-item.is ∙ get_or_default c.args.slots.now c.loop-slot.slot-index _ None c.loop-slot-test.true))) ∙ w.in-Some.is)) w.give_up.new.self.lists w.give_up.ensures)
      | in_default w ↦
          subst P (sym w.self-is)
          (GivesUpRest-none c.args.self.now.lists c.args.slots.now c.loop-slot.self.lists c.loop-slot.slot-index c.loop-slot-test.true c.loop-slot.invariant (sym (c.native_held.ensures ∙ ap native_held (c.held.ensures ∙ (c.slot-item.is ∙ get_or_default c.args.slots.now c.loop-slot.slot-index _ None c.loop-slot-test.true))) ∙ w.in_default.is))
    ]

use Rattle.std.proofs.Common.{subst, sym}
use Rattle.cc_lists.proofs.Places.{place-among}
use Rattle.cc_weakmaps.proofs.Below.{place-within}
use Rattle.cc_marking.proofs.Turns.{IsLooking, looking-begins, looking-done, looking-next, looking-place}
use Rattle.cc_marking.proofs.There.{AreEntriesThere-stay}
use Rattle.std.proofs.Common.{◌∙◌}
use Rattle.cc_marking.proofs.marking.mark_entries.Goals as goal

pub loop-place-init : goal.loop-place-init
loop-place-init g c = looking-begins c.args.to c.args.weak.now c.args.object.0 c.args.marking.now c.args.steps.now c.first_with-place.result c.first_with-place.ensures.place c.requires.whole

pub entry-delegate-requires : goal.entry-delegate-requires
entry-delegate-requires g c = record { within = place-within c.args.weak.now c.args.object.0 c.in-Some.i (looking-place c.args.to c.args.weak.now c.args.object.0 c.args.marking.now c.args.steps.now c.loop-place.marking c.loop-place.steps c.loop-place.place c.in-Some.i c.in-Some.is c.loop-place.invariant) }

pub mark_entry-requires-clause-there : goal.mark_entry-requires-clause-there
mark_entry-requires-clause-there g c =
    AreEntriesThere-stay c.args.marking.now.objects c.loop-place.marking.objects (λ k h. c.loop-place.invariant.there k ∙ h) c.args.weak.now c.requires.entries _
    (place-among _ c.args.weak.now c.in-Some.i c.entry-delegate.ensures)

pub next_with-place-requires : goal.next_with-place-requires
next_with-place-requires g c = looking-place c.args.to c.args.weak.now c.args.object.0 c.args.marking.now c.args.steps.now c.loop-place.marking c.loop-place.steps c.loop-place.place c.in-Some.i c.in-Some.is c.loop-place.invariant

pub loop-place-preserved : goal.loop-place-preserved
loop-place-preserved g c =
    subst (λ n. IsLooking c.args.to c.args.weak.now c.args.object.0 c.args.marking.now c.args.steps.now c.mark_entry.new.marking n c.next_with-place.result) (sym c.tick.ensures)
    (looking-next c.args.to c.args.weak.now c.args.object.0 c.args.marking.now c.args.steps.now c.loop-place.marking c.loop-place.steps c.loop-place.place c.in-Some.i c.in-Some.is _ c.mark_entry.new.marking c.next_with-place.result
    c.entry-delegate.ensures c.next_with-place.ensures.place c.mark_entry.ensures.given c.mark_entry.ensures.colour c.mark_entry.ensures.there c.mark_entry.ensures.whole
    c.loop-place.invariant)

pub returns-clause-given : goal.returns-clause-given
returns-clause-given g c =
    (looking-done c.args.to c.args.weak.now c.args.object.0 c.args.marking.now c.args.steps.now c.loop-place.marking c.loop-place.steps c.loop-place.place c.in_default.is c.loop-place.invariant).0

pub returns-clause-steps : goal.returns-clause-steps
returns-clause-steps g c =
    (looking-done c.args.to c.args.weak.now c.args.object.0 c.args.marking.now c.args.steps.now c.loop-place.marking c.loop-place.steps c.loop-place.place c.in_default.is c.loop-place.invariant).1

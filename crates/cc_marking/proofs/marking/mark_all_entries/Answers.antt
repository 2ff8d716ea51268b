use Rattle.std.proofs.Common.{◌+◌, ◌∙◌, subst, sym}
use Rattle.cc_lists.proofs.Places.{place-among}
use Rattle.cc_marking.proofs.There.{AreEntriesThere-stay}
use Rattle.cc_marking.proofs.Turns.{IsLookingOver, over-next}
use Rattle.cc_marking.proofs.marking.mark_all_entries.Goals as goal

pub mark_entry-requires-clause-there : goal.mark_entry-requires-clause-there
mark_entry-requires-clause-there g c =
    AreEntriesThere-stay c.args.marking.now.objects c.loop-i.marking.objects (λ k h. c.loop-i.invariant.there k ∙ h) c.args.weak.now c.requires.entries _
    (place-among _ c.args.weak.now c.loop-i.i c.entry-delegate.ensures)

pub loop-i-preserved : goal.loop-i-preserved
loop-i-preserved g c =
    subst (λ n. IsLookingOver c.args.to c.args.weak.now c.args.marking.now c.args.steps.now c.mark_entry.new.marking n (c.loop-i.i + 1)) (sym c.tick.ensures)
    (over-next c.args.to c.args.weak.now c.args.marking.now c.args.steps.now c.loop-i.marking c.loop-i.steps c.loop-i.i _ c.mark_entry.new.marking c.entry-delegate.ensures
    c.mark_entry.ensures.given c.mark_entry.ensures.colour c.mark_entry.ensures.there c.mark_entry.ensures.whole c.loop-i.invariant)

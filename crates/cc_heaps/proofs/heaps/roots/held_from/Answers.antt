use Rattle.std.proofs.Common.{sym, ◌∙◌, ap, subst, ◌<◌}
use Rattle.cc_heaps.specs.Roots.{keys_from}
use Rattle.cc_heaps.proofs.RootWalks.{natives_left, goes_on, IsPlace-front, keys_from-behind}
use Rattle.cc_heaps.proofs.heaps.roots.held_from.Goals as goal

pub loop-at-smaller : goal.loop-at-smaller
loop-at-smaller c =
    let counted = c.args.counted.now in
    subst (λ at. natives_left counted c.next-at.result < natives_left counted at) (sym c.in-Some.is)
    (goes_on counted c.requires.keyed c.in-Some.key c.next-at.result c.next-at.ensures.number c.next-at.ensures.live).fewer

pub loop-at-preserved : goal.loop-at-preserved
loop-at-preserved c =
    let counted = c.args.counted.now in
    let further = goes_on counted c.requires.keyed c.in-Some.key c.next-at.result c.next-at.ensures.number c.next-at.ensures.live in
    record {
      place = IsPlace-front counted c.requires.keyed c.requires.few_slots c.next-at.result c.next-at.ensures.live;
      left =
          c.loop-at.invariant.left
          ∙ (ap (λ at. keys_from counted at c.loop-at.from) c.in-Some.is
          ∙ (keys_from-behind counted c.in-Some.key c.loop-at.from c.in_default-reference_from.ensures.left
          ∙ sym further.keys));
    }

use Rattle.std.proofs.Common.{◌≡◌, true, None, slice_index_or, sym, ◌∙◌, ap, subst, arith, false}
use borrow.Author.Count.{below_more}
use Rattle.cc_counted.specs.Counts.{Counts, references_of}
use Rattle.cc_heaps.specs.GrayHeld.{IsHeldIn, is_gray_held, is_holder}
use Rattle.cc_heaps.proofs.GrayHolders.{any-none, any-some, held-in}
use Rattle.cc_heaps.proofs.Keying.{counts-back}
use Rattle.cc_heaps.proofs.ObjectsKept.{keys-counted}
use Rattle.cc_heaps.proofs.References.{few-slots, length-references}
use Rattle.cc_heaps.proofs.ReferenceNames.{few_slots-counted}
use Rattle.cc_heaps.proofs.heaps.Heaps.holds_gray.Goals as goal

pub overflow_add-i-end : goal.overflow_add-i-end
overflow_add-i-end c =
    let p = c.self.inside in
    let f = rw (← c.self.view_is) at c.requires.order in
    omega (arith, c.slots-i-end.ensures, few-slots p.counted (few_slots-counted p f.1.sound.well_formed) c.args.key.0)

pub is_gray-requires : goal.is_gray-requires
is_gray-requires c =
    let p = c.self.inside in
    let f = rw (← c.self.view_is) at c.requires.order in
    record {
      there = rw (← c.self.view_is, counts-back p c.self.invariant)
          (subst (IsHeldIn p.scripts) (sym c.reference.ensures.name)
          (held-in p c.self.invariant (keys-counted f.0 p c.self.invariant f.1) c.args.key.0 (rw (← c.self.view_is) at c.requires.live) c.loop-i.i));
    }

pub loop-i-preserved : goal.loop-i-preserved
loop-i-preserved c =
    let p = c.self.inside in
    let tested = rw (← c.self.view_is, counts-back p c.self.invariant) at c.is_gray.ensures in
    let here : is_gray_held p.scripts (slice_index_or (references_of p.counted c.args.key.0) c.loop-i.i None) ≡ false =
    ap (is_gray_held p.scripts) (sym c.reference.ensures.name) ∙ (sym tested ∙ c.if-is_gray.false) in
    below_more (λ k. is_gray_held p.scripts (slice_index_or (references_of p.counted c.args.key.0) k None) ≡ false) c.loop-i.i c.loop-i.invariant here

pub returns-then-is_gray : goal.returns-then-is_gray
returns-then-is_gray c =
    let p = c.self.inside in
    let tested = rw (← c.self.view_is, counts-back p c.self.invariant) at c.is_gray.ensures in
    let here : is_gray_held p.scripts (slice_index_or (references_of p.counted c.args.key.0) c.loop-i.i None) ≡ true =
    ap (is_gray_held p.scripts) (sym c.reference.ensures.name) ∙ (sym tested ∙ c.if-is_gray.true) in
    rw (← c.self.view_is)
    (subst (λ (d : Counts). true ≡ is_holder p.scripts d c.args.key.0) (sym (counts-back p c.self.invariant))
    (sym (any-some (is_gray_held p.scripts) (references_of p.counted c.args.key.0) None c.loop-i.i
    (omega (arith, c.slots-i-end.ensures, c.loop-i.auto.i-end, length-references p.counted c.args.key.0)) here)))

pub returns : goal.returns
returns c =
    let p = c.self.inside in
    rw (← c.self.view_is)
    (subst (λ (d : Counts). false ≡ is_holder p.scripts d c.args.key.0) (sym (counts-back p c.self.invariant))
    (sym (any-none (is_gray_held p.scripts) (references_of p.counted c.args.key.0) None
    (λ k l. c.loop-i.invariant k (omega (arith, l, c.slots-i-end.ensures, length-references p.counted c.args.key.0))))))

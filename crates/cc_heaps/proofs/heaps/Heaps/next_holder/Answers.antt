use Rattle.std.proofs.Common.{◌≡◌, sym, subst, ◌∙◌}
use Rattle.cc_counted.specs.Counts.{Counts, the_number}
use Rattle.cc_heaps.specs.GrayHeld.{is_holder}
use Rattle.cc_heaps.specs.Fields.{keyed_of}
use Rattle.cc_heaps.proofs.GrayHolders.{holds, holder-numbered}
use Rattle.cc_heaps.proofs.Keying.{counts-back}
use Rattle.cc_heaps.proofs.ObjectsKept.{keys-counted}
use Rattle.cc_heaps.proofs.Listing.{none-left}
use Rattle.cc_heaps.proofs.Registers.{live-there}
use Rattle.cc_heaps.proofs.HolderWalk.{IsLooking-start, IsLooking-next, key-there, numbers_left-less, holder-found, holder-none}
use Rattle.cc_heaps.proofs.heaps.Heaps.next_holder.Goals as goal

pub referring_above-next-requires : goal.referring_above-next-requires
referring_above-next-requires c =
    let f = rw (← c.self.view_is) at c.requires.order in
    record { there = live-there (keyed_of c.self.inside) c.args.after (rw (← c.self.view_is) at c.requires.there); keyed = keys-counted f.0 c.self.inside c.self.invariant f.1 }

pub loop-next-init : goal.loop-next-init
loop-next-init c =
    let f = rw (← c.self.view_is) at c.requires.order in
    IsLooking-start c.self.inside f.0 f.1 c.args.after c.referring_above-next.result c.referring_above-next.ensures.number c.referring_above-next.ensures.there

pub holds_gray-requires : goal.holds_gray-requires
holds_gray-requires c =
    let f = rw (← c.self.view_is) at c.requires.order in
    record { order = c.requires.order; live = rw (← c.self.view_is) (key-there c.self.inside f.0 f.1 c.args.after c.loop-next.next c.in-Some.key c.in-Some.is c.loop-next.invariant) }

pub returns-then-holds_gray-clause-number : goal.returns-then-holds_gray-clause-number
returns-then-holds_gray-clause-number c =
    let p = c.self.inside in
    let f = rw (← c.self.view_is) at c.requires.order in
    let tested : c.holds_gray.result ≡ holds p.scripts p.counted (the_number p.counted c.in-Some.key.0) =
    subst (λ (d : Counts). c.holds_gray.result ≡ is_holder p.scripts d c.in-Some.key.0) (counts-back p c.self.invariant) (rw (← c.self.view_is) at c.holds_gray.ensures)
    ∙ holder-numbered p c.self.invariant (keys-counted f.0 p c.self.invariant f.1) c.in-Some.key.0
    (key-there p f.0 f.1 c.args.after c.loop-next.next c.in-Some.key c.in-Some.is c.loop-next.invariant) in
    rw (← c.self.view_is)
    (holder-found p f.0 f.1 c.args.after c.self.invariant c.loop-next.next c.in-Some.key c.in-Some.is c.loop-next.invariant (sym tested ∙ c.if-holds_gray.true))

pub returns-then-holds_gray-clause-there : goal.returns-then-holds_gray-clause-there
returns-then-holds_gray-clause-there c =
    let f = rw (← c.self.view_is) at c.requires.order in
    rw (← c.self.view_is) (key-there c.self.inside f.0 f.1 c.args.after c.loop-next.next c.in-Some.key c.in-Some.is c.loop-next.invariant)

pub referring_above-next-requires-in-Some : goal.referring_above-next-requires-in-Some
referring_above-next-requires-in-Some c =
    let f = rw (← c.self.view_is) at c.requires.order in
    record { there = key-there c.self.inside f.0 f.1 c.args.after c.loop-next.next c.in-Some.key c.in-Some.is c.loop-next.invariant; keyed = keys-counted f.0 c.self.inside c.self.invariant f.1 }

pub loop-next-smaller : goal.loop-next-smaller
loop-next-smaller c =
    let f = rw (← c.self.view_is) at c.requires.order in
    numbers_left-less c.self.inside f.0 f.1 c.args.after c.loop-next.next c.in-Some.key c.in-Some.is c.loop-next.invariant
    c.referring_above-next-in-Some.result c.referring_above-next-in-Some.ensures.number

pub loop-next-preserved : goal.loop-next-preserved
loop-next-preserved c =
    let p = c.self.inside in
    let f = rw (← c.self.view_is) at c.requires.order in
    let tested : c.holds_gray.result ≡ holds p.scripts p.counted (the_number p.counted c.in-Some.key.0) =
    subst (λ (d : Counts). c.holds_gray.result ≡ is_holder p.scripts d c.in-Some.key.0) (counts-back p c.self.invariant) (rw (← c.self.view_is) at c.holds_gray.ensures)
    ∙ holder-numbered p c.self.invariant (keys-counted f.0 p c.self.invariant f.1) c.in-Some.key.0
    (key-there p f.0 f.1 c.args.after c.loop-next.next c.in-Some.key c.in-Some.is c.loop-next.invariant) in
    IsLooking-next p f.0 f.1 c.args.after c.loop-next.next c.in-Some.key c.in-Some.is c.loop-next.invariant
    (sym tested ∙ c.if-holds_gray.false) c.referring_above-next-in-Some.result c.referring_above-next-in-Some.ensures.number c.referring_above-next-in-Some.ensures.there

pub returns-clause-number : goal.returns-clause-number
returns-clause-number c =
    let f = rw (← c.self.view_is) at c.requires.order in
    rw (← c.self.view_is)
    (holder-none c.self.inside f.0 f.1 c.args.after c.self.invariant c.loop-next.next (none-left c.loop-next.next c.in_default.not-Some) c.loop-next.invariant)

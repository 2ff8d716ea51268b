use Rattle.std.proofs.lemmas.List.{length-map}
use Rattle.std.proofs.Common.{[], ◌∷◌, ◌++◌, ◌<◌, ◌⊎◌, List, ◌≡◌, Some, None, arith, inl, inr, length, slice_set, subst}
use Rattle.cc_host.specs.Hosts.{AreTaken, Books, Enters}
use Rattle.cc_host.specs.Booking.{IsInRow, link_at, serial_of}
use Rattle.cc_host.specs.Places.{places}
use Rattle.cc_host.specs.declared.book.Place.{Place}
use Rattle.cc_host.specs.declared.book.Place.TheVariants.{Taken}
use Rattle.cc_host.proofs.Booked.{books, enters-written}
use Rattle.cc_host.proofs.InRow.{all-taken, link-there, row-made, row-taken}
use Rattle.cc_host.proofs.book.Book.enter.Goals as goal

pub returns-in-Some-link-clause-entered : goal.returns-in-Some-link-clause-entered
returns-in-Some-link-clause-entered c =
    let b = c.self.inside in
    let serial = c.in-Some.serial in
    let free : link_at b.roots.items b.next ≡ Some c.in-Some-link.next = grind arith in
    subst (λ (old : Books). Enters old (books b.given (slice_set b.roots.items b.next (Taken serial)) serial) b.next (Some serial)) c.self.view_is
    (enters-written b.given b.roots.items b.last serial b.next (Taken serial) (link-there b.roots.items b.next c.in-Some-link.next free))

pub invariant_of-self : goal.invariant_of-self
invariant_of-self c =
    let b = c.self.inside in
    let free : link_at b.roots.items b.next ≡ Some c.in-Some-link.next = grind arith in
    row-taken b.roots.items b.next c.in-Some-link.next c.in-Some.serial c.self.invariant (link-there b.roots.items b.next c.in-Some-link.next free) free

-- where the next place is not free each is taken
pub returns-then-index-ge-PLACES-clause-full : goal.returns-then-index-ge-PLACES-clause-full
returns-then-index-ge-PLACES-clause-full c full =
    let b = c.self.inside in
    let none : link_at b.roots.items b.next ≡ None = grind arith in
    inl (subst (λ (old : Books). AreTaken old places) c.self.view_is
    (λ i below. all-taken b.roots.items b.next c.self.invariant none i (omega (arith, below, c.if-index-ge-PLACES.true, c.in-Ok.ensures, c.len.ensures))))

pub invariant_of-self-2 : goal.invariant_of-self-2
invariant_of-self-2 c =
    let b = c.self.inside in
    subst (λ (ps : List Place). IsInRow ps b.next) items
    (row-made b.roots.items b.next c.in-Some.serial c.self.invariant (omega (arith, c.if-index-ge-PLACES.false, c.in-Ok.ensures, c.len.ensures)))
  where
    items : c.self.inside.roots.items ++ Taken c.in-Some.serial ∷ [] ≡ c.push.new.self.items
    items = grind arith

pub returns-clause-place : goal.returns-clause-place
returns-clause-place c =
    let b = c.self.inside in
    let none : link_at b.roots.items b.next ≡ None = grind arith in
    subst (λ (old : Books). (c.in-Ok.index < length old.roots) ⊎ ((c.in-Ok.index ≡ length old.roots) × AreTaken old (length old.roots))) c.self.view_is
    (inr (
      omega (arith, c.in-Ok.ensures, c.len.ensures, length-map b.roots.items serial_of),
      λ i there. all-taken b.roots.items b.next c.self.invariant none i (omega (arith, there, length-map b.roots.items serial_of)),
    ))

use Rattle.std.proofs.Common.{None, ◌∙◌, ap, is_some, slice_set, subst, sym}
use Rattle.cc_host.specs.Hosts.{Books, Enters, serial_at}
use Rattle.cc_host.specs.declared.book.Place.TheVariants.{Free}
use Rattle.cc_host.proofs.Booked.{books, enters-written, in-use-there}
use Rattle.cc_host.proofs.InRow.{row-freed, used-taken}
use Rattle.cc_host.proofs.book.Book.leave.Goals as goal

pub returns-then-is_some-clause-left : goal.returns-then-is_some-clause-left
returns-then-is_some-clause-left c =
    let b = c.self.inside in
    let i = c.args.index in
    let there = in-use-there b.roots.items i (c.if-is_some.ensures ∙ ap is_some (c.serial.ensures ∙ sym (ap (λ (x : Books). serial_at x i) c.self.view_is))) in
    subst (λ (old : Books). Enters old (books b.given (slice_set b.roots.items i (Free b.next)) b.last) i None) c.self.view_is
    (enters-written b.given b.roots.items b.last b.last i (Free b.next) there)

-- where a root is in use the place is not free
pub invariant_of-self : goal.invariant_of-self
invariant_of-self c =
    let b = c.self.inside in
    let i = c.args.index in
    let used = c.if-is_some.ensures ∙ ap is_some (c.serial.ensures ∙ sym (ap (λ (x : Books). serial_at x i) c.self.view_is)) in
    row-freed b.roots.items b.next i c.self.invariant (in-use-there b.roots.items i used) (used-taken b.roots.items i (sym used))

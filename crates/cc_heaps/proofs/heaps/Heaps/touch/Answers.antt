use Rattle.std.proofs.Common.{false}
use Rattle.cc_heaps.specs.Keyed.{the_number}
use Rattle.cc_heaps.specs.Fields.{keyed_of}
use Rattle.cc_heaps.proofs.Calls.{number-there, changed-keyed, changed-order, changed-linked, mark-changes}
use Rattle.cc_heaps.proofs.Ordered.{IsInOrder-marked}
use Rattle.cc_heaps.proofs.heaps.Heaps.touch.Goals as goal

pub invariant_of-self : goal.invariant_of-self
invariant_of-self c =
    changed-linked (mark-changes c.self.inside c.self.invariant (the_number (keyed_of c.self.inside) c.args.key.0) false c.touch.ensures.heap)

pub returns-clause-heap : goal.returns-clause-heap
returns-clause-heap c =
    rw (← c.self.view_is) (changed-keyed (mark-changes c.self.inside c.self.invariant (the_number (keyed_of c.self.inside) c.args.key.0) false c.touch.ensures.heap))

pub returns-clause-order : goal.returns-clause-order
returns-clause-order c owned =
    let p = c.self.inside in
    let k = the_number (keyed_of p) c.args.key.0 in
    let live = rw (← c.self.view_is) at c.requires.live in
    rw (← c.self.view_is)
    (λ o. changed-order (mark-changes p c.self.invariant k false c.touch.ensures.heap) (IsInOrder-marked owned (keyed_of p) false k (number-there owned (keyed_of p) c.args.key.0 o live) o))

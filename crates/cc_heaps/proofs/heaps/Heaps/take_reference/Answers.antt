use Rattle.std.proofs.Common.{arith}
use Rattle.cc_heaps.specs.Keyed.{the_number}
use Rattle.cc_heaps.specs.Fields.{keyed_of}
use Rattle.cc_heaps.proofs.Calls.{number-there, count-fits, changed-keyed, changed-order, changed-linked, root-changes}
use Rattle.cc_heaps.proofs.Ordered.{IsInOrder-add_ref}
use Rattle.cc_heaps.proofs.Owned.{callers-own}
use Rattle.cc_heaps.proofs.heaps.Heaps.take_reference.Goals as goal

pub root-requires-clause-below : goal.root-requires-clause-below
root-requires-clause-below c =
    let p = c.self.inside in
    let f = rw (← c.self.view_is) at c.requires.owned in
    omega (arith, count-fits f.0 p (the_number (keyed_of p) c.args.key.0) f.1, f.2)

pub root-requires-clause-owned : goal.root-requires-clause-owned
root-requires-clause-owned c =
    let f = rw (← c.self.view_is) at c.requires.owned in
    callers-own f.0 c.self.inside (record { order = f.1; linked = c.self.invariant })

pub invariant_of-self : goal.invariant_of-self
invariant_of-self c = changed-linked (root-changes c.self.inside c.self.invariant (the_number (keyed_of c.self.inside) c.args.key.0) c.root.ensures.heap)

pub returns-clause-heap : goal.returns-clause-heap
returns-clause-heap c =
    rw (← c.self.view_is) (changed-keyed (root-changes c.self.inside c.self.invariant (the_number (keyed_of c.self.inside) c.args.key.0) c.root.ensures.heap))

pub returns-clause-order : goal.returns-clause-order
returns-clause-order c owned =
    let p = c.self.inside in
    let k = the_number (keyed_of p) c.args.key.0 in
    let live = rw (← c.self.view_is) at c.requires.live in
    rw (← c.self.view_is)
    (λ o. changed-order (root-changes p c.self.invariant k c.root.ensures.heap) (IsInOrder-add_ref owned (keyed_of p) k (number-there owned (keyed_of p) c.args.key.0 o live) o))

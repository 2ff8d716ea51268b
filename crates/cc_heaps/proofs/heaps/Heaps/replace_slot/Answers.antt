use Rattle.std.proofs.Common.{◌≡◌, None, get_or, arith}
use Rattle.cc_model.specs.Heap.{native_at}
use Rattle.cc_model.specs.End.{slots_now}
use Rattle.cc_heaps.specs.Changes.{held_name}
use Rattle.cc_heaps.specs.Keyed.{the_number}
use Rattle.cc_heaps.specs.Fields.{heap_of, keyed_of}
use Rattle.cc_heaps.proofs.Content.{own-content}
use Rattle.cc_heaps.proofs.SlotsHeld.{read-named, read-there, slots-length, was-there, written-keyed, written-linked, written-order}
use Rattle.cc_heaps.proofs.heaps.Heaps.replace_slot.Goals as goal

pub set_slot-requires-clause-within : goal.set_slot-requires-clause-within
set_slot-requires-clause-within c =
    let p = c.self.inside in
    omega (arith, (rw (← c.self.view_is) at c.requires.within), slots-length p c.self.invariant (the_number (keyed_of p) c.args.key.0))

pub set_slot-requires-clause-owned : goal.set_slot-requires-clause-owned
set_slot-requires-clause-owned c =
    let f = rw (← c.self.view_is) at c.requires.order in
    own-content f.0 c.self.inside c.args.content (rw (← c.self.view_is) at c.requires.there) (record { order = f.1; linked = c.self.invariant })

pub returns-clause-heap : goal.returns-clause-heap
returns-clause-heap c =
    let p = c.self.inside in
    rw (← c.self.view_is) (written-keyed p c.self.invariant (the_number (keyed_of p) c.args.key.0) c.args.i c.args.content c.set_slot.result c.set_slot.new.self c.set_slot.ensures.slots (rw (← c.self.view_is) at c.requires.there))

-- what the slot held, by name
held : (c : goal.After-set_slot) → held_name (keyed_of c.self.inside) c.set_slot.result ≡
    get_or (slots_now (native_at (heap_of c.self.inside) (the_number (keyed_of c.self.inside) c.args.key.0))) c.args.i None
held c =
    let p = c.self.inside in
    read-named p c.self.invariant (the_number (keyed_of p) c.args.key.0) c.args.i c.set_slot.result c.set_slot.ensures.name

pub returns-clause-held : goal.returns-clause-held
returns-clause-held c = rw (← c.self.view_is) (held c)

pub returns-clause-there : goal.returns-clause-there
returns-clause-there c =
    let p = c.self.inside in
    let l = c.self.invariant in
    let k = the_number (keyed_of p) c.args.key.0 in
    was-there p l k c.args.i c.args.content c.set_slot.result c.set_slot.new.self c.set_slot.ensures.slots (rw (← c.self.view_is) at c.requires.there)
    (read-there p l k c.args.i c.set_slot.result c.set_slot.ensures.name c.set_slot.ensures.live)

pub returns-clause-order : goal.returns-clause-order
returns-clause-order c owned =
    let p = c.self.inside in
    rw (← c.self.view_is)
    (λ o. written-order p c.self.invariant (the_number (keyed_of p) c.args.key.0) c.args.i c.args.content c.set_slot.result c.set_slot.new.self c.set_slot.ensures.slots
    (rw (← c.self.view_is) at c.requires.there) owned (rw (← c.self.view_is) at c.requires.within) (held c) o)

pub invariant_of-self : goal.invariant_of-self
invariant_of-self c =
    let p = c.self.inside in
    written-linked p c.self.invariant (the_number (keyed_of p) c.args.key.0) c.args.i c.args.content c.set_slot.result c.set_slot.new.self c.set_slot.ensures.slots
    (rw (← c.self.view_is) at c.requires.there)

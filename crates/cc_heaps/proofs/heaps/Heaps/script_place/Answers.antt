use Rattle.std.proofs.Common.{◌≡◌, ◌+◌, ◌<◌, ◌∙◌, length, arith}
use Rattle.cc_script.specs.Objects.{slots_at}
use Rattle.cc_heaps.proofs.PlacesRead.{delegate-named, native-named, script_places-length, slot-named, slot-there}
use Rattle.cc_heaps.proofs.heaps.Heaps.script_place.Goals as goal

-- A slot

pub returns-then-i-slots-clause-name : goal.returns-then-i-slots-clause-name
returns-then-i-slots-clause-name c =
    let f = rw (← c.self.view_is) at c.requires.order in
    let live = rw (← c.self.view_is) at c.requires.there in
    let within : c.args.i < length (slots_at c.self.inside.scripts c.args.key.0) = omega (arith, c.if-i-slots.true, c.slots-slots.ensures) in
    rw (← c.self.view_is, c.held_script.ensures)
    (slot-named c.self.inside f.0 c.self.invariant f.1 c.args.key live c.args.i c.slot.result within c.slot.ensures)

pub returns-then-i-slots-clause-there : goal.returns-then-i-slots-clause-there
returns-then-i-slots-clause-there c =
    let f = rw (← c.self.view_is) at c.requires.order in
    let live = rw (← c.self.view_is) at c.requires.there in
    rw (← c.self.view_is, c.held_script.ensures) (slot-there c.self.inside f.0 c.self.invariant f.1 c.args.key live c.args.i c.slot.result c.slot.ensures)

-- The delegate

pub returns-then-i-slots-2-clause-name : goal.returns-then-i-slots-2-clause-name
returns-then-i-slots-2-clause-name c =
    let f = rw (← c.self.view_is) at c.requires.order in
    let live = rw (← c.self.view_is) at c.requires.there in
    rw (← c.self.view_is, c.held_script-then-i-slots-2.ensures, c.if-i-slots-2.true ∙ c.slots-slots.ensures)
    (delegate-named c.self.inside f.0 c.self.invariant f.1 c.args.key live c.delegate.result c.delegate.ensures.delegate).0

pub returns-then-i-slots-2-clause-there : goal.returns-then-i-slots-2-clause-there
returns-then-i-slots-2-clause-there c =
    let f = rw (← c.self.view_is) at c.requires.order in
    let live = rw (← c.self.view_is) at c.requires.there in
    rw (← c.self.view_is, c.held_script-then-i-slots-2.ensures)
    (delegate-named c.self.inside f.0 c.self.invariant f.1 c.args.key live c.delegate.result c.delegate.ensures.delegate).1

-- The native

pub returns-clause-name : goal.returns-clause-name
returns-clause-name c =
    let f = rw (← c.self.view_is) at c.requires.order in
    let live = rw (← c.self.view_is) at c.requires.there in
    let last : c.args.i ≡ length (slots_at c.self.inside.scripts c.args.key.0) + 1 = omega (
      arith,
      rw (← c.self.view_is) at c.requires.within,
      script_places-length c.self.inside f.0 c.self.invariant f.1 c.args.key live,
      c.if-i-slots.false,
      c.if-i-slots-2.false,
      c.slots-slots.ensures,
    ) in
    rw (← c.self.view_is, c.of_native.ensures, last)
    (native-named c.self.inside f.0 c.self.invariant f.1 c.args.key live c.native_of.result c.native_of.ensures.native).0

pub returns-clause-there : goal.returns-clause-there
returns-clause-there c =
    let f = rw (← c.self.view_is) at c.requires.order in
    let live = rw (← c.self.view_is) at c.requires.there in
    rw (← c.self.view_is, c.of_native.ensures)
    (native-named c.self.inside f.0 c.self.invariant f.1 c.args.key live c.native_of.result c.native_of.ensures.native).1

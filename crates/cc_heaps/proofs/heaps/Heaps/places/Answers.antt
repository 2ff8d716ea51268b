use Rattle.std.proofs.Common.{◌+◌, length, sym, ◌∙◌, ap, arith}
use Rattle.cc_heaps.proofs.PlacesRead.{native-live, script-live, places-same, native_places-length, native_slots-few, script_places-length, script_slots-few}
use Rattle.cc_heaps.proofs.heaps.Heaps.places.Goals as goal

pub overflow_add-result : goal.overflow_add-result
overflow_add-result c =
    let f = rw (← c.self.view_is) at c.requires.order in
    let live = native-live c.self.view_is c.in-Native.is c.requires.there in
    omega (arith, c.slots.ensures, native_slots-few c.self.inside f.0 c.self.invariant f.1 c.in-Native.key live)

pub overflow_add-result-in-Script : goal.overflow_add-result-in-Script
overflow_add-result-in-Script c =
    let f = rw (← c.self.view_is) at c.requires.order in
    let live = script-live c.self.view_is c.in-Script.is c.requires.there in
    omega (arith, c.slots-in-Script.ensures, script_slots-few c.self.inside f.0 c.self.invariant f.1 c.in-Script.key live)

pub returns-in-Native : goal.returns-in-Native
returns-in-Native c =
    let f = rw (← c.self.view_is) at c.requires.order in
    let live = native-live c.self.view_is c.in-Native.is c.requires.there in
    ap (λ i. i + 1) c.slots.ensures
    ∙ sym (ap length (places-same c.self.view_is c.in-Native.is) ∙ native_places-length c.self.inside f.0 c.self.invariant f.1 c.in-Native.key live)

pub returns-in-Script : goal.returns-in-Script
returns-in-Script c =
    let f = rw (← c.self.view_is) at c.requires.order in
    let live = script-live c.self.view_is c.in-Script.is c.requires.there in
    ap (λ i. i + 2) c.slots-in-Script.ensures
    ∙ sym (ap length (places-same c.self.view_is c.in-Script.is) ∙ script_places-length c.self.inside f.0 c.self.invariant f.1 c.in-Script.key live)

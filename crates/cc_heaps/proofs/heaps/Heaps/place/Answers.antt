use Rattle.std.proofs.Common.{None, length, get_or, sym, ◌∙◌, ap, arith}
use Rattle.cc_heaps.specs.Changes.{held_name}
use Rattle.cc_heaps.proofs.PlacesRead.{native-live, places-same, native_places-length, reference-named, reference-there}
use Rattle.cc_heaps.proofs.heaps.Heaps.place.Goals as goal

pub reference-requires-clause-within : goal.reference-requires-clause-within
reference-requires-clause-within c =
    let f = rw (← c.self.view_is) at c.requires.order in
    let live = native-live c.self.view_is c.in-Native.is c.requires.there in
    omega (
      arith,
      c.requires.within,
      ap length (places-same c.self.view_is c.in-Native.is),
      native_places-length c.self.inside f.0 c.self.invariant f.1 c.in-Native.key live,
    )

pub returns-in-Native-clause-name : goal.returns-in-Native-clause-name
returns-in-Native-clause-name c =
    let f = rw (← c.self.view_is) at c.requires.order in
    let live = native-live c.self.view_is c.in-Native.is c.requires.there in
    ap (λ v. held_name v c.reference.result) (sym c.self.view_is)
    ∙ (reference-named c.self.inside f.0 c.self.invariant f.1 c.in-Native.key live c.args.i c.reference.result c.reference.ensures.name
    ∙ ap (λ places. get_or places c.args.i None) (sym (places-same c.self.view_is c.in-Native.is)))

pub returns-in-Native-clause-there : goal.returns-in-Native-clause-there
returns-in-Native-clause-there c =
    let f = rw (← c.self.view_is) at c.requires.order in
    let live = native-live c.self.view_is c.in-Native.is c.requires.there in
    rw (← c.self.view_is)
    (reference-there c.self.inside f.0 c.self.invariant f.1 c.in-Native.key live c.args.i c.reference.result c.reference.ensures.name c.reference.ensures.live)

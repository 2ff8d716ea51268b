use Rattle.std.proofs.Common.{Some, sym, ◌∙◌, ap, subst}
use Rattle.cc_weakmaps.specs.Index as keyed
use Rattle.cc_heaps.specs.Changes.{held_name}
use Rattle.cc_search.proofs.Given.{some-of}
use Rattle.cc_paths.proofs.Named.{native-named, script-named}
use Rattle.cc_paths.proofs.Members.{below-by_name, native-below, place-by_name}
use Rattle.cc_paths.proofs.heap_leads.HeapLeadsLeads.next_with.Goals as goal

pub next_with-requires : goal.next_with-requires
next_with-requires c =
    let v = c.args.self.now.heaps.now in
    let key = c.in-Script.key in
    let order = c.requires.ready in
    let x = some-of (held_name v (Some c.args.object)) c.requires.there in
    subst (λ es. keyed.IsPlaceOf es key.0 c.args.place) (sym c.weak.ensures)
    (place-by_name v order.0 order.1 key.0 x.0 (script-named v c.args.object key x.0 c.in-Script.is x.1) c.args.place (c.requires.place x.0 x.1))

pub returns-in-Script : goal.returns-in-Script
returns-in-Script c = λ x named.
    let v = c.args.self.now.heaps.now in
    let key = c.in-Script.key in
    let order = c.requires.ready in
    c.next_with.ensures.place
    ∙ (ap (λ es. keyed.place_below es key.0 c.args.place) c.weak.ensures
    ∙ below-by_name v order.0 order.1 key.0 x (script-named v c.args.object key x c.in-Script.is named) c.args.place)

pub returns-in-Native : goal.returns-in-Native
returns-in-Native c = λ x named.
    let v = c.args.self.now.heaps.now in
    sym (native-below v.heap c.requires.ready.1.sound.well_formed x (native-named v c.args.object c.in-Native.field-0 x c.in-Native.is named) c.args.place)

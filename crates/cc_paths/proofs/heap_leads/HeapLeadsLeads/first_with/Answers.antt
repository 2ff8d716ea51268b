use Rattle.std.proofs.Common.{length, sym, ◌∙◌, ap}
use Rattle.cc_weakmaps.specs.Index as keyed
use Rattle.cc_search.specs.Members.{place_below}
use Rattle.cc_paths.proofs.Named.{native-named, script-named}
use Rattle.cc_paths.proofs.Members.{below-by_name, entries-length, native-below}
use Rattle.cc_paths.proofs.heap_leads.HeapLeadsLeads.first_with.Goals as goal

pub returns-in-Script : goal.returns-in-Script
returns-in-Script c = λ x named.
    let v = c.args.self.now.heaps.now in
    let key = c.in-Script.key in
    let order = c.requires.ready in
    c.first_with.ensures.place
    ∙ (ap (λ es. keyed.place_below es key.0 (length es)) c.weak.ensures
    ∙ (below-by_name v order.0 order.1 key.0 x (script-named v c.args.object key x c.in-Script.is named) (length v.entries)
    ∙ ap (place_below v.heap.entries x) (entries-length v order.0 order.1)))

pub returns-in-Native : goal.returns-in-Native
returns-in-Native c = λ x named.
    let v = c.args.self.now.heaps.now in
    sym (native-below v.heap c.requires.ready.1.sound.well_formed x (native-named v c.args.object c.in-Native.field-0 x c.in-Native.is named) (length v.heap.entries))

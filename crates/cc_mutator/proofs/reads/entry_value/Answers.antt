use Rattle.std.proofs.Common.{List, ◌∙◌, ap}
use Rattle.cc_model.specs.Checks.{value_at}
use Rattle.cc_model.specs.Heap.{objects_of}
use Rattle.cc_weakmaps.specs.Entries.{KeyedEntry, value_in}
use Rattle.cc_heaps.proofs.EntryNames.{value-read}
use Rattle.cc_mutator.proofs.reads.entry_value.Goals as goal

pub returns-clause-name : goal.returns-clause-name
returns-clause-name c =
    let v = c.args.heaps.now in
    let m = c.in_ok-the_map in
    let k = c.in_ok-key in
    (value-read c.requires.0 v c.requires.1 m.the_map.0 k.key.0 m.ensures.there k.ensures.there c.get.result
    (c.get.ensures ∙ ap (λ (es : List KeyedEntry). value_in es m.the_map.0 k.key.0) c.weak.ensures)).0
    ∙ (λ i. value_at (objects_of v.heap) (m.ensures.name i) (k.ensures.name i))

pub returns-clause-there : goal.returns-clause-there
returns-clause-there c =
    let m = c.in_ok-the_map in
    let k = c.in_ok-key in
    (value-read c.requires.0 c.args.heaps.now c.requires.1 m.the_map.0 k.key.0 m.ensures.there k.ensures.there c.get.result
    (c.get.ensures ∙ ap (λ (es : List KeyedEntry). value_in es m.the_map.0 k.key.0) c.weak.ensures)).1

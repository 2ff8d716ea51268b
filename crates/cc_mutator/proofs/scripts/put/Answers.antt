use Rattle.std.proofs.Common.{false, refl, ◌∙◌, ap, option_map}
use Rattle.cc_names.specs.declared.register.Reg.TheVariants.{S}
use Rattle.cc_model.specs.declared.item.Refusal.TheVariants.{NoMemory}
use Rattle.cc_model.specs.Effects.{done_in, put_in_script}
use Rattle.cc_model.specs.Heap.{register, source}
use Rattle.cc_laws_heap.proofs.Face.{AreColoured-from_view}
use Rattle.cc_mutator.proofs.Carrying.{silently-unexposed, done-not_refused}
use Rattle.cc_mutator.proofs.ScriptsRead.{source-black}
use Rattle.cc_mutator.proofs.scripts.put.Goals as goal

pub store_script-requires-clause-black : goal.store_script-requires-clause-black
store_script-requires-clause-black c =
    let v = c.args.heaps.now in
    source-black c.requires.order.0 v c.requires.order.1 (AreColoured-from_view v.heap c.requires.order.1.sound.well_formed c.requires.colours) c.args.from c.script_source-content.result
    c.script_source-content.ensures.name c.script_source-content.ensures.there

pub returns : goal.returns
unfolding done_in
returns c = λ t.
    let h = c.args.heaps.now.heap in
    let e = c.store_script.ensures in
    let to = register h (S c.args.d) in
    silently-unexposed _ _ _ _ _ t false (put_in_script h to c.args.i (source h (option_map S c.args.from))) refl refl (done-not_refused NoMemory)
    (e.heap ∙ ap (put_in_script h to c.args.i) c.script_source-content.ensures.name) e.keys e.order e.marks refl e.marking

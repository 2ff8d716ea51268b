use Rattle.std.proofs.Common.{refl, ◌∙◌, ap, option_map}
use Rattle.cc_names.specs.declared.register.Reg.TheVariants.{S}
use Rattle.cc_model.specs.declared.item.Refusal.TheVariants.{NoMemory}
use Rattle.cc_model.specs.Effects.{done_in, set_entry}
use Rattle.cc_model.specs.Heap.{register, source}
use Rattle.cc_mutator.proofs.Carrying.{silently-unexposed, done-not_refused}
use Rattle.cc_mutator.proofs.scripts.set_entry.Goals as goal

pub returns-in-Ok : goal.returns-in-Ok
unfolding done_in
returns-in-Ok c = λ t.
    let h = c.args.heaps.now.heap in
    let e = c.in-Ok.ensures in
    silently-unexposed _ _ _ _ _ t _ (set_entry h (register h (S c.args.m)) (register h (S c.args.k)) (source h (option_map S c.args.from))) refl refl (done-not_refused NoMemory)
    (e.heap ∙ ap (set_entry h (register h (S c.args.m)) (register h (S c.args.k))) c.script_source-value.ensures.name) e.keys e.order e.marks refl e.marking

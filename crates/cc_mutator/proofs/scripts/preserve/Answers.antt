use Rattle.std.proofs.Common.{false, refl, ◌∙◌, ap}
use Rattle.cc_names.specs.declared.register.Reg.TheVariants.{S}
use Rattle.cc_model.specs.declared.item.Refusal.TheVariants.{NoMemory}
use Rattle.cc_model.specs.Effects.{done_in}
use Rattle.cc_model.specs.Heap.{preserve, register}
use Rattle.cc_heaps.specs.Keyed.{Keyed}
use Rattle.cc_heaps.proofs.MarksKept.{marks-stay-changed}
use Rattle.cc_mutator.proofs.Carrying.{silently-unexposed, done-not_refused}
use Rattle.cc_mutator.proofs.scripts.preserve.Goals as goal

pub returns : goal.returns
unfolding done_in
returns c = λ t.
    let h = c.args.heaps.now.heap in
    let e = c.preserve.ensures in
    silently-unexposed _ _ _ _ _ t false (preserve h (register h (S c.args.s))) refl refl (done-not_refused NoMemory)
    (ap (λ (w : Keyed). w.heap) e.heap ∙ ap (preserve h) c.in-Some.ensures.name) e.kept.keys e.kept.order e.kept.marks
    refl (marks-stay-changed c.args.heaps.now _ _ e.heap).by_names

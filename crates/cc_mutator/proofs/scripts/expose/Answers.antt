use Rattle.std.proofs.Common.{false, option_map, refl, ◌∙◌, ap}
use Rattle.cc_names.specs.declared.register.Reg.TheVariants.{N}
use Rattle.cc_model.specs.declared.item.Refusal.TheVariants.{NoMemory}
use Rattle.cc_model.specs.Checks.{named_or_nothing, slot_at}
use Rattle.cc_model.specs.Effects.{done_in}
use Rattle.cc_model.specs.Exposure.{exposed}
use Rattle.cc_model.specs.Heap.{objects_of}
use Rattle.cc_model.specs.Marking.{exposed_marks}
use Rattle.cc_heaps.specs.NewMarks.{marks_of}
use Rattle.cc_mutator.proofs.Carrying.{answered-silently, named-not_refused}
use Rattle.cc_mutator.proofs.ContentNames.{as_script-named, is_native_held-named}
use Rattle.cc_mutator.proofs.scripts.expose.Goals as goal

pub as_script-content-requires : goal.as_script-content-requires
as_script-content-requires c =
    let e = c.native_content.ensures in
    is_native_held-named c.requires.order.0 c.args.heaps.now c.requires.order.1 _ _ e.name e.there ∙ c.requires.content

pub returns : goal.returns
unfolding done_in
returns c = λ t.
    let v = c.args.heaps.now in
    let e = c.touch.ensures in
    let name = as_script-named v _ _ _ c.as_script-content.ensures c.native_content.ensures.name in
    answered-silently _ _ _ _ _ t false (exposed v.heap (slot_at (objects_of v.heap) (N c.args.s) c.args.i)) refl (c.naming_script-reply.ensures ∙ ap named_or_nothing name)
    (named-not_refused _ NoMemory) (e.heap ∙ ap (exposed v.heap) name) e.keys e.order e.marks
    (λ listed held. e.marking ∙ ap (λ x. option_map (exposed_marks v.heap x) (marks_of v)) name)

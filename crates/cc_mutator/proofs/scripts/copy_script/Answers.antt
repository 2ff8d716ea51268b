use Rattle.std.proofs.Common.{◌≡◌, false, option_map, refl, ◌∙◌, ap, subst, sym, arith}
use Rattle.cc_names.specs.declared.register.Reg.TheVariants.{S}
use Rattle.cc_model.specs.declared.item.Refusal.TheVariants.{NoMemory}
use Rattle.cc_model.specs.Checks.{named_or_nothing}
use Rattle.cc_model.specs.Effects.{done_in}
use Rattle.cc_model.specs.Exposure.{exposed}
use Rattle.cc_model.specs.Heap.{Heap, register, set_register}
use Rattle.cc_model.specs.Marking.{exposed_marks}
use Rattle.cc_heaps.specs.Changes.{script_name}
use Rattle.cc_heaps.specs.NewMarks.{marks_of}
use Rattle.cc_laws_heap.proofs.Face.{AreColoured-from_view}
use Rattle.cc_mutator.proofs.Carrying.{answered-silently, named-not_refused}
use Rattle.cc_mutator.proofs.Exposing.{exposed-same, register-black, register-marked}
use Rattle.cc_mutator.proofs.scripts.copy_script.Goals as goal

pub set_script_reg-requires-clause-within : goal.set_script_reg-requires-clause-within
set_script_reg-requires-clause-within c = omega (arith, c.requires.within, c.requires.order.1.sound.well_formed.registers.1.enough)

pub returns : goal.returns
unfolding done_in
returns c = λ t.
    let v = c.args.heaps.now in
    let e = c.set_script_reg.ensures in
    let x = script_name v c.script_reg-content.result in
    let name = c.script_reg-content.ensures.name in
    let colours = AreColoured-from_view v.heap c.requires.order.1.sound.well_formed c.requires.colours in
    let same : exposed v.heap x ≡ v.heap = subst (λ y. exposed v.heap y ≡ v.heap) (sym name)
    (exposed-same v.heap colours (register v.heap (S c.args.s)) (register-black v.heap colours c.args.s)) in
    answered-silently _ _ _ _ _ t false (set_register v.heap (S c.args.d) (register v.heap (S c.args.s))) refl (c.naming_script-reply.ensures ∙ ap named_or_nothing name)
    (named-not_refused _ NoMemory) (e.heap ∙ (ap (λ (h : Heap). set_register h (S c.args.d) x) same ∙ ap (set_register v.heap (S c.args.d)) name)) e.kept.keys e.kept.order e.kept.marks
    (λ listed held. e.marking ∙ (ap (λ y. option_map (exposed_marks v.heap y) (marks_of v)) name ∙ register-marked v c.args.s held))

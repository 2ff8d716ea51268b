use Rattle.std.proofs.Common.{◌≡◌, List, Some, not, option_map, refl, sym, ◌∙◌, ap, arith}
use Rattle.cc_names.specs.declared.register.Reg.TheVariants.{N, S}
use Rattle.cc_names.specs.Names.{reflector}
use Rattle.cc_model.specs.declared.item.Refusal.TheVariants.{NoMemory}
use Rattle.cc_model.specs.declared.item.Reply.TheVariants.{Named}
use Rattle.cc_model.specs.Checks.{named_or_nothing, reflector_of}
use Rattle.cc_model.specs.Effects.{done_in, lacks_reflector, wrapped}
use Rattle.cc_model.specs.Exposure.{exposed}
use Rattle.cc_model.specs.Heap.{Heap, register, set_register}
use Rattle.cc_model.specs.Marking.{exposed_marks}
use Rattle.cc_model.specs.WellFormed.{native_names, script_names}
use Rattle.cc_laws_heap.proofs.Face.{AreColoured-from_view}
use Rattle.cc_script.specs.Objects.{Object, name_at}
use Rattle.cc_heaps.specs.Keyed.{the_number}
use Rattle.cc_heaps.specs.NewMarks.{marks_of}
use Rattle.cc_heaps.proofs.MarksKept.{marks-then}
use Rattle.cc_wrappers.proofs.Marked.{exposed-again}
use Rattle.cc_mutator.proofs.Carrying.{answered-denied, answered-silently, named-not_refused}
use Rattle.cc_mutator.proofs.Exposing.{exposed-same}
use Rattle.cc_mutator.proofs.NativesRead.{held-number}
use Rattle.cc_mutator.proofs.Reflecting.{KeepsKeys-then}
use Rattle.cc_mutator.proofs.ScriptsRead.{key-black}
use Rattle.cc_mutator.proofs.making.wrap.Goals as goal

pub set_script_reg-requires-clause-within : goal.set_script_reg-requires-clause-within
set_script_reg-requires-clause-within c = let f = c.requires.order in omega (arith, c.requires.within, (c.wrap.ensures.kept.order f.0 f.1).sound.well_formed.registers.1.enough)

pub set_script_reg-requires-clause-order : goal.set_script_reg-requires-clause-order
set_script_reg-requires-clause-order c = let f = c.requires.order in (f.0, c.wrap.ensures.kept.order f.0 f.1)

pub returns-in-Ok : goal.returns-in-Ok
unfolding done_in
returns-in-Ok c = λ t.
    let v = c.args.heaps.now in
    let w = c.wrap.new.heaps in
    let e = c.in-Ok.ensures in
    let after = c.wrap.ensures.kept.order c.requires.order.0 c.requires.order.1 in
    let k = the_number v c.in-Some.key.0 in
    let held = held-number c.requires.order.0 v c.requires.order.1 c.args.s c.in-Some.key c.in-Some.ensures.name c.in-Some.ensures.there in
    let x = name_at w.scripts c.in-Ok.made.0 in
    let same : exposed w.heap x ≡ w.heap =
    exposed-same w.heap (AreColoured-from_view w.heap after.sound.well_formed (e.kept.colours c.requires.colours)) x (key-black c.requires.order.0 w after c.in-Ok.made e.there e.black) in
    let named : Some c.name.result ≡ Some (reflector k) = sym c.name.ensures ∙ (ap (λ (os : List Object). name_at os c.in-Ok.made.0) c.scripts.ensures ∙ e.name) in
    let is : c.name.result ≡ reflector k = cc in
    let left : c.set_script_reg.new.self.heap ≡ set_register w.heap (S c.args.d) (Some (reflector k)) =
    c.set_script_reg.ensures.heap ∙ (ap (λ (g : Heap). set_register g (S c.args.d) x) same ∙ ap (set_register w.heap (S c.args.d)) e.name) in
    answered-silently _ _ _ _ _ t _ (set_register (wrapped v.heap (register v.heap (N c.args.s))) (S c.args.d) (reflector_of (register v.heap (N c.args.s)))) refl
    (ap (λ y. Named y) is ∙ ap (λ y. named_or_nothing (reflector_of y)) (sym held)) (named-not_refused _ NoMemory)
    (left ∙ (ap (λ (g : Heap). set_register g (S c.args.d) (Some (reflector k))) e.heap ∙ ap (λ y. set_register (wrapped v.heap y) (S c.args.d) (reflector_of y)) (sym held)))
    (KeepsKeys-then v w c.set_script_reg.new.self e.kept.keys c.set_script_reg.ensures.kept.keys (ap native_names left) (ap script_names left)) (λ owned o. c.set_script_reg.ensures.kept.order owned (c.wrap.ensures.kept.order owned o))
    (marks-then e.kept.marks c.set_script_reg.ensures.kept.marks)
    (λ listed marked. c.set_script_reg.ensures.marking
    ∙ ((λ i. option_map (exposed_marks w.heap (e.name i)) (e.marking listed i))
    ∙ (exposed-again v.heap w.heap (reflector k) (marks_of v) ∙ ap (λ y. option_map (exposed_marks v.heap (reflector_of y)) (marks_of v)) (sym held))))

pub returns-in-Err : goal.returns-in-Err
returns-in-Err c = λ t.
    let v = c.args.heaps.now in
    let e = c.in-Err.ensures in
    let held = held-number c.requires.order.0 v c.requires.order.1 c.args.s c.in-Some.key c.in-Some.ensures.name c.in-Some.ensures.there in
    answered-denied _ _ _ _ _ t t _ (ap (lacks_reflector v.heap) held ∙ ap not e.lacks) refl e.same refl

use Rattle.std.proofs.Common.{true, Some, refl, ◌∙◌, ap, arith}
use Rattle.cc_names.specs.declared.register.Reg.TheVariants.{S}
use Rattle.cc_model.specs.declared.item.Refusal.TheVariants.{NoMemory}
use Rattle.cc_model.specs.declared.item.Reply.TheVariants.{Named}
use Rattle.cc_model.specs.Effects.{done_in, make_proxy}
use Rattle.cc_model.specs.Heap.{register}
use Rattle.cc_laws_heap.proofs.Face.{AreColoured-from_view}
use Rattle.cc_mutator.proofs.ScriptsRead.{source-black}
use Rattle.cc_mutator.proofs.Carrying.{answered-denied, silently-unexposed, name-not_refused}
use Rattle.cc_mutator.proofs.making.make_proxy.Goals as goal

pub new_proxy-requires-clause-within : goal.new_proxy-requires-clause-within
new_proxy-requires-clause-within c = omega (arith, c.requires.within, c.requires.order.1.sound.well_formed.registers.1.enough)

pub new_proxy-requires-clause-black : goal.new_proxy-requires-clause-black
new_proxy-requires-clause-black c =
    let v = c.args.heaps.now in
    source-black c.requires.order.0 v c.requires.order.1 (AreColoured-from_view v.heap c.requires.order.1.sound.well_formed c.requires.colours) (Some c.args.s)
    (Some c.in-Some.delegate) c.in-Some.ensures.name c.in-Some.ensures.there

pub returns-in-Ok : goal.returns-in-Ok
unfolding done_in
returns-in-Ok c = λ t.
    let e = c.in-Ok.ensures in
    silently-unexposed _ _ _ _ _ t true (make_proxy c.args.heaps.now.heap c.args.d (register c.args.heaps.now.heap (S c.args.s))) refl (ap (λ x. Named x) e.name) (name-not_refused _ NoMemory) (e.heap ∙ ap (make_proxy c.args.heaps.now.heap c.args.d) c.in-Some.ensures.name) e.kept.keys e.kept.order e.kept.marks refl e.marks.by_names

pub returns-in-Err-NoMemory : goal.returns-in-Err-NoMemory
returns-in-Err-NoMemory c = λ t. let e = c.in-Err-NoMemory.ensures in answered-denied _ _ _ _ _ _ _ true refl refl e.same refl

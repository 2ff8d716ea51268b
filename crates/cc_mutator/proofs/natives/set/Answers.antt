use Rattle.std.proofs.Common.{◌<◌, refl, sym, ◌∙◌, ap, subst, arith}
use Rattle.cc_model.specs.declared.item.Refusal.TheVariants.{NoMemory}
use Rattle.cc_model.specs.Effects.{done_in, store_native}
use Rattle.cc_heaps.specs.Changes.{held_name, stored_in}
use Rattle.cc_heaps.specs.Keyed.{the_number}
use Rattle.cc_mutator.proofs.Carrying.{answered-left, done-not_refused}
use Rattle.cc_mutator.proofs.NativesRead.{held-number, slots-as_many, slots-few}
use Rattle.cc_mutator.proofs.Storing.{stored-store}
use Rattle.cc_mutator.proofs.natives.set.Goals as goal

pub overflow_cast-i : goal.overflow_cast-i
overflow_cast-i g c =
    omega (arith, slots-few c.requires.order.0 c.args.heaps.now c.requires.order.1 c.args.d c.in-Some.key c.in-Some.ensures.name c.in-Some.ensures.there, c.requires.slot)

pub store_native-requires-clause-within : goal.store_native-requires-clause-within
store_native-requires-clause-within g c =
    subst (λ n. c.args.i < n) (sym (slots-as_many c.requires.order.0 c.args.heaps.now c.requires.order.1 c.args.d c.in-Some.key c.in-Some.ensures.name c.in-Some.ensures.there)) c.requires.slot

pub returns : goal.returns
unfolding done_in
returns g c =
    let v = c.args.heaps.now in
    let e = c.store_native.ensures in
    let x = held_name v c.source_content-content.result in
    let held = held-number c.requires.order.0 v c.requires.order.1 c.args.d c.in-Some.key c.in-Some.ensures.name c.in-Some.ensures.there in
    answered-left _ _ _ _ _ _ _ (stored_in v.heap (the_number v c.in-Some.key.0) c.args.i x)
    (ap (store_native v.heap c.args.d c.args.i) (sym c.source_content-content.ensures.name) ∙ sym (stored-store v.heap c.args.d _ c.args.i x held)) refl (done-not_refused NoMemory) e.heap e.told
    e.kept.order refl

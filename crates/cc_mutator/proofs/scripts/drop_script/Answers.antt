use Rattle.std.proofs.Common.{false, None, refl, ◌∙◌, ap, arith}
use Rattle.cc_names.specs.declared.register.Reg.TheVariants.{S}
use Rattle.cc_model.specs.declared.item.Refusal.TheVariants.{NoMemory}
use Rattle.cc_model.specs.Effects.{done_in}
use Rattle.cc_model.specs.Heap.{Heap, set_register}
use Rattle.cc_mutator.proofs.Carrying.{answered-silently, done-not_refused, exposed-none}
use Rattle.cc_mutator.proofs.scripts.drop_script.Goals as goal

pub set_script_reg-requires-clause-within : goal.set_script_reg-requires-clause-within
set_script_reg-requires-clause-within c = omega (arith, c.requires.within, c.requires.order.1.sound.well_formed.registers.1.enough)

pub returns : goal.returns
unfolding done_in
returns c = λ t.
    let h = c.args.heaps.now.heap in
    let e = c.set_script_reg.ensures in
    answered-silently _ _ _ _ _ t false (set_register h (S c.args.d) None) refl refl (done-not_refused NoMemory)
    (e.heap ∙ ap (λ (k : Heap). set_register k (S c.args.d) None) (exposed-none h)) e.kept.keys e.kept.order e.kept.marks (λ listed held. e.marking)

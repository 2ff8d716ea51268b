use Rattle.std.proofs.Common.{false, refl, arith}
use Rattle.cc_model.specs.declared.item.Refusal.TheVariants.{NoMemory}
use Rattle.cc_model.specs.Effects.{done_in, hold_script}
use Rattle.cc_heaps.specs.Changes.{script_name}
use Rattle.cc_mutator.proofs.Carrying.{answered-silently, named-not_refused}
use Rattle.cc_mutator.proofs.scripts.hold.Goals as goal

pub set_script_reg-requires-clause-within : goal.set_script_reg-requires-clause-within
set_script_reg-requires-clause-within c = omega (arith, c.requires.within, c.requires.order.1.sound.well_formed.registers.1.enough)

pub returns : goal.returns
unfolding done_in
returns c = λ t.
    let v = c.args.heaps.now in
    let e = c.set_script_reg.ensures in
    answered-silently _ _ _ _ _ t false (hold_script v.heap c.args.d (script_name v c.args.content)) refl c.naming_script-reply.ensures (named-not_refused _ NoMemory) e.heap e.kept.keys e.kept.order e.kept.marks (λ listed held. e.marking)

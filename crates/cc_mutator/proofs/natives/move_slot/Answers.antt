use Rattle.std.proofs.Common.{◌∙◌, ap, false}
use Rattle.cc_model.specs.declared.item.Refusal.TheVariants.{NoMemory}
use Rattle.cc_model.specs.Checks.{named_or_nothing}
use Rattle.cc_model.specs.Effects.{done_in}
use Rattle.cc_mutator.proofs.Carrying.{answered-done, named-not_refused}
use Rattle.cc_mutator.proofs.natives.move_slot.Goals as goal

pub returns : goal.returns
unfolding done_in
returns g c =
    let e = c.hand_over.ensures in
    answered-done _ _ _ _ _ _ _ false (c.naming-reply.ensures ∙ ap named_or_nothing c.native_content-content.ensures.name) (named-not_refused _ NoMemory) e.heap e.told e.keys e.order e.marks (λ listed held. e.marking)

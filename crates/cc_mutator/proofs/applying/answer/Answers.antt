use Rattle.std.proofs.Common.{refl, sym, ◌∙◌}
use Rattle.cc_mutator.proofs.Carrying.{applied-refused, applied-taken}
use Rattle.cc_mutator.proofs.applying.answer.Goals as goal

pub returns-in-Some : goal.returns-in-Some
returns-in-Some g c = applied-refused _ _ _ _ _ _ _ _ c.requires.keys _ (sym c.refusal.ensures ∙ c.in-Some.is) refl refl refl refl

pub returns : goal.returns
returns g c = applied-taken _ _ _ _ _ _ _ _ c.take_up.ensures.keys (sym c.refusal.ensures ∙ c.in_default.is) c.take_up.ensures.taken c.take_up.ensures.noted c.take_up.ensures.same

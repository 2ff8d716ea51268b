use Rattle.std.proofs.Common.{refl}
use Rattle.cc_model.specs.Deeds.{deed_of}
use Rattle.cc_mutator.proofs.weak.empty_weak.Goals as goal

pub returns-in-W-clause-noted : goal.returns-in-W-clause-noted
unfolding deed_of
returns-in-W-clause-noted c = λ o. rw c.in-W.is c.clear.ensures.names

pub returns-in-N-clause-noted : goal.returns-in-N-clause-noted
unfolding deed_of
returns-in-N-clause-noted c = λ o. rw c.in-N.is refl

pub returns-in-S-clause-noted : goal.returns-in-S-clause-noted
unfolding deed_of
returns-in-S-clause-noted c = λ o. rw c.in-S.is refl

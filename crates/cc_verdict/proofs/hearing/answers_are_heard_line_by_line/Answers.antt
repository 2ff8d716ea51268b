use Rattle.std.proofs.Common.{refl}
use Rattle.cc_model.specs.Texts.{text_of_event, text_of_reply}
use Rattle.cc_verdict.specs.Hearing.{comes, ends}
use Rattle.cc_verdict.proofs.HeardLines.{hears-event, hears-reply}
use Rattle.cc_verdict.proofs.hearing.answers_are_heard_line_by_line.Goals as goal

pub returns-clause-event : goal.returns-clause-event
returns-clause-event c = λ h e asks lines small. (
  (λ s. hears-event asks s e lines small refl),
  (λ p. comes h e (text_of_event e) lines refl p.0 p.1),
)

pub returns-clause-reply : goal.returns-clause-reply
returns-clause-reply c = λ h r asks lines small. (
  (λ s. hears-reply asks s r lines small refl),
  (λ p. ends h r (text_of_reply r) lines refl p.0 p.1),
)

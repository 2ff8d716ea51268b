use Rattle.std.proofs.Common.{⊎_elim, inl, inr, ap, sym, ◌∙◌, subst}
use Rattle.std.proofs.lemmas.Bool.{true≢false}
use Rattle.cc_model.specs.declared.item.Refusal.TheVariants as refusals
use Rattle.cc_model.specs.declared.item.Reply.{Reply}
use Rattle.cc_model.specs.declared.item.Reply.TheVariants as replies
use Rattle.cc_model.specs.Texts.{text_of_reply}
use Rattle.cc_verdict.specs.Hearing.{Hearing, EndsAbandoned, EndsAsTheGraph}
use Rattle.cc_check.specs.Standing.{hearing_of}
use Rattle.cc_check.proofs.answer.Answer.ended_by.Goals as goal
use Rattle.cc_check.proofs.answer.Answer.ended_by.Goals.{else-ends_as_the_graph-via-then-ends_as_the_graph+else-is, else-ends_as_the_graph-via-else-ends_as_the_graph, else-ends_abandoned-via-then-ends_abandoned+else-is-2, else-ends_abandoned-via-else-ends_abandoned}

abbrev no_memory : Reply
no_memory = replies.Refused refusals.NoMemory

own : (h : Hearing) (r : Reply) → EndsAsTheGraph h r → EndsAsTheGraph h h.reply
own h r a = subst (EndsAsTheGraph h) a.same a

want : (h : Hearing) (r : Reply) → EndsAbandoned h r → EndsAbandoned h no_memory
want h r a = subst (EndsAbandoned h) a.refused a

pub returns-then-is-clause-may_end : goal.returns-then-is-clause-may_end
returns-then-is-clause-may_end c = λ g names ended row. inl ((c.ends_as_the_graph.ensures g names ended row).0 c.if-ends_as_the_graph.true)

pub returns-then-is-2-clause-may_end : goal.returns-then-is-2-clause-may_end
returns-then-is-2-clause-may_end c = λ g names ended row. inr ((c.ends_abandoned.ensures g names ended row).0 c.if-ends_abandoned.true)

pub returns-clause-none : goal.returns-clause-none
returns-clause-none c = λ g names ended row line r h e m. ⊎_elim
    (λ (a : EndsAsTheGraph (hearing_of c.args.self g names ended row) r). elim c.else-ends_as_the_graph.branch [
      | else-ends_as_the_graph-via-then-ends_as_the_graph+else-is w ↦
          true≢false (sym ((w.is.ensures line h).1 (e ∙ ap text_of_reply a.same)) ∙ w.if-is.false)
      | else-ends_as_the_graph-via-else-ends_as_the_graph w ↦
          true≢false (sym ((c.ends_as_the_graph.ensures g names ended row).1 (own (hearing_of c.args.self g names ended row) r a)) ∙ w.if-ends_as_the_graph.false)
    ])
    (λ (a : EndsAbandoned (hearing_of c.args.self g names ended row) r). elim c.else-ends_abandoned.branch [
      | else-ends_abandoned-via-then-ends_abandoned+else-is-2 w ↦
          true≢false (sym ((w.is-then-ends_abandoned.ensures line h).1 (e ∙ ap text_of_reply a.refused)) ∙ w.if-is-2.false)
      | else-ends_abandoned-via-else-ends_abandoned w ↦
          true≢false (sym ((c.ends_abandoned.ensures g names ended row).1 (want (hearing_of c.args.self g names ended row) r a)) ∙ w.if-ends_abandoned.false)
    ])
    m

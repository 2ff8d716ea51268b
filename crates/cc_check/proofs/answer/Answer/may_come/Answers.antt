use Rattle.std.proofs.Common.{◌≡◌, Bool, true, false, ◌&&◌, nat_le, ap, sym, ◌∙◌}
use Rattle.std.proofs.lemmas.Bool.{true≢false}
use Rattle.cc_names.specs.declared.name.Name.{Name}
use Rattle.cc_model.specs.declared.command.Command.{Command}
use Rattle.cc_model.specs.declared.item.Event.{Event}
use Rattle.cc_model.specs.declared.item.Event.TheVariants.{Freed, Unlinked}
use Rattle.cc_model.specs.Lawful.{may_free, may_unlink, runs_allowed}
use Rattle.cc_verdict.specs.Hearing.{Told, may_come, may_go_on, runs_with}
use Rattle.cc_check.specs.Standing.{told_of}
use Rattle.cc_check.proofs.answer.Answer.may_come.Goals as goal
use Rattle.cc_check.proofs.answer.Answer.may_come.Goals.{then-may_unlink, else-may_unlink}

module _ (c : Command) (t : Told) (e : Event) (x : Name) where
  freed : e ≡ Freed x → may_free c x ≡ true → may_come c t e ≡ may_go_on c t
  freed is free = ap (may_come c t) is ∙ ap (λ (b : Bool). b && may_go_on c t) free

  unlinked : e ≡ Unlinked x → may_unlink c x ≡ true → may_go_on c t ≡ true → may_come c t e ≡ nat_le (runs_with t x) (runs_allowed c)
  unlinked is link on = ap (may_come c t) is
      ∙ (ap (λ (b : Bool). b && (may_go_on c t && nat_le (runs_with t x) (runs_allowed c))) link
      ∙ ap (λ (b : Bool). b && nat_le (runs_with t x) (runs_allowed c)) on)

  over : e ≡ Unlinked x → may_unlink c x ≡ true → may_go_on c t ≡ false → may_come c t e ≡ false
  over is link on = ap (may_come c t) is
      ∙ (ap (λ (b : Bool). b && (may_go_on c t && nat_le (runs_with t x) (runs_allowed c))) link
      ∙ ap (λ (b : Bool). b && nat_le (runs_with t x) (runs_allowed c)) on)

  not_unlinked : e ≡ Unlinked x → may_unlink c x ≡ false → may_come c t e ≡ false
  not_unlinked is link = ap (may_come c t) is ∙ ap (λ (b : Bool). b && (may_go_on c t && nat_le (runs_with t x) (runs_allowed c))) link

pub returns-then-may_free : goal.returns-then-may_free
returns-then-may_free c = λ names ended.
    c.may_go_on.ensures names ended
    ∙ sym (freed c.args.self.command (told_of c.args.self names ended) c.args.event c.in-Freed.name c.in-Freed.is (sym c.may_free.ensures ∙ c.if-may_free.true))

pub returns-then-may_go_on : goal.returns-then-may_go_on
returns-then-may_go_on c = λ names ended. elim c.if-may_unlink.branch [
  | then-may_unlink w ↦ c.has_run_for.ensures names ended
      ∙ sym (unlinked c.args.self.command (told_of c.args.self names ended) c.args.event c.in-Unlinked.name c.in-Unlinked.is
      (sym c.may_unlink.ensures ∙ w.if-may_unlink.true)
      (sym (w.may_go_on-then-may_unlink.ensures names ended) ∙ (sym w.value-is ∙ c.if-may_go_on.true)))
  | else-may_unlink w ↦ absurd (true≢false (sym c.if-may_go_on.true ∙ (w.value-is ∙ w.if-may_unlink.false)))
]

pub returns-else-may_go_on : goal.returns-else-may_go_on
returns-else-may_go_on c = λ names ended. elim c.if-may_unlink.branch [
  | then-may_unlink w ↦ c.if-may_go_on.false
      ∙ sym (over c.args.self.command (told_of c.args.self names ended) c.args.event c.in-Unlinked.name c.in-Unlinked.is
      (sym c.may_unlink.ensures ∙ w.if-may_unlink.true)
      (sym (w.may_go_on-then-may_unlink.ensures names ended) ∙ (sym w.value-is ∙ c.if-may_go_on.false)))
  | else-may_unlink w ↦ c.if-may_go_on.false
      ∙ sym (not_unlinked c.args.self.command (told_of c.args.self names ended) c.args.event c.in-Unlinked.name c.in-Unlinked.is
      (sym c.may_unlink.ensures ∙ w.if-may_unlink.false))
]

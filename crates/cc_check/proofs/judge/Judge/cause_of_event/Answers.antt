use Rattle.std.proofs.Common.{refl, sym, ap, not, ◌∙◌}
use Rattle.cc_model.specs.Texts.{text_of_event}
use Rattle.cc_check.specs.Causes.{may_have}
use Rattle.cc_check.specs.Standing.{hearing_in}
use Rattle.cc_check.proofs.Causing.{freed-may, unlinked-may}
use Rattle.cc_check.proofs.judge.Judge.cause_of_event.Goals as goal

pub returns-then-not-may_go_on : goal.returns-then-not-may_go_on
returns-then-not-may_go_on c = λ asks line is.
    let h = hearing_in c.args.self.now c.args.answer in (
      h,
      refl,
      record {
        line_is = is ∙ ap text_of_event c.in-Freed.is;
        had = ap (may_have h.command) (sym c.in-Freed.is) ∙ (sym c.may_have.ensures ∙ c.if-not-may_have.false);
        misplaced = ap not (sym (c.may_go_on.ensures h.told.names h.told.ended) ∙ c.if-not-may_go_on.true);
      },
    )

pub returns-then-not-may_go_on-2 : goal.returns-then-not-may_go_on-2
returns-then-not-may_go_on-2 c = λ asks line is.
    let h = hearing_in c.args.self.now c.args.answer in (
      h,
      refl,
      record {
        line_is = is ∙ ap text_of_event c.in-Unlinked.is;
        had = ap (may_have h.command) (sym c.in-Unlinked.is) ∙ (sym c.may_have.ensures ∙ c.if-not-may_have.false);
        misplaced = ap not (sym (c.may_go_on-in-Unlinked.ensures h.told.names h.told.ended) ∙ c.if-not-may_go_on-2.true);
      },
    )

pub returns-then-not-has_run_for : goal.returns-then-not-has_run_for
returns-then-not-has_run_for c = λ asks line is.
    let h = hearing_in c.args.self.now c.args.answer in (
      h,
      refl,
      record {
        line_is = is ∙ ap text_of_event c.in-Unlinked.is;
        had = ap (may_have h.command) (sym c.in-Unlinked.is) ∙ (sym c.may_have.ensures ∙ c.if-not-may_have.false);
        placed = ap not (sym (c.may_go_on-in-Unlinked.ensures h.told.names h.told.ended) ∙ c.if-not-may_go_on-2.false);
        name = c.in-Unlinked.name;
        unlinked = refl;
        runs = sym (c.has_run_for.ensures h.told.names h.told.ended) ∙ c.if-not-has_run_for.true;
      },
    )

pub cause_of_name-requires-clause-may : goal.cause_of_name-requires-clause-may
cause_of_name-requires-clause-may c =
    let h = hearing_in c.args.self.now c.args.answer in
    freed-may h.command h.told c.in-Freed.name (ap (may_have h.command) (sym c.in-Freed.is) ∙ (sym c.may_have.ensures ∙ c.if-not-may_have.false))
    (sym (c.may_go_on.ensures h.told.names h.told.ended) ∙ c.if-not-may_go_on.false)

pub cause_of_name-requires-in-Unlinked-clause-may : goal.cause_of_name-requires-in-Unlinked-clause-may
cause_of_name-requires-in-Unlinked-clause-may c =
    let h = hearing_in c.args.self.now c.args.answer in
    unlinked-may h.command h.told c.in-Unlinked.name (ap (may_have h.command) (sym c.in-Unlinked.is) ∙ (sym c.may_have.ensures ∙ c.if-not-may_have.false))
    (sym (c.may_go_on-in-Unlinked.ensures h.told.names h.told.ended) ∙ c.if-not-may_go_on-2.false) (sym (c.has_run_for.ensures h.told.names h.told.ended) ∙ c.if-not-has_run_for.false)

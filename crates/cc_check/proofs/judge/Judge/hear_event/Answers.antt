use Rattle.std.proofs.Common.{refl, sym, ap, subst, ◌∙◌}
use Rattle.cc_verdict.specs.GoingOn.{ListsAllIn}
use Rattle.cc_verdict.specs.Hearing.{MayCome}
use Rattle.cc_verdict.specs.Positions.{within}
use Rattle.cc_check.specs.Standing.{hearing_in, position_in}
use Rattle.cc_check.proofs.Kept.{all-in, heard-event, kept-event}
use Rattle.cc_check.proofs.judge.Judge.hear_event.Goals as goal

pub returns-then-not-branch-clause-kept : goal.returns-then-not-branch-clause-kept
returns-then-not-branch-clause-kept c = record {
  well_made = c.requires.kept.well_made;
  limits = c.requires.kept.limits;
  listed = c.requires.kept.listed;
  new = c.requires.kept.new;
  granted = c.requires.kept.granted;
  all_listed = c.requires.kept.all_listed;
  known = c.in_ok-is_of_garbage.ensures.known;
}

pub returns-then-not-branch-clause-stays : goal.returns-then-not-branch-clause-stays
returns-then-not-branch-clause-stays c = λ no. ap (position_in c.args.self.now) c.requires.answer

pub returns-then-not-may_come-clause-stays : goal.returns-then-not-may_come-clause-stays
returns-then-not-may_come-clause-stays c = λ no. ap (position_in c.args.self.now) c.requires.answer

pub returns-clause-kept : goal.returns-clause-kept
returns-clause-kept c =
    let j = c.args.self.now in
    let a = c.args.answer in
    let may : MayCome (hearing_in j a) c.args.event = record {
      kind = sym (c.may_come.ensures j.listed j.ended) ∙ c.if-not-may_come.false;
      garbage = c.in_ok-is_of_garbage.ensures.garbage.0 c.if-not-branch.false;
    } in
    kept-event j _ a c.after.result c.args.event c.requires.kept c.requires.answer refl c.take_out.ensures refl refl
    c.after.ensures.command c.after.ensures.reply c.in_ok-is_of_garbage.ensures.known
    (λ unread. subst ListsAllIn (sym (heard-event j a c.after.result c.args.event c.take_out.new.listed c.add.new.self c.after.ensures.command c.after.ensures.reply c.take_out.ensures
    c.in_ok-add.ensures (c.after.ensures.told j.listed j.ended)))
    (c.all_that_is_reached_is_listed.ensures.event (hearing_in j a) c.args.event may (all-in j a c.requires.kept unread c.requires.answer)))

pub returns-clause-place : goal.returns-clause-place
returns-clause-place c = λ yes.
    ap within (heard-event c.args.self.now c.args.answer c.after.result c.args.event c.take_out.new.listed c.add.new.self c.after.ensures.command c.after.ensures.reply c.take_out.ensures
    c.in_ok-add.ensures (c.after.ensures.told c.args.self.now.listed c.args.self.now.ended))

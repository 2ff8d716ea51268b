use Rattle.std.proofs.Common.{◌≡◌, false, refl, sym, subst}
use Rattle.cc_verdict.specs.GoingOn.{ListsAll}
use Rattle.cc_check.specs.Standing.{hearing_in}
use Rattle.cc_check.proofs.Kept.{all-in, kept-end}
use Rattle.cc_check.proofs.judge.Judge.end.Goals as goal

pub returns-clause-kept : goal.returns-clause-kept
returns-clause-kept c =
    let j = c.args.self.now in
    let all = λ (unread : c.args.self.now.has_read ≡ false). c.all_that_is_reached_is_listed.ensures.ends (hearing_in j c.args.answer) c.args.reply c.requires.may_end
    (all-in j c.args.answer c.requires.kept unread c.requires.answer) in
    kept-end j _ c.args.answer c.args.reply c.requires.kept c.requires.answer c.requires.may_end refl c.in_ok-put_in.ensures refl c.requires.kept.known
    (λ unread. subst (ListsAll j.graph) (sym c.in_ok-put_in.ensures) (all unread))

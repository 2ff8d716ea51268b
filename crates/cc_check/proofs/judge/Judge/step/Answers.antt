use Rattle.std.proofs.Common.{refl, sym, subst, ◌∙◌}
use Rattle.cc_model.specs.Mutating.{reads_weakly}
use Rattle.cc_verdict.specs.GoingOn.{ListsAllIn}
use Rattle.cc_check.specs.Standing.{place_of}
use Rattle.cc_check.proofs.Kept.{all-of, heard_as-is, kept-step}
use Rattle.cc_check.proofs.Unread.{neither, neither-left, neither-right}
use Rattle.cc_check.proofs.judge.Judge.step.Goals as goal

pub returns-clause-hearing : goal.returns-clause-hearing
returns-clause-hearing c = heard_as-is _ _ _ _ _ _ _ _ _ c.new-answer.ensures.command (c.new-answer.ensures.reply ∙ c.in_ok-reply.ensures.reply) c.in_ok-reply.ensures.step
    (c.new-answer.ensures.told c.args.self.now.listed c.args.self.now.ended)

pub returns-clause-reads : goal.returns-clause-reads
returns-clause-reads c = λ unread plain. c.has_read_after-self.ensures ∙ neither c.args.self.now.has_read (reads_weakly c.args.command) unread plain

pub returns-clause-kept : goal.returns-clause-kept
returns-clause-kept c =
    let j = c.args.self.now in
    let command = c.new-answer.ensures.command in
    let reply = c.new-answer.ensures.reply ∙ c.in_ok-reply.ensures.reply in
    kept-step j _ c.args.command c.new-answer.result c.requires.between c.requires.in_range c.in_ok-reply.ensures.step
    refl refl refl command reply (c.go_on.ensures j.ended j.graph c.requires.between.kept.known)
    (λ unread.
    let none = sym c.has_read_after-self.ensures ∙ unread in
    subst ListsAllIn (sym (heard_as-is _ _ _ _ _ _ _ _ _ command reply c.in_ok-reply.ensures.step (c.new-answer.ensures.told j.listed j.ended)))
    (c.all_that_is_reached_is_listed.ensures.begins (place_of j) c.args.command c.requires.is_heard c.requires.in_range
    (neither-right j.has_read (reads_weakly c.args.command) none)
    (all-of j c.requires.between.kept (neither-left j.has_read (reads_weakly c.args.command) none) c.requires.between.answer)))

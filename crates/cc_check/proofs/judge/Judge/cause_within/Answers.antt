use Rattle.std.proofs.Common.{◌≡◌, Some, None, refl, sym, ap, ◌∙◌}
use Rattle.cc_model.specs.Texts.{text_of_reply}
use Rattle.cc_check.specs.Standing.{hearing_in}
use Rattle.cc_check.proofs.Causing.{heard-some}
use Rattle.cc_check.proofs.judge.Judge.cause_within.Goals as goal

pub cause_of_event-requires-clause-refused : goal.cause_of_event-requires-clause-refused
cause_of_event-requires-clause-refused c =
    let l = heard-some c.args.heard in
    (c.requires.refused l.0 l.1).0 c.in-Some.event (c.in-Some.ensures.sound l.0 l.1)

pub returns-in-None : goal.returns-in-None
returns-in-None c = λ asks line hd.
    let j = c.args.self.now in
    let h = hearing_in j c.args.answer in
    let due = c.reply_due.ensures j.graph j.listed j.ended j.row in (
      h,
      refl,
      record {
        due = due;
        other = λ is. (c.requires.refused line hd).1 (is ∙ ap text_of_reply due);
        no_event = λ e small is. let found : c.event.result ≡ Some e = c.event.ensures.complete line e hd is small in
            let both : None ≡ Some e = sym c.in-None.is ∙ found in absurd (cc);
      },
    )

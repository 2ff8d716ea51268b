use Rattle.std.proofs.Common.{refl, sym, subst}
use Rattle.cc_model.specs.declared.command.Command.TheVariants as command
use Rattle.cc_model.specs.Answers.{Answer, items_of, no_answer}
use Rattle.cc_model.specs.Asks.{taken}
use Rattle.cc_verdict.specs.Following.{Follows, Recites, place_after}
use Rattle.cc_verdict.proofs.Turns.{follows-first, first-follows, nothing-quiet}
use Rattle.cc_verdict.proofs.answers.lines_that_ask_nothing_have_no_answer.Goals as goal

pub returns-clause-nothing : goal.returns-clause-nothing
returns-clause-nothing c = λ p asks lines. (
  (λ f. let t = follows-first p (taken command.Nothing) asks lines f in
      let r = subst (λ (a : Answer). Recites (items_of a) (place_after p (taken command.Nothing) a) asks lines) t.1.lawful t.1.recites in
      subst (Follows p asks) (sym r.lines_are) r.follows),
  (λ f. first-follows p (taken command.Nothing) asks lines no_answer (record {
    lawful = refl;
    quiet = nothing-quiet p.row p.state;
    recites = record { rest = lines; lines_are = refl; follows = f };
  })),
)

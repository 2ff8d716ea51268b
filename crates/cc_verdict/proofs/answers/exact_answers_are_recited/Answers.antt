use Rattle.std.proofs.Common.{◌≡◌, ℕ, List, [], ◌∷◌, refl, subst}
use Rattle.cc_model.specs.declared.command.Command.TheVariants as command
use Rattle.cc_model.specs.declared.item.Refusal.TheVariants as refusal
use Rattle.cc_model.specs.declared.item.Reply.TheVariants as reply
use Rattle.cc_model.specs.Answers.{Answer, items_of, replying}
use Rattle.cc_model.specs.Asks.{Ask, bad, long, taken}
use Rattle.cc_model.specs.Lawful.{AnswersAsk, census_of}
use Rattle.cc_verdict.specs.Following.{Follows, Place, Recites, place_after}
use Rattle.cc_verdict.proofs.Turns.{follows-first, first-follows, long-quiet, bad-quiet}
use Rattle.cc_verdict.proofs.answers.exact_answers_are_recited.Goals as goal

-- what is answered by one answer alone is answered by it
by-one : (p : Place) (ask : Ask) (asks : List Ask) (lines : List (List ℕ)) (b : Answer) → ((a : Answer) → AnswersAsk p.state ask a → a ≡ b) →
    Follows p (ask ∷ asks) lines → Recites (items_of b) (place_after p ask b) asks lines
by-one p ask asks lines b only f =
    let t = follows-first p ask asks lines f in
    subst (λ (a : Answer). Recites (items_of a) (place_after p ask a) asks lines) (only t.0 t.1.lawful) t.1.recites

pub returns-clause-long : goal.returns-clause-long
returns-clause-long c = λ p asks lines.
    let a : Answer = replying [] (reply.Refused refusal.Long) in (
      by-one p long asks lines a (λ b e. e),
      (λ r. first-follows p long asks lines a (record { lawful = refl; quiet = long-quiet p.row p.state; recites = r })),
    )

pub returns-clause-bad : goal.returns-clause-bad
returns-clause-bad c = λ p asks lines.
    let a : Answer = replying [] (reply.Refused refusal.Line) in (
      by-one p bad asks lines a (λ b e. e),
      (λ r. first-follows p bad asks lines a (record { lawful = refl; quiet = bad-quiet p.row p.state; recites = r })),
    )

pub returns-clause-census : goal.returns-clause-census
returns-clause-census c = λ p asks lines quiet.
    let a : Answer = census_of p.state.listed in (
      by-one p (taken command.Census) asks lines a (λ b e. e),
      (λ r. first-follows p (taken command.Census) asks lines a (record { lawful = refl; quiet = quiet; recites = r })),
    )

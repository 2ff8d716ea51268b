-- ONE LINE OF A TRANSCRIPT, with what was asked and answered before it.
use Rattle.std.specs.Prelude.{◌≡◌, true, false, List, [], ◌∷◌, ◌++◌, length, Some}
use Rattle.cc_laws_run.specs.Missing.{asks_nothing}
use Rattle.cc_names.specs.Allowance.{Allowance}
use Rattle.cc_model.specs.declared.command.Command.TheVariants.{Collect, Gc}
use Rattle.cc_model.specs.declared.item.Reply.TheVariants.{Done}
use Rattle.cc_model.specs.Answers.{Answer}
use Rattle.cc_model.specs.Asks.{Ask, taken}
use Rattle.cc_model.specs.Lawful.{State, start, next}
use Rattle.cc_laws_run.specs.Running.{state_after}

-- an ask and its answer, and all asks before it with theirs
pub record Exchange : Type 0 where
  pub asked : List Ask
  pub told : List Answer
  pub ask : Ask
  pub answer : Answer

-- it is one of these asks, and has its answer
pub record IsExchangeOf (asks : List Ask) (answers : List Answer) (t : Exchange) : Type 0 where
  pub later : List Ask
  pub told_later : List Answer
  pub asks_are : asks ≡ t.asked ++ t.ask ∷ later
  pub answers_are : answers ≡ t.told ++ t.answer ∷ told_later
  pub one_each : length t.asked ≡ length t.told

-- the graph and the names that a census would list, before it and after it
abbrev pub before : Allowance → Exchange → State
before limits t = state_after (start limits) t.asked t.told

abbrev pub after : Allowance → Exchange → State
after limits t = next (before limits t) t.ask t.answer

-- asks and their answers, without blank lines and comments
abbrev pub spoken : List Ask → List Answer → List (Ask × Answer)
spoken [] answers = []
spoken (ask ∷ asks) [] = []
spoken (ask ∷ asks) (a ∷ answers) = elim (asks_nothing ask) [ true ↦ spoken asks answers | false ↦ (ask, a) ∷ spoken asks answers ]

-- the last three asks, blank lines and comments aside, were `gc`, a `collect` that was answered `= ok`, and `gc`
pub record HasJustCollected (asks : List Ask) (answers : List Answer) : Type 0 where
  pub first : List (Ask × Answer)
  pub swept : Answer
  pub collected : Answer
  pub swept_again : Answer
  pub are_last : spoken asks answers ≡ first ++ (taken Gc, swept) ∷ (taken Collect, collected) ∷ (taken Gc, swept_again) ∷ []
  pub ok : collected.reply ≡ Some Done

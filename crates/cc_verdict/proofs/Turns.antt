-- THE FIRST ANSWER OF LINES THAT MAY FOLLOW: it is lawful and quiet where it stands, its items come first, and what may follow
-- after it comes then.
use Rattle.std.proofs.Common.{◌≡◌, ℕ, List, [], ◌∷◌, ◌++◌, refl, sym, ap, ◌∙◌}
use Rattle.std.specs.Prelude.{IsTrue, map}
use Rattle.std.proofs.lemmas.Bool.{false≢true}
use Rattle.std.proofs.lemmas.List.{map-append}
use Rattle.cc_model.specs.declared.command.Command.{Command}
use Rattle.cc_model.specs.declared.command.Command.TheVariants.{Nothing, Why, Census}
use Rattle.cc_model.specs.Texts.{words_of}
use Rattle.cc_model.specs.Answers.{Answer, items_of, all_items_of}
use Rattle.cc_model.specs.Asks.{Ask, long, bad, taken}
use Rattle.cc_model.specs.Lawful.{State, AnswersAsk, IsLawfulFrom}
use Rattle.cc_model.specs.Quiet.{Row, nothing_yet, after_gc, after_collect, after_all, CensusIsQuiet, IsQuietFrom}
use Rattle.cc_verdict.specs.Following.{Place, place_after, lines_of_answers, Follows, Recites}
use Rattle.cc_verdict.specs.Hearing.{is_heard}

-- the first answer
pub record IsFirst (p : Place) (ask : Ask) (asks : List Ask) (lines : List (List ℕ)) (a : Answer) : Type 0 where
  pub lawful : AnswersAsk p.state ask a
  pub quiet : CensusIsQuiet p.row p.state ask
  pub recites : Recites (items_of a) (place_after p ask a) asks lines

pub follows-first : (p : Place) (ask : Ask) (asks : List Ask) (lines : List (List ℕ)) → Follows p (ask ∷ asks) lines →
    (a : Answer) × IsFirst p ask asks lines a
follows-first p ask asks lines f = go f.answers f.lines_are f.lawful f.quiet
  where
    go : (answers : List Answer) → lines ≡ lines_of_answers answers → IsLawfulFrom p.state (ask ∷ asks) answers → IsQuietFrom p.row p.state (ask ∷ asks) answers →
        (a : Answer) × IsFirst p ask asks lines a
    go [] e l q = absurd l
    go (a ∷ answers) e l q = (
      a,
      record {
        lawful = l.0;
        quiet = q.0;
        recites = record {
          rest = lines_of_answers answers;
          lines_are = e ∙ map-append words_of (items_of a) (all_items_of answers);
          follows = record { answers = answers; lines_are = refl; lawful = l.1; quiet = q.1 };
        };
      },
    )

pub first-follows : (p : Place) (ask : Ask) (asks : List Ask) (lines : List (List ℕ)) (a : Answer) → IsFirst p ask asks lines a → Follows p (ask ∷ asks) lines
first-follows p ask asks lines a i = record {
  answers = a ∷ i.recites.follows.answers;
  lines_are = i.recites.lines_are ∙ (ap (λ rest. map words_of (items_of a) ++ rest) i.recites.follows.lines_are
      ∙ sym (map-append words_of (items_of a) (all_items_of i.recites.follows.answers)));
  lawful = (i.lawful, i.recites.follows.lawful);
  quiet = (i.quiet, i.recites.follows.quiet);
}

-- Asks that are no census are quiet

pub long-quiet : (row : Row) (s : State) → CensusIsQuiet row s long
long-quiet nothing_yet s = tt
long-quiet after_gc s = tt
long-quiet after_collect s = tt
long-quiet after_all s = tt

pub bad-quiet : (row : Row) (s : State) → CensusIsQuiet row s bad
bad-quiet nothing_yet s = tt
bad-quiet after_gc s = tt
bad-quiet after_collect s = tt
bad-quiet after_all s = tt

pub nothing-quiet : (row : Row) (s : State) → CensusIsQuiet row s (taken Nothing)
nothing-quiet nothing_yet s = tt
nothing-quiet after_gc s = tt
nothing-quiet after_collect s = tt
nothing-quiet after_all s = tt

pub why-quiet : (row : Row) (s : State) (x : _) → CensusIsQuiet row s (taken (Why x))
why-quiet nothing_yet s x = tt
why-quiet after_gc s x = tt
why-quiet after_collect s x = tt
why-quiet after_all s x = tt

all-quiet : (s : State) (c : Command) → IsTrue (is_heard c) → CensusIsQuiet after_all s (taken c)
all-quiet s Census is = absurd (false≢true is)
all-quiet s c is = tt

pub heard-quiet : (row : Row) (s : State) (c : Command) → IsTrue (is_heard c) → CensusIsQuiet row s (taken c)
heard-quiet nothing_yet s c is = tt
heard-quiet after_gc s c is = tt
heard-quiet after_collect s c is = tt
heard-quiet after_all s c is = all-quiet s c is

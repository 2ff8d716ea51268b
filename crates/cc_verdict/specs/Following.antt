-- WHAT MAY FOLLOW: the lines of answers that are lawful and quiet from here on.
use Rattle.std.specs.Prelude.{◌≡◌, ℕ, List, ◌++◌, map}
use Rattle.cc_names.specs.Allowance.{Allowance}
use Rattle.cc_names.specs.declared.name.Name.{Name}
use Rattle.cc_model.specs.Texts.{words_of}
use Rattle.cc_model.specs.declared.item.Item.{Item}
use Rattle.cc_model.specs.Answers.{Answer, all_items_of}
use Rattle.cc_model.specs.Asks.{Ask}
use Rattle.cc_model.specs.Graph.{Graph}
use Rattle.cc_model.specs.Lawful.{State, start, next, IsLawfulFrom, state_of}
use Rattle.cc_model.specs.Quiet.{Row, nothing_yet, row_after, IsQuietFrom}

-- where a check stands between two answers: the graph, the listed names and those that have ended, and how much of the row was asked
-- last
pub record Place : Type 0 where
  pub state : State
  pub row : Row

abbrev pub place : Graph → List Name → List Name → Row → Place
place g names ended row = record { state = state_of g names ended; row = row }

abbrev pub first_place : Allowance → Place
first_place limits = record { state = start limits; row = nothing_yet }

abbrev pub place_after : Place → Ask → Answer → Place
place_after p ask a = record { state = next p.state ask a; row = row_after p.row ask a }

-- the lines of items, each without its line feed
abbrev pub lines_of_items : List Item → List (List ℕ)
lines_of_items items = map words_of items

abbrev pub lines_of_answers : List Answer → List (List ℕ)
lines_of_answers answers = lines_of_items (all_items_of answers)

-- THESE LINES MAY FOLLOW: they are those of answers to these asks that are lawful and quiet from here on
pub record Follows (p : Place) (asks : List Ask) (lines : List (List ℕ)) : Type 0 where
  pub answers : List Answer
  pub lines_are : lines ≡ lines_of_answers answers
  pub lawful : IsLawfulFrom p.state asks answers
  pub quiet : IsQuietFrom p.row p.state asks answers

-- THESE LINES RECITE ITEMS, and then what may follow
pub record Recites (items : List Item) (p : Place) (asks : List Ask) (lines : List (List ℕ)) : Type 0 where
  pub rest : List (List ℕ)
  pub lines_are : lines ≡ lines_of_items items ++ rest
  pub follows : Follows p asks rest

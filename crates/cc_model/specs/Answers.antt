-- What is answered to one line, and what is written for a list of answers.
use Rattle.std.specs.Prelude.{ℕ, List, [], ◌++◌, flat_map, map, Option, Some, None, option_to_list}
use Rattle.cc_names.specs.declared.name.Name.{Name}
use Rattle.cc_model.specs.declared.item.Reply.{Reply}
use Rattle.cc_model.specs.declared.item.Event.{Event}
use Rattle.cc_model.specs.declared.item.Reason.{Reason}
use Rattle.cc_model.specs.declared.item.Item.{Item}
use Rattle.cc_model.specs.declared.item.Item.TheVariants.{Event as of_event, Listed, Step as of_step, Reply as of_reply}
use Rattle.cc_model.specs.Texts.{texts_of}

-- an object that is reached, and why
abbrev pub Step : Type 0
Step = Name × Reason

-- events, then the names that a census lists or the steps that lead to an object, then the reply; a line that asks nothing
-- has none of them
pub record Answer : Type 0 where
  pub events : List Event
  pub listed : List Name
  pub steps : List Step
  pub reply : Option Reply

-- an answer with nothing at all
abbrev pub no_answer : Answer
no_answer = record { events = []; listed = []; steps = []; reply = None }

-- an answer with events and a reply
abbrev pub replying : List Event → Reply → Answer
replying events reply = record { events = events; listed = []; steps = []; reply = Some reply }

-- an answer with names and a reply
abbrev pub listing : List Name → Reply → Answer
listing names reply = record { events = []; listed = names; steps = []; reply = Some reply }

-- an answer with steps and a reply
abbrev pub explaining : List Step → Reply → Answer
explaining steps reply = record { events = []; listed = []; steps = steps; reply = Some reply }

abbrev pub item_of_step : Step → Item
item_of_step s = of_step s.0 s.1

abbrev pub items_of : Answer → List Item
items_of a = map of_event a.events ++ (map Listed a.listed ++ (map item_of_step a.steps ++ map of_reply (option_to_list a.reply)))

abbrev pub all_items_of : List Answer → List Item
all_items_of answers = flat_map items_of answers

-- WHAT IS WRITTEN for a list of answers
abbrev pub text_of_answers : List Answer → List ℕ
text_of_answers answers = texts_of (all_items_of answers)

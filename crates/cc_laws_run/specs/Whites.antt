-- WHAT A MARKING FREES over asks: what was white when it began, but for what `wrap` answered since.
use Rattle.std.specs.Prelude.{Bool, true, false, List, [], ◌∷◌, ◌++◌, flat_map, Option, Some}
use Rattle.cc_names.specs.declared.name.Name.{Name}
use Rattle.cc_model.specs.declared.item.Event.{Event}
use Rattle.cc_model.specs.declared.item.Reply.{Reply}
use Rattle.cc_model.specs.declared.item.Reply.TheVariants.{Named}
use Rattle.cc_model.specs.declared.command.Command.TheVariants.{Wrap}
use Rattle.cc_model.specs.Answers.{Answer}
use Rattle.cc_model.specs.Asks.{Ask, taken}
use Rattle.cc_model.specs.Mutating.{whole, Class, collects_scripts, class_of}
use Rattle.cc_model.specs.Collecting.{Machine, finish_running}
use Rattle.cc_laws_marking.specs.Unmarkable.{not_marked}

-- the script objects that are white where `mark` begins a marking: a running collection was ended before
abbrev pub white_at_begin : Machine → List Name
white_at_begin m = not_marked (finish_running m).machine.heap

-- the name in a reply
abbrev pub named_in : Option Reply → List Name
named_in (Some (Named x)) = x ∷ []
named_in _ = []

-- the reflector that `wrap` answered
abbrev pub wrapped_in : Ask → Answer → List Name
wrapped_in (taken (Wrap d n)) a = named_in a.reply
wrapped_in _ a = []

abbrev pub wrapped_over : List Ask → List Answer → List Name
wrapped_over [] answers = []
wrapped_over (ask ∷ asks) [] = []
wrapped_over (ask ∷ asks) (a ∷ answers) = wrapped_in ask a ++ wrapped_over asks answers

abbrev pub events_over : List Answer → List Event
events_over answers = flat_map (λ a. a.events) answers

-- `gc` drops a marking that goes on
abbrev pub drops_marking : Class → Bool
drops_marking (collects_scripts whole) = true
drops_marking _ = false

-- an ask that drops none
abbrev pub keeps_marking : Ask → Bool
keeps_marking (taken c) = elim (drops_marking (class_of c)) [ true ↦ false | false ↦ true ]
keeps_marking ask = true

-- The number that a line has.
use Rattle.std.specs.Prelude.{ℕ}
use Rattle.cc_names.specs.Names.{number_of}
use Rattle.cc_model.specs.declared.item.Reply.{Reply}
use Rattle.cc_model.specs.declared.item.Reply.TheVariants.{Named, Nothing, Done, Census, Refused}
use Rattle.cc_model.specs.declared.item.Event.{Event}
use Rattle.cc_model.specs.declared.item.Event.TheVariants.{Unlinked, Freed, Abandoned}

-- the number in an event; 0 where it has none
abbrev pub number_in_event : Event → ℕ
number_in_event (Unlinked x) = number_of x
number_in_event (Freed x) = number_of x
number_in_event Abandoned = 0

-- the number in a reply; 0 where it has none
abbrev pub number_in_reply : Reply → ℕ
number_in_reply (Named x) = number_of x
number_in_reply (Census n) = n
number_in_reply Nothing = 0
number_in_reply Done = 0
number_in_reply (Refused refusal) = 0

-- What the ten numbers of a summary are after some items: each item adds its part, and a count that stands at its
-- greatest value stays there.
use Rattle.std.specs.Prelude.{List, [], ◌∷◌, Option, option_map}
use Rattle.cc_lists.specs.Faults.{raised}
use Rattle.cc_model.specs.declared.sums.Sums.{Sums}
use Rattle.cc_model.specs.declared.item.Refusal.{Refusal}
use Rattle.cc_model.specs.declared.item.Refusal.TheVariants.{Long, Line, Empty, Kind, Slot, Full, NoMemory}
use Rattle.cc_model.specs.declared.item.Reply.{Reply}
use Rattle.cc_model.specs.declared.item.Reply.TheVariants.{Named, Nothing, Done, Census, Refused}
use Rattle.cc_model.specs.declared.item.Event.{Event}
use Rattle.cc_model.specs.declared.item.Event.TheVariants.{Unlinked, Freed, Abandoned}
use Rattle.cc_model.specs.declared.item.Item.{Item}
use Rattle.cc_model.specs.declared.item.Item.TheVariants.{Event as of_event, Listed, Step, Reply as of_reply}

-- before the first item
abbrev pub none_summed : Sums
none_summed = record { commands = 0; ok = 0; named = 0; none = 0; refused = 0; nomem = 0; abandoned = 0; unlinked = 0; freed = 0; census = 0 }

-- a want of memory is counted apart from the other refusals
abbrev pub with_refusal : Refusal → Sums → Sums
with_refusal Long s = record s { refused = raised s.refused 1 }
with_refusal Line s = record s { refused = raised s.refused 1 }
with_refusal Empty s = record s { refused = raised s.refused 1 }
with_refusal Kind s = record s { refused = raised s.refused 1 }
with_refusal Slot s = record s { refused = raised s.refused 1 }
with_refusal Full s = record s { refused = raised s.refused 1 }
with_refusal NoMemory s = record s { nomem = raised s.nomem 1 }

-- the last census stands
abbrev pub with_reply : Reply → Sums → Sums
with_reply (Named name) s = record s { named = raised s.named 1 }
with_reply Nothing s = record s { none = raised s.none 1 }
with_reply Done s = record s { ok = raised s.ok 1 }
with_reply (Census n) s = record s { census = n }
with_reply (Refused refusal) s = with_refusal refusal s

abbrev pub with_event : Event → Sums → Sums
with_event (Unlinked name) s = record s { unlinked = raised s.unlinked 1 }
with_event (Freed name) s = record s { freed = raised s.freed 1 }
with_event Abandoned s = record s { abandoned = raised s.abandoned 1 }

-- AN ITEM'S PART: each reply answers one command, and what a census lists is not counted, nor are the steps of a path
abbrev pub with_item : Item → Sums → Sums
with_item (of_event event) s = with_event event s
with_item (Listed name) s = s
with_item (Step x r) s = s
with_item (of_reply reply) s = with_reply reply (record s { commands = raised s.commands 1 })

-- THE SUMS AFTER THESE ITEMS, in their order
abbrev pub summed : List Item → Sums → Sums
summed [] s = s
summed (item ∷ items) s = summed items (with_item item s)

-- where they are told
abbrev pub sums_after : List Item → Option Sums → Option Sums
sums_after items sums = option_map (summed items) sums

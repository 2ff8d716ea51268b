-- The texts of items: what is written for each, with its line feed.
use Rattle.std.specs.Prelude.{ℕ, List, [], ◌∷◌, ◌++◌, decimal, codes, flat_map}
use Rattle.cc_names.specs.declared.name.Name.{Name}
use Rattle.cc_names.specs.Names.{text_of_name, text_of_register}
use Rattle.cc_model.specs.declared.item.Refusal.{Refusal}
use Rattle.cc_model.specs.declared.item.Refusal.TheVariants.{Long, Line, Empty, Kind, Slot, Full, NoMemory}
use Rattle.cc_model.specs.declared.item.Reply.{Reply}
use Rattle.cc_model.specs.declared.item.Reply.TheVariants.{Named, Nothing, Done, Census, Refused}
use Rattle.cc_model.specs.declared.item.Event.{Event}
use Rattle.cc_model.specs.declared.item.Reason.{Reason}
use Rattle.cc_model.specs.declared.item.Reason.TheVariants.{Root, Edge, Pair}
use Rattle.cc_model.specs.declared.item.Event.TheVariants.{Unlinked, Freed, Abandoned}
use Rattle.cc_model.specs.declared.item.Item.{Item}
use Rattle.cc_model.specs.declared.item.Item.TheVariants.{Event as of_event, Listed, Step, Reply as of_reply}

abbrev pub text_of_refusal : Refusal → List ℕ
text_of_refusal Long = codes "! long"
text_of_refusal Line = codes "! line"
text_of_refusal Empty = codes "! empty"
text_of_refusal Kind = codes "! kind"
text_of_refusal Slot = codes "! slot"
text_of_refusal Full = codes "! full"
text_of_refusal NoMemory = codes "! nomem"

abbrev pub text_of_reply : Reply → List ℕ
text_of_reply (Named name) = codes "= " ++ text_of_name name
text_of_reply Nothing = codes "= none"
text_of_reply Done = codes "= ok"
text_of_reply (Census n) = codes "= census " ++ decimal n
text_of_reply (Refused refusal) = text_of_refusal refusal

abbrev pub text_of_event : Event → List ℕ
text_of_event (Unlinked name) = codes "- unlink " ++ text_of_name name
text_of_event (Freed name) = codes "- free " ++ text_of_name name
text_of_event Abandoned = codes "- abandon"

abbrev pub text_of_reason : Reason → List ℕ
text_of_reason (Root r) = text_of_register r
text_of_reason (Edge x) = text_of_name x
text_of_reason (Pair m x) = text_of_name m ++ codes " " ++ text_of_name x

abbrev pub text_of_step : Name → Reason → List ℕ
text_of_step x r = codes ": " ++ text_of_name x ++ codes " " ++ text_of_reason r

-- an item's line without its line feed
abbrev pub words_of : Item → List ℕ
words_of (of_event event) = text_of_event event
words_of (Listed name) = codes "+ " ++ text_of_name name
words_of (Step x r) = text_of_step x r
words_of (of_reply reply) = text_of_reply reply

-- AN ITEM'S LINE
abbrev pub text_of : Item → List ℕ
text_of item = words_of item ++ 10 ∷ []

-- the lines of a list of items, in a row
abbrev pub texts_of : List Item → List ℕ
texts_of items = flat_map text_of items

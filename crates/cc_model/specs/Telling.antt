-- What a receiver of items has been told, and how that grows.
use Rattle.std.specs.Prelude.{◌≡◌, ℕ, Bool, true, false, List, ◌++◌, map, Option, option_map}
use Rattle.std.specs.Io.KnownBytes.{Appends}
use Rattle.cc_lists.specs.Faults.{raised}
use Rattle.cc_model.specs.declared.item.Event.{Event}
use Rattle.cc_model.specs.declared.item.Item.{Item}
use Rattle.cc_model.specs.declared.item.Item.TheVariants.{Event as of_event}
use Rattle.cc_model.specs.declared.sums.Sums.{Sums}
use Rattle.cc_model.specs.Texts.{texts_of}
use Rattle.cc_model.specs.Summed.{sums_after}

-- the bytes so far, where they are known; whether a write failed; how many writes failed;
-- which reference to a sink the receiver holds, by its ghost name (any number where it holds none);
-- the sums of a summary over the items so far, where the receiver tells them; and these items, where it keeps them
pub record Telling : Type 0 where
  pub told : Option (List ℕ)
  pub broken : Bool
  pub faults : ℕ
  pub sink : ℕ
  pub sums : Option Sums
  pub items : Option (List Item)

-- the bytes grew by a front of the text
pub record AppendsFront (old new : Option (List ℕ)) (text : List ℕ) : Type 0 where
  pub front : List ℕ
  pub rest : List ℕ
  pub whole : text ≡ front ++ rest
  pub grown : Appends old new front

-- the items that a receiver keeps, after others are told
abbrev pub items_after : List Item → Option (List Item) → Option (List Item)
items_after items kept = option_map (λ earlier. earlier ++ items) kept

-- the sums, where they are told, and the items, where they are kept, grew by a front of the items
pub record GrewByFront (old new : Telling) (items : List Item) : Type 0 where
  pub front : List Item
  pub rest : List Item
  pub whole : items ≡ front ++ rest
  pub summed : new.sums ≡ sums_after front old.sums
  pub kept : new.items ≡ items_after front old.items

-- the items were told whole: the bytes grew by their lines, the sums by their parts, and a list of items by them
pub record Grew (old new : Telling) (items : List Item) : Type 0 where
  pub grown : Appends old.told new.told (texts_of items)
  pub faults : new.faults ≡ old.faults
  pub summed : new.sums ≡ sums_after items old.sums
  pub kept : new.items ≡ items_after items old.items

-- one write failed within their lines, after a front of them
pub record Broke (old new : Telling) (items : List Item) : Type 0 where
  pub part : AppendsFront old.told new.told (texts_of items)
  pub faults : new.faults ≡ raised old.faults 1
  pub front : GrewByFront old new items

-- THESE ITEMS ARE TOLD, each by its line and its part of the sums: whole, or up to where it broke; a receiver that is
-- broken changes no more
pub record Tells (old new : Telling) (items : List Item) : Type 0 where
  pub sink : new.sink ≡ old.sink
  pub stays : old.broken ≡ true → new ≡ old
  pub whole : new.broken ≡ false → Grew old new items
  pub broke : old.broken ≡ false → new.broken ≡ true → Broke old new items

-- THESE EVENTS ARE TOLD
abbrev pub TellsEvents : Telling → Telling → List Event → Type 0
TellsEvents old new events = Tells old new (map of_event events)

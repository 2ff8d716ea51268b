-- LINES THAT ARE NO ITEM'S.
use Rattle.std.specs.Prelude.{◌≢◌, ℕ, ◌≤◌, List}
use Rattle.cc_names.specs.declared.register.Reg.TheVariants.{N, S, W}
use Rattle.cc_names.specs.Names.{number_of}
use Rattle.cc_model.specs.declared.item.Item.{Item}
use Rattle.cc_model.specs.declared.item.Item.TheVariants.{Event as of_event, Listed, Step as of_step, Reply as of_reply}
use Rattle.cc_model.specs.declared.item.Reason.{Reason}
use Rattle.cc_model.specs.declared.item.Reason.TheVariants.{Root, Edge, Pair}
use Rattle.cc_model.specs.Texts.{words_of}
use Rattle.cc_verdict.specs.Numbers.{number_in_reply}
use Rattle.cc_check.specs.Standing.{IsNumberedIn}

-- the numbers in a reason have 32 bits
abbrev pub IsNumberedReason : Reason → Type 0
IsNumberedReason (Root (N r)) = r ≤ 4294967295
IsNumberedReason (Root (S r)) = r ≤ 4294967295
IsNumberedReason (Root (W r)) = r ≤ 4294967295
IsNumberedReason (Edge x) = number_of x ≤ 4294967295
IsNumberedReason (Pair m x) = (number_of m ≤ 4294967295) × (number_of x ≤ 4294967295)

-- those in an item have
abbrev pub IsNumberedItem : Item → Type 0
IsNumberedItem (of_event e) = IsNumberedIn e
IsNumberedItem (Listed x) = number_of x ≤ 4294967295
IsNumberedItem (of_step x r) = (number_of x ≤ 4294967295) × IsNumberedReason r
IsNumberedItem (of_reply r) = number_in_reply r ≤ 4294967295

-- no item has this line
abbrev pub IsNoItem : List ℕ → Type 0
IsNoItem line = (i : Item) → IsNumberedItem i → line ≢ words_of i

-- WHICH NATIVES REFER TO SCRIPT OBJECTS, and what a table by number knows of it.
use Rattle.std.specs.Prelude.{◌≡◌, ℕ, ◌+◌, ◌<◌, ◌≤◌, ◌&&◌, Bool, true, false, count_by, length, List, Option, Some, None, is_some}
use Rattle.std.specs.List.{list_any}
use Rattle.cc_lists.specs.Walks.{is_above}
use Rattle.cc_names.specs.declared.name.Name.{Name}
use Rattle.cc_names.specs.declared.name.Name.TheVariants as name
use Rattle.cc_names.specs.Sizes.{most_slots}
use Rattle.cc_holders.specs.declared.entry.Entry.{Entry}
use Rattle.cc_holders.specs.declared.entry.Entry.TheVariants.{Known}
use Rattle.cc_holders.specs.declared.holders.Holders.{Holders}
use Rattle.cc_holders.specs.Entries.{one_if, one_less, one_more}
use Rattle.cc_holders.specs.Known.{entry_at}
use Rattle.cc_counted.specs.declared.held.Held.{Held}
use Rattle.cc_counted.specs.declared.held.Held.TheVariants as held
use Rattle.cc_counted.specs.Counts.{Counts, number_at, references_of}
use Rattle.cc_counted.specs.Lists.{Placed, cell_at}

-- BY WHAT A COUNTED HEAP SHOWS

-- a reference is to a script object
abbrev pub is_to_script : Option Name → Bool
is_to_script None = false
is_to_script (Some (name.Native k)) = false
is_to_script (Some (name.Script k)) = true
is_to_script (Some (name.Reflector k)) = false

-- the native at a key refers to a script object
abbrev pub refers_to_script : Counts → ℕ → Bool
refers_to_script c key = list_any is_to_script (references_of c key)

-- THE NEXT NATIVE THAT REFERS TO ONE: of those with a number above another, that with the least
pub record IsNextHolder (c : Counts) (after : Option ℕ) (key : ℕ) : Type 0 where
  pub number : ℕ
  pub there : number_at c key ≡ Some number
  pub above : is_above after number ≡ true
  pub refers : refers_to_script c key ≡ true
  pub least : (q j : ℕ) → number_at c q ≡ Some j → is_above after j ≡ true → refers_to_script c q ≡ true → number ≤ j

-- and there is none
abbrev pub HasNoHolder : Counts → Option ℕ → Type 0
HasNoHolder c after = (q j : ℕ) → number_at c q ≡ Some j → is_above after j ≡ true → refers_to_script c q ≡ false

-- BY THE LISTS

-- a slot holds a script object
abbrev pub is_script : Option Held → Bool
is_script None = false
is_script (Some (held.Native key)) = false
is_script (Some (held.Script key)) = true

-- a native has a reflector, and that is preserved
abbrev pub refers_by_reflector : Placed → Bool
refers_by_reflector c = c.preserved && is_some c.reflector

-- how many script objects it refers to
abbrev pub scripts_of : Placed → ℕ
scripts_of c = count_by is_script c.slots + one_if (refers_by_reflector c)

-- the same of the natives at their keys
pub record IsNextPlaced (cells : List (Option Placed)) (after : Option ℕ) (key : ℕ) : Type 0 where
  pub cell : Placed
  pub there : cell_at cells key ≡ Some cell
  pub above : is_above after cell.number ≡ true
  pub refers : 0 < scripts_of cell
  pub least : (q : ℕ) (c : Placed) → cell_at cells q ≡ Some c → is_above after c.number ≡ true → 0 < scripts_of c → cell.number ≤ c.number

abbrev pub HasNonePlaced : List (Option Placed) → Option ℕ → Type 0
HasNonePlaced cells after = (q : ℕ) (c : Placed) → cell_at cells q ≡ Some c → is_above after c.number ≡ true → scripts_of c ≡ 0

-- THE TABLE KNOWS EACH NATIVE by its number, with its key and how many script objects it refers to, and knows no other
pub record AreKnown (cells : List (Option Placed)) (holders : Holders) : Type 0 where
  pub known : (key : ℕ) (c : Placed) → cell_at cells key ≡ Some c → entry_at holders c.number ≡ Known (scripts_of c) key
  pub there : (n count key : ℕ) → entry_at holders n ≡ Known count key → (c : Placed) × (cell_at cells key ≡ Some c) × (c.number ≡ n)
  pub few : (key : ℕ) (c : Placed) → cell_at cells key ≡ Some c → length c.slots ≤ most_slots

-- where one place of a native referred to a script object before, or does after
abbrev pub recounted : Bool → Bool → Entry → Entry
recounted false false e = e
recounted false true e = one_more e
recounted true false e = one_less e
recounted true true e = e

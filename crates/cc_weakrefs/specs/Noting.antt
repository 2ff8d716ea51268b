-- WHAT WEAK REGISTERS NOTE, by keys and by names.
use Rattle.std.specs.Prelude.{◌≡◌, ℕ, ◌≤◌, Bool, false, not, ◌&&◌, ◌==◌, List, map, Option, Some, None, option_map, option_and_then, slice_index_or, if◌then◌else◌}
use Rattle.cc_lists.specs.Members.{Among}
use Rattle.cc_names.specs.declared.name.Name.{Name}
use Rattle.cc_names.specs.declared.number.NKey.{NKey}
use Rattle.cc_names.specs.declared.number.NativeNo.{NativeNo}
use Rattle.cc_names.specs.Names.{native}
use Rattle.cc_model.specs.Slots.{Slots}
use Rattle.cc_model.specs.Heap.{Heap}
use Rattle.cc_model.specs.Given.{is_usable}
use Rattle.cc_model.specs.WellFormed.{native_names}
use Rattle.cc_counted.specs.Counts.{unlinked_of}
use Rattle.cc_heaps.specs.Keyed.{Keyed, counts_of, number_at}
use Rattle.cc_weakrefs.specs.declared.noted.Noted.{Noted}

abbrev pub noted : NKey → NativeNo → Noted
noted key number = record { key = key; number = number }

-- the number of the native that is noted
abbrev pub number_noted : Noted → ℕ
number_noted n = n.number.0

-- THE NAMES that registers note
abbrev pub name_noted : Option Noted → Option Name
name_noted n = option_map (λ n. native (number_noted n)) n

abbrev pub names_noted : List (Option Noted) → Slots
names_noted weak = map name_noted weak

-- what register w notes, where its native is in the heaps and was not unlinked
abbrev pub if_usable : Heap → Name → Option Name
if_usable h x = if is_usable h x then Some x else None

abbrev pub usable_noted : Heap → Slots → ℕ → Option Name
usable_noted h names w = option_and_then (if_usable h) (slice_index_or names w None)

-- WHAT IS FOUND BY THE KEY: the native there has the number, and was not unlinked
abbrev pub is_number : ℕ → Option ℕ → Bool
is_number k None = false
is_number k (Some j) = j == k

abbrev pub is_found : Keyed → Noted → Bool
is_found v n = is_number (number_noted n) (number_at v n.key.0) && not (unlinked_of (counts_of v) n.key.0)

abbrev pub key_resolved : Keyed → Option Noted → Option NKey
key_resolved v n = option_and_then (λ n. if is_found v n then Some n.key else None) n

-- WHAT IS NOTED BY ITS KEY: its number was made, and where its native is in the heaps, it stands at the key
pub record HoldsKey (v : Keyed) (n : Noted) : Type 0 where
  pub made : (1 ≤ number_noted n) × (number_noted n ≤ v.heap.natives_made)
  pub key : Among (native (number_noted n)) (native_names v.heap) → number_at v n.key.0 ≡ Some (number_noted n)

-- each register that notes a native holds its key
abbrev pub HoldKeys : List (Option Noted) → Keyed → Type 0
HoldKeys weak v = (n : Noted) → Among (Some n) weak → HoldsKey v n

-- NO NATIVE COMES BACK: what is in the heaps was there before, or has a number that was not made before
abbrev pub NoneComesBack : Heap → Heap → Type 0
NoneComesBack old new = (k : ℕ) → k ≤ old.natives_made → Among (native k) (native_names new) → Among (native k) (native_names old)

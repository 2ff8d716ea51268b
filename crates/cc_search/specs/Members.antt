-- WHERE THE ENTRIES OF AN OBJECT STAND: the places, counted from 0, of the entries of which it is the map, the key or the key's
-- delegate.
use Rattle.std.specs.Prelude.{◌≡◌, ℕ, zero, suc, true, false, List, slice_get, Option, Some, None, option_map}
use Rattle.cc_names.specs.declared.name.Name.{Name}
use Rattle.cc_model.specs.Entries.{Entry}
use Rattle.cc_model.specs.Derivations.{is_member}

-- a place of an object is that of an entry of which it is a member
abbrev pub IsPlaceOf : List Entry → Name → ℕ → Type 0
IsPlaceOf es x i = option_map (is_member x) (slice_get es i) ≡ Some true

-- its last place below another; none where it has none there
abbrev pub place_below : List Entry → Name → ℕ → Option ℕ
place_below es x zero = None
place_below es x (suc n) = elim (option_map (is_member x) (slice_get es n)) [
  | None ↦ place_below es x n
  | Some b ↦ elim b [ true ↦ Some n | false ↦ place_below es x n ]
]

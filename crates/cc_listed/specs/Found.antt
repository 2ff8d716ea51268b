-- WHERE NAMES STAND, and the tables by which they are found.
use Rattle.std.specs.Prelude.{◌≡◌, ℕ, Bool, true, false, length, get_or, Option, Some, None}
use Rattle.cc_names.specs.declared.name.Name.{Name}
use Rattle.cc_names.specs.Names.{is_native, is_script}
use Rattle.cc_pages.specs.declared.by_name.ByName.{ByName}
use Rattle.cc_pages.specs.ByName.{place_of}
use Rattle.cc_model.specs.Slots.{Slots, contents}

-- what stands at a place; none where a name was taken out, and past the end
abbrev pub slot_at : Slots → ℕ → Option Name
slot_at places i = get_or places i None

-- the tables have the place of each name that stands somewhere, and of no other
pub record AreFound (places : Slots) (t : ByName) : Type 0 where
  pub here : (i : ℕ) (x : Name) → slot_at places i ≡ Some x → place_of t x ≡ Some i
  pub there : (i : ℕ) (x : Name) → place_of t x ≡ Some i → slot_at places i ≡ Some x

-- and it is known how many there are
pub record AreListed (places : Slots) (t : ByName) (count : ℕ) : Type 0 where
  pub found : AreFound places t
  pub counted : count ≡ length (contents places)

-- whether a name is that of a native, or of a script object
abbrev pub is_of_kind : Bool → Name → Bool
is_of_kind true x = is_native x
is_of_kind false x = is_script x

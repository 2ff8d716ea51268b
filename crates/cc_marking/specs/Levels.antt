-- WHAT HAS AT LEAST A COLOUR, and which entries have yet to give it to their values or their keys.
use Rattle.std.specs.Prelude.{◌≡◌, IsTrue, ℕ, Bool, false, not, ◌&&◌, List, Option, Some, None, map, filter}
use Rattle.cc_lists.specs.Members.{Among}
use Rattle.cc_names.specs.declared.kind.Colour.{Colour}
use Rattle.cc_script.specs.Objects.{Object, AreWhole, colour_at, is_below}
use Rattle.cc_script.specs.Walking.{edges}
use Rattle.cc_weakmaps.specs.Entries.{KeyedEntry}
use Rattle.cc_marking.specs.Joints.{Joint, joints}

-- a colour that is there and isn't below another
abbrev pub is_at_least : Colour → Option Colour → Bool
is_at_least to None = false
is_at_least to (Some colour) = not (is_below colour to)

-- whether the object at a key has at least a colour
abbrev pub has_at_least : Colour → List Object → ℕ → Bool
has_at_least to objects key = is_at_least to (colour_at objects key)

-- the keys at which one has
abbrev pub keys_at_least : Colour → List Object → List ℕ
keys_at_least to objects = filter (has_at_least to objects) (map (λ o. o.key) objects)

-- BEFORE AND AFTER each step of a marking that raises to a colour: slots and delegates are there, what has the colour leads
-- to such alone, and objects at one key have one colour
pub record AreOrdered (to : Colour) (objects : List Object) : Type 0 where
  pub whole : AreWhole objects
  pub closed : (x y : ℕ) → Among (x, y) (edges objects) → IsTrue (has_at_least to objects x) → IsTrue (has_at_least to objects y)
  pub alike : (o : Object) → Among o objects → colour_at objects o.key ≡ Some o.colour

-- whether what a joint gives is still to be raised: the other two have the colour, and it hasn't
abbrev pub is_due : Colour → List Object → Joint → Bool
is_due to objects j = (has_at_least to objects j.the_map && has_at_least to objects j.key) && not (has_at_least to objects j.value)

-- that of none of these is
abbrev pub AreFollowed : Colour → List Object → List KeyedEntry → Type 0
AreFollowed to objects es = (j : Joint) → Among j (joints es) → is_due to objects j ≡ false

-- THE COLOUR ORDER: why marking may stop at an object that has the colour to which it raises.
use Rattle.std.specs.Prelude.{◌≡◌, true, false, ℕ, List, Some}
use Rattle.cc_lists.specs.Members.{Among}
use Rattle.cc_names.specs.declared.kind.Colour.TheVariants.{White}
use Rattle.cc_script.specs.Objects.{Object, object_at, places_of, is_below}

-- no object that isn't white holds one that is not there or has a lower colour
pub record HasColourOrder (objects : List Object) : Type 0 where
  pub held : (o : Object) (q : ℕ) → Among o objects → is_below White o.colour ≡ true → Among (Some q) (places_of o) →
      (d : Object) × (object_at objects q ≡ Some d) × (is_below d.colour o.colour ≡ false)

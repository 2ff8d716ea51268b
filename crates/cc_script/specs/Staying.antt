-- WHAT STAYS THERE, and that all is white.
use Rattle.std.specs.Prelude.{◌≡◌, IsTrue, ℕ, List}
use Rattle.cc_lists.specs.Members.{Among}
use Rattle.cc_names.specs.declared.kind.Colour.TheVariants.{White}
use Rattle.cc_script.specs.Objects.{Object, is_there}

-- what was there is there
abbrev pub StayThere : List Object → List Object → Type 0
StayThere old new = (q : ℕ) → IsTrue (is_there old q) → IsTrue (is_there new q)

abbrev pub AllAreWhite : List Object → Type 0
AllAreWhite objects = (o : Object) → Among o objects → o.colour ≡ White

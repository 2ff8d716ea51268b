-- OBJECTS WHOSE COLOURS ALONE CHANGE: their keys and slots stay, and so what is there.
use Rattle.std.proofs.Common.{◌≡◌, List, [], ◌∷◌, map, refl, ap, arith}
use Rattle.cc_lists.proofs.ListWrites.{map-agree}
use Rattle.cc_names.specs.declared.kind.Colour.{Colour}
use Rattle.cc_script.specs.Objects.{Object, with_colour}

-- each object in the colour that a function gives it
abbrev pub painted : (Object → Colour) → List Object → List Object
painted paint objects = map (λ o. with_colour (paint o) o) objects

pub painted-alike : (f g : Object → Colour) (objects : List Object) → ((o : Object) → f o ≡ g o) → painted f objects ≡ painted g objects
painted-alike f g objects same = grind (arith, map-agree)

-- painted twice
pub painted-twice : (f g : Object → Colour) (objects : List Object) → painted g (painted f objects) ≡ painted (λ o. g (with_colour (f o) o)) objects
painted-twice f g [] = refl
painted-twice f g (o ∷ os) = ap (λ (ys : List Object). with_colour (g (with_colour (f o) o)) o ∷ ys) (painted-twice f g os)

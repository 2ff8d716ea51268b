-- OBJECTS WHILE THEY ARE MARKED IN ONE COLOUR, with the list of those that got it and were not looked into yet.
use Rattle.std.specs.Prelude.{◌≡◌, ◌⊎◌, true, false, ℕ, List, [], ◌∷◌, Some}
use Rattle.cc_lists.specs.Members.{Among}
use Rattle.cc_names.specs.declared.kind.Colour.{Colour}
use Rattle.cc_names.specs.declared.kind.Colour.TheVariants.{White}
use Rattle.cc_script.specs.Objects.{Object, object_at, colour_at, places_at, places_of, is_below}
use Rattle.cc_script.specs.Marking.{Marking, raise_key, raise_each}

-- the objects, the marking list by keys, and the colour
pub record Underway : Type 0 where
  pub objects : List Object
  pub waiting : List ℕ
  pub to : Colour

abbrev pub marks_of : Underway → Marking
marks_of u = record { objects = u.objects; waiting = u.waiting }

abbrev pub with_marks : Underway → Marking → Underway
with_marks u m = record { objects = m.objects; waiting = m.waiting; to = u.to }

-- an object that has a lower colour gets this one, and goes last on the list
abbrev pub started : ℕ → Underway → Underway
started key u = with_marks u (raise_key u.to key (marks_of u))

-- the first leaves the list, and what its slots hold is started, in rising order, and its delegate then
abbrev pub with_first_looked_into : Colour → Marking → Marking
with_first_looked_into to m = elim m.waiting [
  | [] ↦ m
  | key ∷ rest ↦ raise_each to (places_at m.objects key) (record { objects = m.objects; waiting = rest })
]

abbrev pub looked_into : Underway → Underway
looked_into u = with_marks u (with_first_looked_into u.to (marks_of u))

-- no object that isn't white holds one that is not there or has a lower colour, but for those that are exempt
abbrev pub IsOrderedBut : (ℕ → Type 0) → List Object → Type 0
IsOrderedBut exempt objects = (o : Object) (q : ℕ) → Among o objects → is_below White o.colour ≡ true → Among (Some q) (places_of o) →
    exempt o.key ⊎ ((d : Object) × (object_at objects q ≡ Some d) × (is_below d.colour o.colour ≡ false))

-- what waits has the colour, and only what waits may hold what is lower
pub record IsMarked (to : Colour) (m : Marking) : Type 0 where
  pub coloured : (k : ℕ) → Among k m.waiting → colour_at m.objects k ≡ Some to
  pub ordered : IsOrderedBut (λ k. Among k m.waiting) m.objects

-- A WALK THAT RAISES: the objects, and the keys of those that were raised and not looked into yet.
use Rattle.std.specs.Prelude.{◌≡◌, Bool, true, false, ℕ, ◌+◌, ◌*◌, List, [], ◌∷◌, ◌++◌, length, count_by, Option, Some, None}
use Rattle.cc_lists.specs.Members.{Among}
use Rattle.cc_names.specs.declared.kind.Colour.{Colour}
use Rattle.cc_script.specs.Objects.{Object, object_at, is_below, raised, change_object}

pub record Marking : Type 0 where
  pub objects : List Object
  pub waiting : List ℕ

-- whether there is an object, and it is below a colour
abbrev pub is_lower : Colour → Option Object → Bool
is_lower to None = false
is_lower to (Some o) = is_below o.colour to

-- the object at a key raised where it is below, which waits last then
abbrev pub raise_key : Colour → ℕ → Marking → Marking
raise_key to key m = elim (is_lower to (object_at m.objects key)) [
  | true ↦ record { objects = change_object m.objects key (raised to); waiting = m.waiting ++ key ∷ [] }
  | false ↦ m
]

-- the same of what a slot holds
abbrev pub raise_slot : Colour → Option ℕ → Marking → Marking
raise_slot to None m = m
raise_slot to (Some key) m = raise_key to key m

-- of each of these slots, one after another
abbrev pub raise_each : Colour → List (Option ℕ) → Marking → Marking
raise_each to [] m = m
raise_each to (x ∷ xs) m = raise_each to xs (raise_slot to x m)

-- how many objects are below a colour
abbrev pub count_lower : Colour → List Object → ℕ
count_lower to objects = count_by (λ o. is_below o.colour to) objects

-- what is left to be done: it falls with each object that is looked into
abbrev pub to_do : Colour → Marking → ℕ
to_do to m = length m.waiting + 2 * count_lower to m.objects

-- each object that waits was raised, so none is raised and waits twice
abbrev pub AreRaised : Colour → Marking → Type 0
AreRaised to m = (key : ℕ) → Among key m.waiting → is_lower to (object_at m.objects key) ≡ false

-- THE NEW MARKS, while a marking goes on in slices: what an exposure blackens by them, and how they become the colours.
use Rattle.std.specs.Prelude.{ℕ, ◌==◌, Bool, false, ◌&&◌, List, [], ◌∷◌, map, filter, Some, None, if◌then◌else◌}
use Rattle.cc_lists.specs.Members.{has}
use Rattle.cc_lists.specs.Least.{Rule, system, closure}
use Rattle.cc_names.specs.declared.kind.Colour.TheVariants.{Black}
use Rattle.cc_script.specs.Objects.{Object, is_below, new_mark_at, with_new_mark}
use Rattle.cc_script.specs.Walking.{edges}

-- whether there is an object at a key, and it is not black by the new mark
abbrev pub is_unblack : List Object → ℕ → Bool
is_unblack objects key = elim (new_mark_at objects key) [ None ↦ false | Some mark ↦ is_below mark Black ]

-- from such an object to another such object, in the places over which marking goes
abbrev pub edges_unblack : List Object → List (ℕ × ℕ)
edges_unblack objects = filter (λ e. is_unblack objects e.0 && is_unblack objects e.1) (edges objects)

-- from this key, past objects that are not black by the new mark
abbrev pub exposure_rules_by_mark : List Object → ℕ → List (Rule ℕ)
exposure_rules_by_mark objects key = system (filter (is_unblack objects) (key ∷ [])) (edges_unblack objects) []

-- THE KEYS of the objects that an exposure comes to, which were not black by the new mark
abbrev pub keys_to_blacken : List Object → ℕ → List ℕ
keys_to_blacken objects key = closure ◌==◌ (exposure_rules_by_mark objects key)

-- the objects at these keys black by the new mark
abbrev pub newly_blackened : List ℕ → List Object → List Object
newly_blackened keys objects = map (λ o. if has ◌==◌ keys o.key then with_new_mark Black o else o) objects

-- THE NEW MARK BECOMES THE COLOUR, and the colour the new mark
abbrev pub exchanged : Object → Object
exchanged o = record o { colour = o.new_mark; new_mark = o.colour }

-- WHAT AN OBJECT REACHES OVER SLOTS, and from proxies to their delegates, by keys: a set by rules, and the same as a list.
use Rattle.std.specs.Prelude.{ℕ, ◌==◌, List, [], map, flat_map, option_to_list}
use Rattle.cc_lists.specs.Least.{Rule, Least, system, closure}
use Rattle.cc_script.specs.Objects.{Object, places_of}

-- from the key of an object to each key in the places over which marking goes
abbrev pub slot_edges : Object → List (ℕ × ℕ)
slot_edges o = map (λ q. (o.key, q)) (flat_map option_to_list (places_of o))

abbrev pub edges : List Object → List (ℕ × ℕ)
edges objects = flat_map slot_edges objects

-- from these keys over these places
abbrev pub reach_rules : List Object → List ℕ → List (Rule ℕ)
reach_rules objects keys = system keys (edges objects) []

-- THE SET of the keys that are reached
abbrev pub IsReachedOverSlots : List Object → List ℕ → ℕ → Type 0
IsReachedOverSlots objects keys = Least (reach_rules objects keys)

-- and the same as a list
abbrev pub keys_reached : List Object → List ℕ → List ℕ
keys_reached objects keys = closure ◌==◌ (reach_rules objects keys)

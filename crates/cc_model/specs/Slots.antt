-- Slots of objects: places that each hold a name or nothing.
use Rattle.std.specs.Prelude.{ℕ, ◌-◌, List, ◌++◌, flat_map, length, Option, None, option_to_list, replicate}
use Rattle.cc_names.specs.declared.name.Name.{Name}

-- what an object holds in its slots, in order
abbrev pub Slots : Type 0
Slots = List (Option Name)

-- what is there, empty ones left out
abbrev pub contents : Slots → List Name
contents slots = flat_map option_to_list slots

abbrev pub empty_slots : ℕ → Slots
empty_slots n = replicate n None

-- with n places at least: empty ones come behind the others
abbrev pub lengthened : Slots → ℕ → Slots
lengthened slots n = slots ++ empty_slots (n - length slots)

-- how many slots a reflector has
abbrev pub reflector_slots : ℕ
reflector_slots = 4

-- an edge, by what has it and what it leads to
abbrev pub from_to : Name → Name → Name × Name
from_to x y = (x, y)

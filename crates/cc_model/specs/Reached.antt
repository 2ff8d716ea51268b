-- What the registers of the graph reach.
use Rattle.std.specs.Prelude.{◌≡◌, ℕ, ◌+◌, List, [], ◌∷◌, ◌++◌, map, flat_map, Some}
use Rattle.cc_lists.specs.Members.{Among}
use Rattle.cc_lists.specs.Least.{Rule, system, closure}
use Rattle.cc_names.specs.declared.name.Name.{Name}
use Rattle.cc_names.specs.declared.register.Reg.{Reg}
use Rattle.cc_names.specs.Names.{native, object, reflector, same_name}
use Rattle.cc_model.specs.Banks.{over_banks}
use Rattle.cc_model.specs.Slots.{contents, from_to}
use Rattle.cc_model.specs.Entries.{Entry, joints, rules_of}
use Rattle.cc_model.specs.Checks.{slots_or_none}
use Rattle.cc_model.specs.Graph.{Graph, bank, register}
use Rattle.cc_model.specs.Places.{places_made}

-- THE EDGES of an object, by occurrence: what its places hold; what was never made has none
abbrev pub edges_of : Graph → Name → List Name
edges_of g x = contents (slots_or_none (places_made g x))

-- THE REACHED NAMES: the least set that has the names in the registers, is closed under edges,
-- has the value of each entry whose map and key it has, and the key of each entry whose key is a proxy and whose map and
-- delegate it has
pub data Reached (g : Graph) : Name → Type 0 where
  held : (r : Reg) (x : Name) → register g r ≡ Some x → Reached g x
  edge : (x y : Name) → Reached g x → Among y (edges_of g x) → Reached g y
  value : (e : Entry) → Among e g.entries → Reached g e.the_map → Reached g e.key → Reached g e.value
  key : (e : Entry) (d : Name) → Among e g.entries → e.delegate ≡ Some d → Reached g e.the_map → Reached g d → Reached g e.key

-- The same set as a list

-- a number for each member, rising by one
abbrev pub numbers_from : {X : Type 0} → ℕ → List X → List ℕ
numbers_from k [] = []
numbers_from k (x ∷ xs) = k ∷ numbers_from (k + 1) xs

abbrev pub with_reflector : ℕ → List Name
with_reflector k = native k ∷ reflector k ∷ []

-- the names of all objects, and of the reflectors that may come
abbrev pub names_of : Graph → List Name
names_of g = flat_map with_reflector (numbers_from 1 g.natives) ++ map object (numbers_from 1 g.scripts)

-- all edges, each with what has it; what was never made has none
abbrev pub edges_from : Graph → Name → List (Name × Name)
edges_from g x = map (from_to x) (edges_of g x)

abbrev pub all_edges : Graph → List (Name × Name)
all_edges g = flat_map (edges_from g) (names_of g)

abbrev pub roots_of : Graph → List Name
roots_of g = over_banks (λ b. contents (bank g b))

abbrev pub reach_rules : Graph → List (Rule Name)
reach_rules g = system (roots_of g) (all_edges g) (rules_of (joints g.entries))

-- a name stands in the list once for each rule that gives it
abbrev pub reached_names : Graph → List Name
reached_names g = closure same_name (reach_rules g)

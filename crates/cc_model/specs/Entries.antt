-- Entries of weak maps.
use Rattle.std.specs.Prelude.{Bool, true, false, not, ◌&&◌, List, [], ◌∷◌, ◌++◌, map, filter, flat_map, Option, Some, None}
use Rattle.cc_names.specs.declared.name.Name.{Name}
use Rattle.cc_names.specs.Names.{same_name}
use Rattle.cc_names.specs.Places.{joint_rule}

-- a key has a value in a map; where the key is a proxy, its delegate stands with it
pub record Entry : Type 0 where
  pub the_map : Name
  pub key : Name
  pub delegate : Option Name
  pub value : Name

abbrev pub entry : Name → Name → Option Name → Name → Entry
entry m k d v = record { the_map = m; key = k; delegate = d; value = v }

-- whether it is the entry of a map and a key
abbrev pub is_entry_of : Name → Name → Entry → Bool
is_entry_of m k e = same_name e.the_map m && same_name e.key k

-- the value of a map and a key
abbrev pub value_in : List Entry → Name → Name → Option Name
value_in [] m k = None
value_in (e ∷ es) m k = elim (is_entry_of m k e) [ true ↦ Some e.value | false ↦ value_in es m k ]

-- a replaced value keeps the entry's place; a new entry goes last
abbrev pub with_entry : List Entry → Name → Name → Option Name → Name → List Entry
with_entry [] m k d v = entry m k d v ∷ []
with_entry (e ∷ es) m k d v = elim (is_entry_of m k e) [ true ↦ entry m k d v ∷ es | false ↦ e ∷ with_entry es m k d v ]

-- later ones close up
abbrev pub without_entry : List Entry → Name → Name → List Entry
without_entry es m k = filter (λ e. not (is_entry_of m k e)) es

-- WHAT AN ENTRY GIVES, as joints: two members that together lead to a third
pub record Joint : Type 0 where
  pub the_map : Name
  pub key : Name
  pub value : Name

abbrev pub joint : Name → Name → Name → Joint
joint m k v = record { the_map = m; key = k; value = v }

-- map and delegate together lead to the key
abbrev pub key_joint : Name → Option Name → Name → List Joint
key_joint m None k = []
key_joint m (Some d) k = joint m d k ∷ []

-- and map and key to the value
abbrev pub joints_of : Entry → List Joint
joints_of e = key_joint e.the_map e.delegate e.key ++ joint e.the_map e.key e.value ∷ []

abbrev pub joints : List Entry → List Joint
joints es = flat_map joints_of es

-- joints as rules
abbrev pub rule_of : Joint → List Name × Name
rule_of j = joint_rule j.the_map j.key j.value

abbrev pub rules_of : List Joint → List (List Name × Name)
rules_of js = map rule_of js

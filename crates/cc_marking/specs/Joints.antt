-- WHAT ENTRIES GIVE, as joints: two objects that together lead to a third, by keys.
use Rattle.std.specs.Prelude.{ℕ, List, [], ◌∷◌, ◌++◌, Option, Some, None, map, flat_map}
use Rattle.cc_names.specs.Places.{joint_rule}
use Rattle.cc_weakmaps.specs.Entries.{KeyedEntry}

pub record Joint : Type 0 where
  pub the_map : ℕ
  pub key : ℕ
  pub value : ℕ

abbrev pub joint : ℕ → ℕ → ℕ → Joint
joint m k v = record { the_map = m; key = k; value = v }

-- map and delegate together lead to the key, where there is a delegate,
abbrev pub key_joint : ℕ → Option ℕ → ℕ → List Joint
key_joint m None k = []
key_joint m (Some d) k = joint m d k ∷ []

-- and map and key to the value
abbrev pub joints_of : KeyedEntry → List Joint
joints_of e = key_joint e.the_map e.delegate e.key ++ joint e.the_map e.key e.value ∷ []

abbrev pub joints : List KeyedEntry → List Joint
joints es = flat_map joints_of es

-- joints as rules
abbrev pub rule_of : Joint → List ℕ × ℕ
rule_of j = joint_rule j.the_map j.key j.value

abbrev pub rules_of : List Joint → List (List ℕ × ℕ)
rules_of js = map rule_of js

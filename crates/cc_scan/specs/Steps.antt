-- THE STEPS OF A SCAN: values of mappings become black one after another.
use Rattle.std.specs.Prelude.{ℕ, ◌==◌, ◌&&◌, Bool, true, false, List, [], ◌∷◌, Option, Some, None}
use Rattle.cc_lists.specs.Members.{has}
use Rattle.cc_graph.specs.Shown.{Hyperedge, with_black}

-- whether a member of a mapping, its map or its key, is black or no node
abbrev pub is_met : List ℕ → Option ℕ → Bool
is_met blacks None = true
is_met blacks (Some i) = has ◌==◌ blacks i

-- the value of a mapping is black too, where its map and its key are met
abbrev pub with_value : List ℕ → Hyperedge → List ℕ
with_value blacks m = elim (is_met blacks m.the_map && is_met blacks m.key) [ true ↦ with_black blacks m.value | false ↦ blacks ]

-- so for each mapping, one after another
abbrev pub with_values : List ℕ → List Hyperedge → List ℕ
with_values blacks [] = blacks
with_values blacks (m ∷ ms) = with_values (with_value blacks m) ms

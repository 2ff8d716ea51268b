-- A PASS OVER THE NATIVES THAT ARE NODES, by rising number: where it stands, and what is left of it.
use Rattle.std.specs.Prelude.{◌≡◌, ℕ, ◌==◌, List, [], count_by, flat_map, Option, Some, None, IfSome, option_map}
use Rattle.cc_lists.specs.Members.{with_all_last}
use Rattle.cc_lists.specs.Walks.{is_above}
use Rattle.cc_names.specs.Names.{natives_in}
use Rattle.cc_graph.specs.Shown.{Shown}
use Rattle.cc_heaps.specs.Keyed.{Keyed, number_at}
use Rattle.cc_unlink.specs.declared.ends.White.{White}

-- THE NATIVES THAT ARE NODES, each once
unfoldable pub native_nodes : Shown → List ℕ
native_nodes g = with_all_last ◌==◌ [] (flat_map (λ v. natives_in v.name) g.nodes)

-- how many of them have a number above; where there is none, all
abbrev pub nodes_above : Shown → Option ℕ → ℕ
nodes_above g at = count_by (is_above at) (native_nodes g)

-- how many are left of a pass behind where it stands; where it stands at none, it is at its end
abbrev pub nodes_behind : Shown → Option ℕ → ℕ
nodes_behind g None = 0
nodes_behind g (Some k) = nodes_above g (Some k)

-- the number of a white native, if there is one
abbrev pub number_in : Option White → Option ℕ
number_in white = option_map (λ w. w.number.0) white

-- it stands at its key
abbrev pub IsAt : Keyed → Option White → Type 0
IsAt v white = IfSome white (λ w. number_at v w.key.0 ≡ Some w.number.0)

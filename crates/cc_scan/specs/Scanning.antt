-- WHAT BECOMES BLACK BY A SCAN, by the numbers of nodes.
use Rattle.std.specs.Prelude.{ℕ, Bool, false, List, ◌++◌, map, Option, Some, None, nat_lt, option_to_list}
use Rattle.cc_lists.specs.Least.{Rule, system}
use Rattle.cc_graph.specs.Shown.{Edge, Hyperedge, Shown, edges_to}
use Rattle.cc_graph.specs.Numbers.{numbers_where}

-- whether more references were sampled than are noted to the node
abbrev pub exceeds : ℕ → Option ℕ → Bool
exceeds noted None = false
exceeds noted (Some n) = nat_lt noted n

-- the nodes that are held from elsewhere
abbrev pub held_elsewhere : Shown → List ℕ
held_elsewhere g = numbers_where (λ i v. exceeds (edges_to g.edges i) v.sampled) 0 g.nodes

abbrev pub edge_pair : Edge → ℕ × ℕ
edge_pair e = (e.source, e.target)

-- a mapping as a rule: its map and its key, where they are nodes, together give its value
abbrev pub hyperedge_rule : Hyperedge → List ℕ × ℕ
hyperedge_rule m = (option_to_list m.the_map ++ option_to_list m.key, m.value)

-- what is black is black still; so is what is held from elsewhere, what a black node's noted references lead to, and the
-- value of a noted mapping whose map and key are each black or no node
abbrev pub scan_rules : Shown → List (Rule ℕ)
scan_rules g = system (g.blacks ++ held_elsewhere g) (map edge_pair g.edges) (map hyperedge_rule g.hyperedges)

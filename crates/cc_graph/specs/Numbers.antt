-- THE NUMBERS OF NODES that pass a test.
use Rattle.std.specs.Prelude.{ℕ, suc, Bool, true, false, List, [], ◌∷◌}
use Rattle.cc_graph.specs.Shown.{Vertex}

-- the numbers of the nodes from i on that pass a test of their number and the node
abbrev pub numbers_where : (ℕ → Vertex → Bool) → ℕ → List Vertex → List ℕ
numbers_where p i [] = []
numbers_where p i (v ∷ vs) = elim (p i v) [ true ↦ i ∷ numbers_where p (suc i) vs | false ↦ numbers_where p (suc i) vs ]

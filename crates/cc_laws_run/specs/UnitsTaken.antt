-- HOW MANY UNITS A RUNNING COLLECTION HAS TAKEN, read off its snapshot.
use Rattle.std.specs.Prelude.{ℕ, zero, suc, Bool, not, List, count_by, Option, Some, None}
use Rattle.cc_model.specs.Snapshot.{Node, Snapshot}
use Rattle.cc_model.specs.Units.{is_untraversed}

-- a node is behind where it was traversed, or is gone
abbrev pub is_behind : Node → Bool
is_behind n = not (is_untraversed n.state)

abbrev pub nodes_behind : List Node → ℕ
nodes_behind ns = count_by is_behind ns

-- its begin, and one for each node that is behind
abbrev pub units_taken : Option Snapshot → ℕ
units_taken None = zero
units_taken (Some s) = suc (nodes_behind s.nodes)

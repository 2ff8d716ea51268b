-- WHICH NODES WERE TOUCHED since the collection began.
use Rattle.std.specs.Prelude.{ℕ, Bool, true, false, List}
use Rattle.cc_lists.specs.Members.{has}
use Rattle.cc_names.specs.declared.name.Name.{Name}
use Rattle.cc_names.specs.Names.{same_name, is_native}
use Rattle.cc_model.specs.Heap.{Heap}
use Rattle.cc_model.specs.View.{View, view}
use Rattle.cc_graph.specs.Shown.{Shown}
use Rattle.cc_graph.specs.Numbers.{numbers_where}

-- whether a native stands in the buffer, or a script object is black
abbrev pub is_touched : View → Name → Bool
is_touched v x = elim (is_native x) [ true ↦ has same_name v.buffer x | false ↦ has same_name v.black x ]

-- the nodes whose native stands in the buffer, or whose script object is black
abbrev pub touched : Shown → Heap → List ℕ
touched g h = numbers_where (λ i v. is_touched (view h) v.name) 0 g.nodes

-- THAT NODES HAVE KEYS.
use Rattle.cc_lists.specs.Members.{Among}
use Rattle.cc_names.specs.declared.name.Name.{Name}
use Rattle.cc_counted.specs.declared.held.Held.{Held}
use Rattle.cc_graph.specs.Shown.{Vertex, Shown}

-- each node has the key of its object, by what having a key means for heaps
abbrev pub AreHeld : Shown → (Name → Held → Type 0) → Type 0
AreHeld g has_key = (n : Vertex) → Among n g.nodes → has_key n.name n.held

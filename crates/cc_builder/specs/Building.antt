-- A SNAPSHOT THAT IS BEING BUILT, by the graph that holds it.
use Rattle.std.specs.Prelude.{◌≡◌, ℕ, zero, suc, ◌+◌, ◌≤◌, ◌<◌, true, false, List, [], ◌∷◌, map, take, drop, flat_map, length, count_by, Option, Some, None, option_map, slice_index_or}
use Rattle.cc_lists.specs.Members.{Among}
use Rattle.cc_names.specs.declared.name.Name.{Name}
use Rattle.cc_names.specs.declared.name.Name.TheVariants as name
use Rattle.cc_names.specs.Names.{native, is_native, natives_in, same_name}
use Rattle.cc_model.specs.Heap.{Heap}
use Rattle.cc_model.specs.WellFormed.{script_names}
use Rattle.cc_model.specs.Snapshot.{NodeState, untraversed, gone, traversed, Node, Mapping, Snapshot, snapshot_by}
use Rattle.cc_model.specs.Units.{first_untraversed, to_note, after_node}
use Rattle.cc_model.specs.Fresh.{node}
use Rattle.cc_graph.specs.Shown.{Vertex, Edge, Hyperedge, Shown}
use Rattle.cc_graph.specs.Closed.{AreHyperedgesWithin}
use Rattle.cc_heaps.specs.Keyed.{Keyed}

-- the graph; the first nodes are the candidates; the nodes before `next` are traversed or gone
pub record Built : Type 0 where
  pub graph : Shown
  pub candidates : ℕ
  pub next : ℕ

-- a native that was traversed has its count sampled
abbrev pub state_by_sample : Option ℕ → NodeState
state_by_sample None = gone
state_by_sample (Some n) = traversed (Some n)

abbrev pub state_behind : Vertex → NodeState
state_behind v = elim (is_native v.name) [ true ↦ state_by_sample v.sampled | false ↦ traversed None ]

abbrev pub node_with : NodeState → Vertex → Node
node_with state v = node v.name state

-- the nodes, of which so many are behind
abbrev pub nodes_of : ℕ → List Vertex → List Node
nodes_of next [] = []
nodes_of zero (v ∷ vs) = node_with untraversed v ∷ nodes_of zero vs
nodes_of (suc next) (v ∷ vs) = node_with (state_behind v) v ∷ nodes_of next vs

abbrev pub vertex_names : List Vertex → List Name
vertex_names vs = map (λ v. v.name) vs

-- the name of a node by its number
abbrev pub vertex_name : List Vertex → ℕ → Name
vertex_name vs i = slice_index_or (vertex_names vs) i (native 0)

abbrev pub reference_of : List Vertex → Edge → Name × Name
reference_of vs e = (vertex_name vs e.source, vertex_name vs e.target)

-- a noted mapping by names
abbrev pub mapping_of : List Vertex → Hyperedge → Mapping
mapping_of vs m = record { the_map = option_map (vertex_name vs) m.the_map; key = option_map (vertex_name vs) m.key; value = vertex_name vs m.value }

-- THE SNAPSHOT that a graph holds
abbrev pub snapshot_of : Built → Snapshot
snapshot_of b = snapshot_by (flat_map natives_in (vertex_names (take b.candidates b.graph.nodes))) (nodes_of b.next b.graph.nodes) (map (reference_of b.graph.nodes) b.graph.edges) (map (mapping_of b.graph.nodes) b.graph.hyperedges)

-- an object that was made: a native whose number was given, or a script object that is in the heaps
abbrev pub WasMade : Heap → Name → Type 0
WasMade h (name.Native k) = (1 ≤ k.0) × (k.0 ≤ h.natives_made)
WasMade h (name.Script k) = Among (name.Script k) (script_names h)
WasMade h (name.Reflector k) = Among (name.Reflector k) (script_names h)

-- a script object has no count
abbrev pub HasNoSample : Vertex → Type 0
HasNoSample n = is_native n.name ≡ false → n.sampled ≡ None

-- a graph that is being built over these heaps
pub record IsBuilt (b : Built) (v : Keyed) : Type 0 where
  -- each node is that of an object that was made, and no two are of one name; so there are no more than such objects
  pub distinct : (x : Name) → count_by (λ n. same_name n.name x) b.graph.nodes ≤ 1
  pub made : (n : Vertex) → Among n b.graph.nodes → WasMade v.heap n.name
  pub few : length b.graph.nodes ≤ v.heap.natives_made + length v.heap.scripts
  pub behind : b.next ≤ length b.graph.nodes
  pub first : b.candidates ≤ length b.graph.nodes
  pub closed : (e : Edge) → Among e b.graph.edges → (e.source < length b.graph.nodes) × (e.target < length b.graph.nodes)
  pub mapped : AreHyperedgesWithin (length b.graph.nodes) b.graph.hyperedges
  pub no_blacks : b.graph.blacks ≡ []
  -- a node that is not behind has no sample yet
  pub unsampled : (n : Vertex) → Among n (drop b.next b.graph.nodes) → n.sampled ≡ None
  -- and none has a script object's
  pub uncounted : (n : Vertex) → Among n b.graph.nodes → HasNoSample n

-- the unit of a node, from one snapshot to the next
pub record IsNodeUnit (h : Heap) (old new : Snapshot) : Type 0 where
  pub node : Name
  pub first_one : first_untraversed old.nodes ≡ Some node
  pub after : new ≡ after_node h old node (to_note h node)

-- THE GRAPH OF A COLLECTION AS LISTS: nodes by number, noted references, noted mappings, and which nodes are black.
use Rattle.std.specs.Prelude.{◌≡◌, ℕ, suc, ◌+◌, ◌==◌, Bool, true, false, ◌&&◌, ◌||◌, List, [], ◌∷◌, ◌++◌, drop, count_by, position, slice_get, slice_set, Option, Some, None, is_none, option_map}
use Rattle.cc_lists.specs.Members.{has, with_last}
use Rattle.cc_names.specs.declared.name.Name.{Name}
use Rattle.cc_names.specs.Names.{same_name}
use Rattle.cc_counted.specs.declared.held.Held.{Held}

-- the object's name, where it stands in its heap, and its sampled count where it is a native that was traversed
pub record Vertex : Type 0 where
  pub name : Name
  pub held : Held
  pub sampled : Option ℕ

abbrev pub vertex : Name → Held → Vertex
vertex name held = record { name = name; held = held; sampled = None }

-- a noted reference: the numbers of the node that has it, and of the one that it leads to
pub record Edge : Type 0 where
  pub source : ℕ
  pub target : ℕ

-- a noted mapping: the numbers of the nodes of a map and of a key, each where it is a node, and of the value that they
-- hold together
pub record Hyperedge : Type 0 where
  pub the_map : Option ℕ
  pub key : Option ℕ
  pub value : ℕ

abbrev pub hyperedge : Option ℕ → Option ℕ → ℕ → Hyperedge
hyperedge the_map key value = record { the_map = the_map; key = key; value = value }

-- how many nodes, black nodes and mappings there is room for in all
pub record Rooms : Type 0 where
  pub nodes : ℕ
  pub blacks : ℕ
  pub mappings : ℕ

abbrev pub no_room : Rooms
no_room = record { nodes = 0; blacks = 0; mappings = 0 }

-- nodes are known by their place, from 0; references and mappings in the order in which they were noted, with repeats; the
-- black nodes in the order in which they became so, each once; how many more references there is room for; and the room
-- for the others
pub record Shown : Type 0 where
  pub nodes : List Vertex
  pub edges : List Edge
  pub hyperedges : List Hyperedge
  pub blacks : List ℕ
  pub spare : ℕ
  pub room : Rooms

-- that there is nothing in it
pub record IsEmpty (g : Shown) : Type 0 where
  pub nodes : g.nodes ≡ []
  pub edges : g.edges ≡ []
  pub hyperedges : g.hyperedges ≡ []
  pub blacks : g.blacks ≡ []

-- the number of the first node of a name, counted on from a number
abbrev pub number_from : ℕ → List Vertex → Name → Option ℕ
number_from i [] x = None
number_from i (v ∷ vs) x = elim (same_name v.name x) [ true ↦ Some i | false ↦ number_from (suc i) vs x ]

abbrev pub number_of : List Vertex → Name → Option ℕ
number_of vs x = number_from 0 vs x

-- a node of a name goes last, where there is none
abbrev pub with_vertex : List Vertex → Name → Held → List Vertex
with_vertex vs x held = elim (number_of vs x) [ Some i ↦ vs | None ↦ vs ++ vertex x held ∷ [] ]

abbrev pub with_sample : ℕ → Vertex → Vertex
with_sample count v = record v { sampled = Some count }

-- the node at a place changed
abbrev pub change_vertex : List Vertex → ℕ → (Vertex → Vertex) → List Vertex
change_vertex vs i f = elim (slice_get vs i) [ None ↦ vs | Some v ↦ slice_set vs i (f v) ]

-- how many noted references lead to a node
abbrev pub edges_to : List Edge → ℕ → ℕ
edges_to es i = count_by (λ e. e.target == i) es

abbrev pub is_black : Shown → ℕ → Bool
is_black g i = has ◌==◌ g.blacks i

-- a node goes last on the list of black ones, once
abbrev pub with_black : List ℕ → ℕ → List ℕ
with_black blacks i = with_last ◌==◌ blacks i

-- the first place, from a place on, of an element that passes a test
abbrev pub place_by : {X : Type 0} → (X → Bool) → List X → ℕ → Option ℕ
place_by p xs start = option_map (λ k. start + k) (position p (drop start xs))

-- the first place, from a place on, of a reference that a node has
abbrev pub place_from : List Edge → ℕ → ℕ → Option ℕ
place_from es i start = place_by (λ e. e.source == i) es start

-- whether a member of a mapping, its map or its key, is this node
abbrev pub is_node : Option ℕ → ℕ → Bool
is_node None i = false
is_node (Some k) i = k == i

-- whether a node is the map or the key of a mapping; and for none, whether the mapping has neither a map nor a key
abbrev pub is_with : Option ℕ → Hyperedge → Bool
is_with None m = is_none m.the_map && is_none m.key
is_with (Some i) m = is_node m.the_map i || is_node m.key i

-- the first place, from a place on, of a mapping of which a node is the map or the key; and for none, of one that has
-- neither
abbrev pub place_with : List Hyperedge → Option ℕ → ℕ → Option ℕ
place_with ms node start = place_by (is_with node) ms start

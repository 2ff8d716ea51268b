-- WHAT IS KEPT OF EACH NODE AND REFERENCE, so that no list has to be walked for it.
use Rattle.std.specs.Prelude.{◌≡◌, ℕ, ◌+◌, ◌-◌, ◌<◌, ◌≤◌, ◌^◌, ◌==◌, min, Bool, true, false, List, [], ◌∷◌, ◌++◌, length, get_or, count_by, map, slice_get, slice_set, Option, Some, None, option_map}
use Rattle.cc_lists.specs.Members.{Among, has}
use Rattle.cc_names.specs.declared.name.Name.{Name}
use Rattle.cc_names.specs.declared.name.Name.TheVariants.{Native, Script, Reflector}
use Rattle.cc_pages.specs.Values.{value_at}
use Rattle.cc_counted.specs.declared.held.Held.{Held}
use Rattle.cc_graph.specs.declared.chain.Chain.{Chain}
use Rattle.cc_graph.specs.declared.mapping.Mapping.{Mapping}
use Rattle.cc_graph.specs.declared.node.Node.{Node}
use Rattle.cc_graph.specs.declared.numbers.Numbers.{Numbers}
use Rattle.cc_graph.specs.declared.reference.Reference.{Reference}
use Rattle.cc_graph.specs.Shown.{Vertex, Edge, Hyperedge, hyperedge, edges_to, number_of, place_by, is_with}
use Rattle.cc_graph.specs.Closed.{IsWithin, AreHyperedgesWithin}

-- CHAINS: of the elements of a list that pass a test the places of the first and the last are kept, and for each of them
-- the place of the next

-- of none
abbrev pub no_chain : Chain
no_chain = record { first = None; last = None }

-- with one more, behind all that there are
abbrev pub chained : Chain → ℕ → Chain
chained c place = record { first = elim c.first [ Some i ↦ Some i | None ↦ Some place ]; last = Some place }

-- the elements, where the one at a place, if any, has this one for its next
abbrev pub with_link : {I : Type 0} → (I → ℕ → I) → List I → Option ℕ → ℕ → List I
with_link set_next is None place = is
with_link set_next is (Some l) place = elim (slice_get is l) [ None ↦ is | Some r ↦ slice_set is l (set_next r place) ]

-- the last of those that pass: none where none passes
abbrev pub IsLast : {X : Type 0} → (X → Bool) → List X → Option ℕ → Type 0
IsLast p xs None = place_by p xs 0 ≡ None
IsLast p xs (Some l) = (option_map p (slice_get xs l) ≡ Some true) × (place_by p xs (l + 1) ≡ None)

-- what is kept is right, for the list as it is shown: of one that is shown longer the next may be kept already
pub record IsChain {X I : Type 0} (shown : I → X) (p : X → Bool) (next : I → Option ℕ) (xs : List X) (is : List I) (c : Chain) : Type 0 where
  pub first : c.first ≡ place_by p xs 0
  pub last : IsLast p xs c.last
  pub links : (j : ℕ) (d : I) → j < length is → p (shown (get_or is j d)) ≡ true → next (get_or is j d) ≡ place_by p xs (j + 1)

-- NODES

-- a node that was just added
abbrev pub added : Name → Held → Node
added name held = record { name = name; held = held; sampled = None; black = false; noted = 0; references = no_chain; mappings = no_chain }

-- the nodes, of which the one with a number is black
abbrev pub with_black_node : List Node → ℕ → List Node
with_black_node ks i = elim (slice_get ks i) [ None ↦ ks | Some k ↦ slice_set ks i (record k { black = true }) ]

-- a node that has one more reference, and one that is the map or the key of one more mapping, behind all others
abbrev pub with_reference : Node → ℕ → Node
with_reference k place = record k { references = chained k.references place }

abbrev pub with_mapping : Node → ℕ → Node
with_mapping k place = record k { mappings = chained k.mappings place }

-- REFERENCES

-- the references, where the one at a place, if any, has this one for its next
abbrev pub with_next : List Reference → Option ℕ → ℕ → List Reference
with_next rs o place = with_link (λ r n. record r { next = Some n }) rs o place

-- how many more references there is room for: places have 32 bits
abbrev pub spare_of : ℕ → ℕ → ℕ
spare_of capacity count = min capacity 4294967295 - count

-- what is shown of a node, and of a reference
abbrev pub vertex_of : Node → Vertex
vertex_of k = record { name = k.name; held = k.held; sampled = k.sampled }

abbrev pub edge_of : Reference → Edge
edge_of r = record { source = r.source; target = r.target }

-- nodes and references as they are shown
abbrev pub vertices : List Node → List Vertex
vertices ks = map vertex_of ks

abbrev pub edges : List Reference → List Edge
edges rs = map edge_of rs

-- Nodes by number and by name

-- the nodes and the black ones, and how many of each there is room for
pub record Numbered : Type 0 where
  pub nodes : List Node
  pub blacks : List ℕ
  pub node_room : ℕ
  pub black_room : ℕ

-- the nodes with one more last, where there is none of its name
abbrev pub with_node : List Node → Name → Held → List Node
with_node ks name held = elim (number_of (vertices ks) name) [ Some i ↦ ks | None ↦ ks ++ added name held ∷ [] ]

-- the number that is kept for a name
abbrev pub number_at : Numbers → Name → Option ℕ
number_at ns (Native k) = value_at ns.natives k.0
number_at ns (Script k) = value_at ns.scripts k.0
number_at ns (Reflector k) = value_at ns.reflectors k.0

-- the tables have the numbers of all nodes and no other, each node knows whether it is black, and there is room for all to
-- become so
pub record IsNumbered (nodes : List Node) (blacks : List ℕ) (room : ℕ) (numbers : Numbers) : Type 0 where
  pub few : length nodes < 2 ^ 32
  pub numbered : (x : Name) → number_at numbers x ≡ number_of (vertices nodes) x
  pub black : (i : ℕ) (d : Node) → i < length nodes → (get_or nodes i d).black ≡ has ◌==◌ blacks i
  pub members : (i : ℕ) → Among i blacks → i < length nodes
  pub counted : length blacks ≡ count_by (λ k. k.black) nodes
  pub enough : length nodes ≤ room

-- References by the node that has them

abbrev pub AreReferences : ℕ → List Edge → List Reference → Chain → Type 0
AreReferences i es rs c = IsChain edge_of (λ e. e.source == i) (λ r. r.next) es rs c

-- Mappings by the nodes of their map and key

-- whether two nodes are the same, or both are none
abbrev pub same_node : Option ℕ → Option ℕ → Bool
same_node None None = true
same_node (Some i) (Some k) = i == k
same_node _ _ = false

-- what is shown of a mapping
abbrev pub hyperedge_of : Mapping → Hyperedge
hyperedge_of m = hyperedge m.the_map m.key m.value

abbrev pub hyperedges : List Mapping → List Hyperedge
hyperedges ms = map hyperedge_of ms

-- A mapping with both stands in two chains, its map's and its key's; where they are the same node in one, the map's. One
-- that has neither stands in the chain of those, as if none were its map.

-- the next one with a node, and with another next one
abbrev pub next_with : Option ℕ → Mapping → Option ℕ
next_with node m = elim (same_node m.the_map node) [ true ↦ m.next_of_map | false ↦ m.next_of_key ]

abbrev pub with_next_with : Option ℕ → Mapping → ℕ → Mapping
with_next_with node m place = elim (same_node m.the_map node) [ true ↦ record m { next_of_map = Some place } | false ↦ record m { next_of_key = Some place } ]

-- the first of the nodes with which a mapping is chained, and whether there is no second
abbrev pub first_member : Option ℕ → Option ℕ → Option ℕ
first_member None key = key
first_member (Some i) key = Some i

abbrev pub is_one : Option ℕ → Option ℕ → Bool
is_one (Some i) (Some k) = i == k
is_one _ _ = true

-- the chain of a node, and for none that of the mappings with neither a map nor a key
abbrev pub chain_of : List Node → Chain → Option ℕ → Option Chain
chain_of ks loose None = Some loose
chain_of ks loose (Some i) = option_map (λ k. k.mappings) (slice_get ks i)

-- its last
abbrev pub last_of : Option Chain → Option ℕ
last_of None = None
last_of (Some c) = c.last

-- one more goes last in it
abbrev pub nodes_with : List Node → Option ℕ → ℕ → List Node
nodes_with ks None place = ks
nodes_with ks (Some i) place = elim (slice_get ks i) [ None ↦ ks | Some k ↦ slice_set ks i (with_mapping k place) ]

abbrev pub loose_with : Chain → Option ℕ → ℕ → Chain
loose_with loose None place = chained loose place
loose_with loose (Some i) place = loose

-- all chains are right, each for the mappings that are shown to it
abbrev pub AreMappings : (Option ℕ → Option Chain) → (Option ℕ → List Hyperedge) → List Mapping → Type 0
AreMappings chain shown ms = (node : Option ℕ) (c : Chain) → chain node ≡ Some c → IsChain hyperedge_of (is_with node) (next_with node) (shown node) ms c

-- what is kept of nodes but for the chains of their mappings
abbrev pub but_mapping : Node → Node
but_mapping k = record k { mappings = no_chain }

abbrev pub but_mappings : List Node → List Node
but_mappings ks = map but_mapping ks

-- So it is for each, and references, black nodes and mappings are between nodes
pub record IsWhole (nodes : List Node) (references : List Reference) (mappings : List Mapping) (loose : Chain) (blacks : List ℕ) : Type 0 where
  pub few : length nodes < 2 ^ 32
  pub noted : (i : ℕ) (d : Node) → i < length nodes → (get_or nodes i d).noted ≡ edges_to (edges references) i
  pub referring : (i : ℕ) (d : Node) → i < length nodes → AreReferences i (edges references) references (get_or nodes i d).references
  pub mapping : AreMappings (chain_of nodes loose) (λ node. hyperedges mappings) mappings
  pub within : IsWithin (length nodes) (edges references) blacks
  pub mapped : AreHyperedgesWithin (length nodes) (hyperedges mappings)

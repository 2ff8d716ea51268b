-- The first units of a collection: its begin, and one node.
use Rattle.std.specs.Prelude.{ℕ, Bool, true, false, ◌||◌, List, [], ◌∷◌, ◌++◌, map, filter, flat_map, Option, Some, None, option_map, option_to_list}
use Rattle.std.specs.List.{list_any}
use Rattle.cc_lists.specs.Members.{has, with_all_last}
use Rattle.cc_names.specs.declared.name.Name.{Name}
use Rattle.cc_names.specs.declared.name.Name.TheVariants as name
use Rattle.cc_names.specs.Names.{native, same_name, is_native}
use Rattle.cc_model.specs.Slots.{contents, from_to}
use Rattle.cc_model.specs.Entries.{Joint, joints}
use Rattle.cc_model.specs.Heap.{Heap, HeapNative, native_at, is_gray_in}
use Rattle.cc_model.specs.Places.{places_of_native, places_in}
use Rattle.cc_model.specs.Snapshot.{NodeState, untraversed, gone, traversed, Node, Mapping, Snapshot, snapshot_by}

-- Begin

-- the purple natives, in buffer order
abbrev pub candidates_of : Heap → List ℕ
candidates_of h = map (λ b. b.number) (filter (λ b. b.purple) h.buffer)

abbrev pub holds_gray : Heap → HeapNative → Bool
holds_gray h n = list_any (is_gray_in h) (contents (places_of_native n))

-- the natives that refer to a gray object, by rising number
abbrev pub holders_of : Heap → List Name
holders_of h = map (λ n. native n.number) (filter (holds_gray h) h.natives)

abbrev pub if_gray : Heap → Name → Option Name
if_gray h x = elim (is_gray_in h x) [ true ↦ Some x | false ↦ None ]

abbrev pub mapping_of : Heap → Joint → Mapping
mapping_of h e = record { the_map = if_gray h e.the_map; key = if_gray h e.key; value = e.value }

-- one for each joint that gives a gray object, in their order: of an entry first that of a key that is a gray proxy
abbrev pub mappings_of : Heap → List Mapping
mappings_of h = map (mapping_of h) (filter (λ e. is_gray_in h e.value) (joints h.entries))

-- the members that become nodes: map, key, value
abbrev pub members_of : Mapping → List Name
members_of m = option_to_list m.the_map ++ (option_to_list m.key ++ m.value ∷ [])

-- candidates, then holders, then members of mappings, each name once
abbrev pub first_names : Heap → List Name
first_names h = with_all_last same_name [] (map native (candidates_of h) ++ (holders_of h ++ flat_map members_of (mappings_of h)))

abbrev pub new_node : Name → Node
new_node x = record { name = x; state = untraversed }

-- A SNAPSHOT BEGUN
abbrev pub begun : Heap → Snapshot
begun h = snapshot_by (candidates_of h) (map new_node (first_names h)) [] (mappings_of h)

-- and the heaps after it
abbrev pub with_empty_buffer : Heap → Heap
with_empty_buffer h = record h { buffer = [] }

-- One node

abbrev pub is_untraversed : NodeState → Bool
is_untraversed untraversed = true
is_untraversed gone = false
is_untraversed (traversed n) = false

-- the first node that is not traversed
abbrev pub first_untraversed : List Node → Option Name
first_untraversed [] = None
first_untraversed (n ∷ ns) = elim (is_untraversed n.state) [ true ↦ Some n.name | false ↦ first_untraversed ns ]

-- what an object that is there refers to, in the order of its places
abbrev pub edges_in : Heap → Name → Option (List Name)
edges_in h x = option_map contents (places_in h x)

-- natives and gray objects are noted
abbrev pub is_noted : Heap → Name → Bool
is_noted h y = is_native y || is_gray_in h y

-- what the unit of a node notes; none where its object is no more
abbrev pub to_note : Heap → Name → Option (List Name)
to_note h x = option_map (filter (is_noted h)) (edges_in h x)

-- the count of a native now; none of a script object
abbrev pub sample : Heap → Name → Option ℕ
sample h (name.Native k) = option_map (λ n. n.count) (native_at h k.0)
sample h (name.Script k) = None
sample h (name.Reflector k) = None

-- the first untraversed node gets a state
abbrev pub with_state : NodeState → List Node → List Node
with_state state [] = []
with_state state (n ∷ ns) = elim (is_untraversed n.state) [ true ↦ record n { state = state } ∷ ns | false ↦ n ∷ with_state state ns ]

-- a node at the end of the list, where there is none of its name
abbrev pub with_node : List Node → Name → List Node
with_node ns x = elim (has same_name (map (λ n. n.name) ns) x) [ true ↦ ns | false ↦ ns ++ new_node x ∷ [] ]

abbrev pub with_nodes : List Node → List Name → List Node
with_nodes ns [] = ns
with_nodes ns (x ∷ xs) = with_nodes (with_node ns x) xs

-- node x traversed, which notes a reference to each of ys
abbrev pub noted : Snapshot → Name → NodeState → List Name → Snapshot
noted s x state ys = record s {
  nodes = with_nodes (with_state state s.nodes) ys;
  references = s.references ++ map (from_to x) ys;
}

-- a node whose object is no more
abbrev pub passed_over : Snapshot → Snapshot
passed_over s = record s { nodes = with_state gone s.nodes }

-- THE SNAPSHOT AFTER THE UNIT OF NODE x
abbrev pub after_node : Heap → Snapshot → Name → Option (List Name) → Snapshot
after_node h s x None = passed_over s
after_node h s x (Some ys) = noted s x (traversed (sample h x)) ys

-- Tests that a snapshot is fresh, and that no unreached native is forgotten.
use Rattle.std.specs.Prelude.{ℕ, Bool, true, false, not, ◌&&◌, ◌||◌, ◌==◌, List, [], ◌++◌, map, length, count_by, Option, Some, None, if◌then◌else◌, nat_le}
use Rattle.std.specs.List.{list_all, list_any}
use Rattle.cc_lists.specs.Members.{has}
use Rattle.cc_lists.specs.Least.{system, closure}
use Rattle.cc_names.specs.declared.name.Name.{Name}
use Rattle.cc_names.specs.Names.{native, same_name, is_native, is_script, number_of}
use Rattle.cc_model.specs.Entries.{Joint}
use Rattle.cc_model.specs.View.{View, between, scripts_there}
use Rattle.cc_model.specs.Snapshot.{Snapshot, Node, NodeState, Mapping, untraversed, gone, traversed, node_names}
use Rattle.cc_model.specs.Units.{members_of}
use Rattle.cc_model.specs.Fresh.{done_first}
use Rattle.cc_model.specs.Suspected.{is_unreached, unreached_scripts}

-- whether all names of the first list are in the second
abbrev pub all_among : List Name → List Name → Bool
all_among xs ys = list_all (has same_name ys) xs

-- Colours between two commands

abbrev pub is_black_to_gray : View → Name × Name → Bool
is_black_to_gray v e = has same_name v.black e.0 && has same_name v.gray e.1

abbrev pub is_native_or_black : View → Name → Bool
is_native_or_black v x = is_native x || has same_name v.black x

-- whether no black object holds a gray one, the registers hold no gray one, and none is white
abbrev pub has_no_black_to_gray : View → Bool
has_no_black_to_gray v =
    not (list_any (is_black_to_gray v) v.edges)
    && (list_all (is_native_or_black v) v.registers
    && length v.white == 0)

-- Fresh

abbrev pub is_traversed : NodeState → Bool
is_traversed untraversed = false
is_traversed gone = false
is_traversed (traversed sampled) = true

abbrev pub is_gone : NodeState → Bool
is_gone untraversed = false
is_gone gone = true
is_gone (traversed sampled) = false

-- whether a node's sampled count is c, where it was traversed
abbrev pub is_sampled_as : ℕ → NodeState → Bool
is_sampled_as c untraversed = true
is_sampled_as c gone = true
is_sampled_as c (traversed None) = false
is_sampled_as c (traversed (Some n)) = n == c

-- whether as many references from a node to u are noted as its object holds, where it was traversed
abbrev pub is_noted_as_held : View → Snapshot → Name → Node → Bool
is_noted_as_held v s u n =
    not (is_traversed n.state) || count_by (between n.name u) s.references == count_by (between n.name u) v.edges

-- whether the snapshot is right about a native, given with its count, where that is not in the buffer
abbrev pub native_is_fresh : View → Snapshot → Name × ℕ → Bool
native_is_fresh v s u =
    has same_name v.buffer u.0
    || (list_all (λ n. not (same_name n.name u.0) || is_sampled_as u.1 n.state) s.nodes
    && list_all (is_noted_as_held v s u.0) s.nodes)

-- whether two pairs of names are the same
abbrev pub same_reference : Name × Name → Name × Name → Bool
same_reference p r = same_name p.0 r.0 && same_name p.1 r.1

abbrev pub is_noted : Snapshot → Name × Name → Bool
is_noted s e = list_any (same_reference e) s.references

-- whether an edge to a gray object is noted where it is from a traversed node, and from a node where it is from a native
abbrev pub edge_is_fresh : View → Snapshot → Name × Name → Bool
edge_is_fresh v s e =
    not (has same_name v.gray e.1)
    || (list_all (λ n. not (is_traversed n.state && same_name n.name e.0) || is_noted s e) s.nodes
    && (not (is_native e.0) || has same_name (node_names s) e.0))

-- whether a mapping's member is x, or there is none and x is black
abbrev pub is_member_of : View → Option Name → Name → Bool
is_member_of v None x = has same_name v.black x
is_member_of v (Some member) x = same_name member x

abbrev pub is_mapping_of : View → Joint → Mapping → Bool
is_mapping_of v e m = same_name m.value e.value && (is_member_of v m.the_map e.the_map && is_member_of v m.key e.key)

-- whether a joint that gives a gray object has a mapping
abbrev pub joint_is_fresh : View → Snapshot → Joint → Bool
joint_is_fresh v s e = not (has same_name v.gray e.value) || list_any (is_mapping_of v e) s.mappings

abbrev pub notes_nothing : Snapshot → Name → Bool
notes_nothing s x = not (list_any (λ r. same_name r.0 x) s.references)

-- whether a number is one of those made so far
abbrev pub is_made : ℕ → ℕ → Bool
is_made made k = nat_le 1 k && nat_le k made

-- whether a name is a native that was made and is no more
abbrev pub is_dead_native : ℕ → View → Name → Bool
is_dead_native made v x = is_native x && (is_made made (number_of x) && not (has same_name (map (λ n. n.0) v.natives) x))

-- whether a name is a native that was made, or a script object that is there
abbrev pub was_made_or_there : ℕ → View → Name → Bool
was_made_or_there made v x = if is_native x then is_made made (number_of x) else has same_name (scripts_there v) x

abbrev pub node_is_fresh : ℕ → View → Snapshot → Node → Bool
node_is_fresh made v s n =
    count_by (same_name n.name) (node_names s) == 1
    && (was_made_or_there made v n.name
    && ((is_traversed n.state || notes_nothing s n.name)
    && (not (is_gone n.state) || is_dead_native made v n.name)))

abbrev pub reference_is_fresh : Snapshot → Name × Name → Bool
reference_is_fresh s r = has same_name (node_names s) r.0 && has same_name (node_names s) r.1

abbrev pub mapping_is_fresh : Snapshot → Mapping → Bool
mapping_is_fresh s m = is_script m.value && all_among (members_of m) (node_names s)

abbrev pub has_all_nodes : Snapshot → Bool
has_all_nodes s =
    list_all (reference_is_fresh s) s.references
    && (list_all (mapping_is_fresh s) s.mappings
    && all_among (map native s.candidates) (node_names s))

-- WHETHER A SNAPSHOT IS FRESH
abbrev pub is_fresh : ℕ → View → Snapshot → Bool
is_fresh made v s =
    list_all (native_is_fresh v s) v.natives
    && (list_all (edge_is_fresh v s) v.edges
    && (list_all (joint_is_fresh v s) v.joints
    && (has_no_black_to_gray v
    && (has_all_nodes s
    && (list_all (node_is_fresh made v s) s.nodes
    && done_first s.nodes)))))

-- Suspected

abbrev pub covered_names : View → List Name
covered_names v = closure same_name (system (v.purple ++ unreached_scripts v) v.edges [])

abbrev pub names_from_candidates : View → List ℕ → List Name
names_from_candidates v candidates = closure same_name (system (map native candidates) v.edges [])

-- whether a native is reached, covered, or outside the buffer and reached from a candidate
abbrev pub is_looked_after : View → List ℕ → Name → Bool
is_looked_after v candidates x =
    not (is_unreached v x)
    || (has same_name (covered_names v) x
    || (not (has same_name v.buffer x) && has same_name (names_from_candidates v candidates) x))

-- WHETHER NO UNREACHED NATIVE IS FORGOTTEN
abbrev pub is_suspected : View → List ℕ → Bool
is_suspected v candidates = list_all (λ n. is_looked_after v candidates n.0) v.natives

-- Both, for the collection that runs, or none

abbrev pub collection_is_right : ℕ → View → Option Snapshot → Bool
collection_is_right made v None = is_suspected v []
collection_is_right made v (Some s) = is_suspected v s.candidates && is_fresh made v s

-- The steps by which a snapshot is built.
use Rattle.std.specs.Prelude.{◌≡◌, ℕ, ◌+◌, ◌-◌, ◌<◌, length, IfSome, option_map, true, false, List, [], ◌∷◌, ◌++◌, map, filter, flat_map, Option, Some, None, option_to_list, slice_get, slice_index_or}
use Rattle.cc_names.specs.declared.name.Name.{Name}
use Rattle.cc_names.specs.Names.{native}
use Rattle.cc_model.specs.Slots.{from_to}
use Rattle.cc_model.specs.Entries.{Entry, Joint, joint, key_joint, joints_of}
use Rattle.cc_model.specs.Heap.{Heap, is_gray_in}
use Rattle.cc_model.specs.Snapshot.{Mapping, Snapshot}
use Rattle.cc_model.specs.Units.{with_nodes, if_gray, is_noted, mapping_of}
use Rattle.cc_counted.specs.declared.held.Held.{Held}
use Rattle.cc_counted.specs.declared.held.Held.TheVariants as held
use Rattle.cc_counted.specs.Counts as counts
use Rattle.cc_graph.specs.Shown.{Vertex, Hyperedge, Rooms, with_vertex, with_sample, change_vertex}
use Rattle.cc_script.specs.Objects.{Object}
use Rattle.cc_heaps.specs.Keyed.{Keyed, counts_of, name_held, named_entry, the_name_at}
use Rattle.cc_heaps.specs.Changes.{held_name}
use Rattle.cc_heaps.specs.Places.{places_at}
use Rattle.cc_counted.specs.Suspects.{is_purple_in}
use Rattle.cc_builder.specs.Building.{Built, vertex_name}

-- the name of an object that is there
abbrev pub the_name : Keyed → Held → Name
the_name v object = elim (held_name v (Some object)) [ None ↦ native 0 | Some x ↦ x ]

-- its count, where it is a native
abbrev pub sample_of : Keyed → Held → Option ℕ
sample_of v (held.Native key) = Some (counts.count_of (counts_of v) key.0)
sample_of v (held.Script key) = None

-- what a place has, where a reference to it is noted: one name or none
abbrev pub noted_content : Heap → Option Name → List Name
noted_content h x = filter (is_noted h) (option_to_list x)

abbrev pub noted_place : Keyed → Held → ℕ → List Name
noted_place v object i = noted_content v.heap (slice_index_or (places_at v object) i None)

-- all that an object's places have so, in order
abbrev pub contents_at : Keyed → Held → List Name
contents_at v object = flat_map (noted_content v.heap) (places_at v object)

-- the name of native k where it is purple in the buffer
abbrev pub purple_name : Heap → ℕ → List Name
purple_name h k = elim (is_purple_in h.buffer k) [ true ↦ native k ∷ [] | false ↦ [] ]

-- an object as a node, last, where it is none; and so much room
abbrev pub with_vertex_of : Built → Name → Held → Rooms → Built
with_vertex_of b x held room = record b { graph = record b.graph { nodes = with_vertex b.graph.nodes x held; room = room } }

-- a reference noted last, for which there was room
abbrev pub with_reference : Built → ℕ → ℕ → Built
with_reference b source target = record b { graph = record b.graph { edges = b.graph.edges ++ record { source = source; target = target } ∷ []; spare = b.graph.spare - 1 } }

-- a mapping noted last; and room for so many
abbrev pub with_mapping : Built → Hyperedge → ℕ → Built
with_mapping b m mappings = record b { graph = record b.graph { hyperedges = b.graph.hyperedges ++ m ∷ []; room = record b.graph.room { mappings = mappings } } }

-- room for other so many references
abbrev pub with_room : ℕ → Built → Built
with_room spare b = record b { graph = record b.graph { spare = spare } }

-- the node at a place with its count sampled, where there is one
abbrev pub sampled_at : List Vertex → ℕ → Option ℕ → List Vertex
sampled_at vs i None = vs
sampled_at vs i (Some count) = change_vertex vs i (with_sample count)

-- the first node that is not behind has its count sampled, where it is a native, and is behind
abbrev pub with_next_passed : Option ℕ → Built → Built
with_next_passed count b = record b { graph = record b.graph { nodes = sampled_at b.graph.nodes b.next count }; next = b.next + 1 }

-- references of x to each of ys noted, which become nodes, last, where they are none
abbrev pub noting : Snapshot → Name → List Name → Snapshot
noting s x ys = record s { nodes = with_nodes s.nodes ys; references = s.references ++ map (from_to x) ys }

abbrev pub noting_one : Snapshot → Name → Name → Snapshot
noting_one s x y = noting s x (y ∷ [])

-- the mappings of a joint: one where it gives a gray object, else none
abbrev pub mappings_in : Heap → Joint → List Mapping
mappings_in h e = elim (is_gray_in h e.value) [ true ↦ mapping_of h e ∷ [] | false ↦ [] ]

-- those of an entry
abbrev pub entry_mappings : Heap → Entry → List Mapping
entry_mappings h e = flat_map (mappings_in h) (joints_of e)

-- those of the entry at a place
abbrev pub mappings_at : Keyed → ℕ → List Mapping
mappings_at v i = elim (slice_get v.entries i) [ None ↦ [] | Some e ↦ entry_mappings v.heap (named_entry v.scripts e) ]

-- the joint of what stands at three keys
abbrev pub named_joint : List Object → ℕ → ℕ → ℕ → Joint
named_joint objects m k x = joint (the_name_at objects m) (the_name_at objects k) (the_name_at objects x)

-- the mappings of a key by its map and its delegate
abbrev pub key_mappings : Keyed → ℕ → Option ℕ → ℕ → List Mapping
key_mappings v m d k = flat_map (mappings_in v.heap) (key_joint (the_name_at v.scripts m) (name_held v.scripts d) (the_name_at v.scripts k))

-- the number of the node of a map by its key: none where the map is not gray
pub record IsMapNode (v : Keyed) (vs : List Vertex) (key : ℕ) (node : Option ℕ) : Type 0 where
  pub number : option_map (vertex_name vs) node ≡ if_gray v.heap (the_name_at v.scripts key)
  pub within : IfSome node (λ i. i < length vs)

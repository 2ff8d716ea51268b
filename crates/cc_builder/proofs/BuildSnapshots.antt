-- The snapshot that a graph holds, after each step of its building.
use Rattle.std.proofs.Common.{◌≡◌, ℕ, ◌+◌, ◌<◌, ◌≤◌, true, List, [], ◌∷◌, ◌++◌, map, length, take, Option, Some, None, refl, sym, ◌∙◌, ap, subst, add-one, slice_get, slice_index_or}
use Rattle.std.specs.List.{flat_map}
use Rattle.std.proofs.lemmas.List.{map_push, take-map}
use Rattle.cc_lists.specs.Members.{Among}
use Rattle.cc_names.specs.declared.name.Name.{Name}
use Rattle.cc_names.specs.Names.{native, is_native, natives_in}
use Rattle.cc_model.specs.Snapshot.{Mapping, Node, Snapshot, traversed, snapshot_by}
use Rattle.cc_model.specs.Units.{with_state, with_node, passed_over}
use Rattle.cc_counted.specs.declared.held.Held.{Held}
use Rattle.cc_graph.specs.Shown.{Vertex, Edge, Hyperedge, Rooms, vertex, number_of, with_vertex}
use Rattle.cc_graph.specs.Closed.{AreHyperedgesWithin}
use Rattle.cc_builder.specs.Building.{Built, vertex_names, vertex_name, nodes_of, reference_of, mapping_of, snapshot_of}
use Rattle.cc_builder.specs.BuildSteps.{with_vertex_of, with_reference, with_next_passed, sampled_at, noting_one}
use Rattle.cc_builder.proofs.BuildNodes.{with_vertex-either, references-append, mapping_by, mappings-alike, first-append, vertex_name-append, number_of-at}
use Rattle.cc_builder.proofs.BuildStates.{IsSampleOf, nodes-with_vertex, nodes-traversed, nodes-passed, names-passed}

pub snapshot-same : (cs ds : List ℕ) (ns os : List Node) (rs qs : List (Name × Name)) (ms ls : List Mapping) → cs ≡ ds → ns ≡ os → rs ≡ qs → ms ≡ ls →
    snapshot_by cs ns rs ms ≡ snapshot_by ds os qs ls
snapshot-same cs ds ns os rs qs ms ls e f g h =
    ap (λ c. snapshot_by c ns rs ms) e ∙ ap (λ n. snapshot_by ds n rs ms) f ∙ ap (λ r. snapshot_by ds os r ms) g ∙ ap (λ m. snapshot_by ds os qs m) h

-- THE NODES CLOSE THE REFERENCES AND THE MAPPINGS, as the building keeps it
pub record HasEndsWithin (b : Built) : Type 0 where
  pub behind : b.next ≤ length b.graph.nodes
  pub first : b.candidates ≤ length b.graph.nodes
  pub closed : (e : Edge) → Among e b.graph.edges → (e.source < length b.graph.nodes) × (e.target < length b.graph.nodes)
  pub mapped : AreHyperedgesWithin (length b.graph.nodes) b.graph.hyperedges

-- a node keeps its name
vertex_name-with_vertex : (vs : List Vertex) (x : Name) (held : Held) (i : ℕ) → i < length vs → vertex_name (with_vertex vs x held) i ≡ vertex_name vs i
vertex_name-with_vertex vs x held i l = with_vertex-either (λ ws. vertex_name ws i ≡ vertex_name vs i) vs x held (λ _. refl) (λ _. vertex_name-append vs (vertex x held ∷ []) i l)

-- an object becomes a node
snapshot-with_vertex_of : (b : Built) (x : Name) (held : Held) (room : Rooms) → HasEndsWithin b →
    snapshot_of (with_vertex_of b x held room) ≡ record (snapshot_of b) { nodes = with_node (snapshot_of b).nodes x }
snapshot-with_vertex_of b x held room c =
    let vs = b.graph.nodes in
    let ws = with_vertex vs x held in
    snapshot-same
    (flat_map natives_in (vertex_names (take b.candidates ws))) (flat_map natives_in (vertex_names (take b.candidates vs)))
    (nodes_of b.next ws) (with_node (nodes_of b.next vs) x)
    (map (reference_of ws) b.graph.edges) (map (reference_of vs) b.graph.edges)
    (map (mapping_of ws) b.graph.hyperedges) (map (mapping_of vs) b.graph.hyperedges)
    (ap (flat_map natives_in) (with_vertex-either (λ us. vertex_names (take b.candidates us) ≡ vertex_names (take b.candidates vs)) vs x held
    (λ _. refl) (λ _. first-append vs (vertex x held ∷ []) b.candidates c.first)))
    (nodes-with_vertex b.next vs x held c.behind)
    (with_vertex-either (λ us. map (reference_of us) b.graph.edges ≡ map (reference_of vs) b.graph.edges) vs x held
    (λ _. refl) (λ _. references-append vs (vertex x held ∷ []) b.graph.edges c.closed))
    (mappings-alike vs ws b.graph.hyperedges c.mapped (λ i l. vertex_name-with_vertex vs x held i l))

-- a reference is noted
snapshot-with_reference : (b : Built) (i j : ℕ) →
    snapshot_of (with_reference b i j) ≡ record (snapshot_of b) { references = (snapshot_of b).references ++ (vertex_name b.graph.nodes i, vertex_name b.graph.nodes j) ∷ [] }
snapshot-with_reference b i j =
    let e : Edge = record { source = i; target = j } in
    ap (λ rs. record (snapshot_of b) { references = rs }) (map_push (reference_of b.graph.nodes) b.graph.edges e)

-- references and first nodes go by names
references-names : (vs ws : List Vertex) (es : List Edge) → vertex_names ws ≡ vertex_names vs → map (reference_of ws) es ≡ map (reference_of vs) es
references-names vs ws es e = ap (λ xs. map (λ (r : Edge). (slice_index_or xs r.source (native 0), slice_index_or xs r.target (native 0))) es) e

mappings-names : (vs ws : List Vertex) (ms : List Hyperedge) → vertex_names ws ≡ vertex_names vs → map (mapping_of ws) ms ≡ map (mapping_of vs) ms
mappings-names vs ws ms e = ap (λ xs. map (mapping_by (λ i. slice_index_or xs i (native 0))) ms) e

pub first-names : (vs ws : List Vertex) (n : ℕ) → vertex_names ws ≡ vertex_names vs → vertex_names (take n ws) ≡ vertex_names (take n vs)
first-names vs ws n e = sym (take-map (λ (v : Vertex). v.name) n ws) ∙ ap (take n) e ∙ take-map (λ (v : Vertex). v.name) n vs

-- the next node is traversed
pub snapshot-traversed : (b : Built) (count : Option ℕ) → b.next < length b.graph.nodes → IsSampleOf count (vertex_name b.graph.nodes b.next) →
    snapshot_of (with_next_passed count b) ≡ record (snapshot_of b) { nodes = with_state (traversed count) (snapshot_of b).nodes }
snapshot-traversed b count l e =
    let vs = b.graph.nodes in
    let ws = sampled_at vs b.next count in
    let names = names-passed vs b.next count in
    snapshot-same
    (flat_map natives_in (vertex_names (take b.candidates ws))) (flat_map natives_in (vertex_names (take b.candidates vs)))
    (nodes_of (b.next + 1) ws) (with_state (traversed count) (nodes_of b.next vs))
    (map (reference_of ws) b.graph.edges) (map (reference_of vs) b.graph.edges)
    (map (mapping_of ws) b.graph.hyperedges) (map (mapping_of vs) b.graph.hyperedges)
    (ap (flat_map natives_in) (first-names vs ws b.candidates names))
    (ap (λ n. nodes_of n ws) (add-one b.next) ∙ nodes-traversed b.next vs count l e)
    (references-names vs ws b.graph.edges names)
    (mappings-names vs ws b.graph.hyperedges names)

-- the next node is passed over
pub snapshot-passed : (b : Built) (v : Vertex) → slice_get b.graph.nodes b.next ≡ Some v → is_native v.name ≡ true → v.sampled ≡ None →
    snapshot_of (record b { next = b.next + 1 }) ≡ passed_over (snapshot_of b)
snapshot-passed b v at e f =
    ap (λ ns. record (snapshot_of b) { nodes = ns }) (ap (λ n. nodes_of n b.graph.nodes) (add-one b.next) ∙ nodes-passed b.next b.graph.nodes v at e f)

-- An object becomes a node, and a reference to it is noted

abbrev referred : Snapshot → Name → Name → Snapshot
referred s x y = record s { references = s.references ++ (x, y) ∷ [] }

pub snapshot-noted : (b c : Built) (x : Name) (held : Held) (i j : ℕ) {room : Rooms} → c ≡ with_vertex_of b x held room → HasEndsWithin b → i < length b.graph.nodes →
    number_of c.graph.nodes x ≡ Some j → snapshot_of (with_reference c i j) ≡ noting_one (snapshot_of b) (vertex_name b.graph.nodes i) x
snapshot-noted b c x held i j {room} same closed l found =
    let d = with_vertex_of b x held room in
    let ws = d.graph.nodes in
    let at : vertex_name ws j ≡ x = (number_of-at ws x j (subst (λ (a : Built). number_of a.graph.nodes x ≡ Some j) same found)).1 in
    ap (λ (a : Built). snapshot_of (with_reference a i j)) same
    ∙ snapshot-with_reference d i j
    ∙ ap (λ s. referred s (vertex_name ws i) (vertex_name ws j)) (snapshot-with_vertex_of b x held room closed)
    ∙ ap (λ y. referred (record (snapshot_of b) { nodes = with_node (snapshot_of b).nodes x }) y (vertex_name ws j)) (vertex_name-with_vertex b.graph.nodes x held i l)
    ∙ ap (λ y. referred (record (snapshot_of b) { nodes = with_node (snapshot_of b).nodes x }) (vertex_name b.graph.nodes i) y) at

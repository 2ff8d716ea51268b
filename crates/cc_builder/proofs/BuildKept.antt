-- What each step of a building keeps.
use Rattle.std.proofs.Common.{◌≡◌, ℕ, ◌-◌, ◌<◌, ◌≤◌, false, List, [], ◌∷◌, ◌++◌, length, drop, Some, None, option_map, refl, sym, ◌∙◌, ap, subst, ⊎_elim, arith, count_by, length-append}
use Rattle.std.proofs.lemmas.Bool.{true≢false}
use Rattle.std.proofs.lemmas.List.{drop-append-le}
use Rattle.cc_lists.specs.Members.{Among}
use Rattle.cc_lists.proofs.Members.{Among-map, Among-append}
use Rattle.cc_lists.proofs.Counting.{count_by-map}
use Rattle.cc_lists.proofs.ListWrites.{each-push}
use Rattle.cc_lists.proofs.CountsOf.{count_by-agree}
use Rattle.cc_lists.proofs.OnceEach.{with_all_last-once}
use Rattle.cc_names.specs.declared.name.Name.{Name}
use Rattle.cc_names.specs.declared.name.Name.TheVariants as name
use Rattle.cc_names.specs.Names.{native, is_native, number_of, same_name}
use Rattle.cc_names.proofs.NameTests.{same_name-exact}
use Rattle.cc_model.specs.Heap.{Heap, HeapScript}
use Rattle.cc_model.specs.WellFormed.{script_names}
use Rattle.cc_laws_heap.proofs.Face.{native_at-number, same_name-sym}
use Rattle.cc_counted.specs.declared.held.Held.{Held}
use Rattle.cc_counted.specs.declared.held.Held.TheVariants as held
use Rattle.cc_graph.specs.Shown.{Rooms, Shown, Vertex, Edge, Hyperedge, vertex, with_vertex}
use Rattle.cc_graph.specs.Closed.{IsHyperedgeWithin}
use Rattle.cc_script.specs.Objects.{Object}
use Rattle.cc_heaps.specs.Keyed.{Keyed, IsInOrder, named_object}
use Rattle.cc_heaps.specs.Changes.{IsThere}
use Rattle.cc_builder.specs.Building.{Built, vertex_names, IsBuilt, WasMade}
use Rattle.cc_graph.specs.Held.{AreHeld}
use Rattle.cc_heaps.specs.HasKey.{HasKey}
use Rattle.cc_builder.specs.BuildSteps.{the_name, with_vertex_of, with_reference, with_mapping}
use Rattle.cc_builder.proofs.BuildNodes.{with_vertex-either, names-with_vertex, AreHyperedgesWithin-more}
use Rattle.cc_builder.proofs.BuildSnapshots.{HasEndsWithin}
use Rattle.cc_builder.proofs.FewObjects.{made-few}
use Rattle.cc_builder.proofs.HeldObjects.{stands-at, StandsAt-member, native-name, object-at, IsObjectAt-member, object-among, object-name}
use Rattle.cc_builder.proofs.Unsampled.{HasNoSample-vertex}

-- what a snapshot needs of a build
pub IsBuilt-closed : (b : Built) (v : Keyed) → IsBuilt b v → HasEndsWithin b
IsBuilt-closed b v built = record { behind = built.behind; first = built.first; closed = built.closed; mapped = built.mapped }

-- over the same nodes it is a build still, with other references, candidates and nodes behind, where these are right
pub IsBuilt-with : (b : Built) (v : Keyed) (edges : List Edge) (spare candidates next : ℕ) → IsBuilt b v → next ≤ length b.graph.nodes → candidates ≤ length b.graph.nodes →
    ((e : Edge) → Among e edges → (e.source < length b.graph.nodes) × (e.target < length b.graph.nodes)) → ((n : Vertex) → Among n (drop next b.graph.nodes) → n.sampled ≡ None) →
    IsBuilt (record { graph = record b.graph { edges = edges; spare = spare }; candidates = candidates; next = next }) v
IsBuilt-with b v edges spare candidates next built behind first closed unsampled =
    record {
      distinct = built.distinct;
      made = built.made;
      few = built.few;
      behind = behind;
      first = first;
      closed = closed;
      mapped = built.mapped;
      no_blacks = built.no_blacks;
      unsampled = unsampled;
      uncounted = built.uncounted;
    }

-- how often a name is that of a node
pub named : (vs : List Vertex) (x : Name) → count_by (λ v. same_name v.name x) vs ≡ count_by (same_name x) (vertex_names vs)
named vs x =
    count_by-agree (λ (v : Vertex). same_name v.name x) (λ (v : Vertex). same_name x v.name) vs (λ v m. same_name-sym v.name x)
    ∙ sym (count_by-map (same_name x) (λ (v : Vertex). v.name) vs)

pub with_vertex-longer : (vs : List Vertex) (x : Name) (held : Held) → length vs ≤ length (with_vertex vs x held)
with_vertex-longer vs x held = with_vertex-either (λ ws. length vs ≤ length ws) vs x held
    (λ _. omega arith) (λ _. omega (arith, length-append vs (vertex x held ∷ [])))

-- what holds of the nodes and of a new one holds of each node then
with_vertex-each : (P : Vertex → Type 0) (vs : List Vertex) (x : Name) (held : Held) → ((n : Vertex) → Among n vs → P n) → P (vertex x held) →
    (n : Vertex) → Among n (with_vertex vs x held) → P n
with_vertex-each P vs x held old new = with_vertex-either (λ ws. (n : Vertex) → Among n ws → P n) vs x held
    (λ _. old)
    (λ _ n m. ⊎_elim (λ l. old n l) (λ r. ⊎_elim (λ (e : vertex x held ≡ n). subst P e new) (λ none. absurd none) r) (Among-append n vs (vertex x held ∷ []) m))

-- An object becomes a node

IsBuilt-object : (b : Built) (v : Keyed) (x : Name) (held : Held) (room : Rooms) → IsBuilt b v → WasMade v.heap x → IsBuilt (with_vertex_of b x held room) v
IsBuilt-object b v x held room built was =
    let vs = b.graph.nodes in
    let ws = with_vertex vs x held in
    let longer = with_vertex-longer vs x held in
    record {
      distinct = distinct;
      made = made;
      few = made-few v.heap ws distinct made;
      behind = omega (arith, built.behind, longer);
      first = omega (arith, built.first, longer);
      closed = λ e m. let old = built.closed e m in (omega (arith, old.0, longer), omega (arith, old.1, longer));
      mapped = AreHyperedgesWithin-more (length vs) (length ws) b.graph.hyperedges longer built.mapped;
      no_blacks = built.no_blacks;
      unsampled = with_vertex-either (λ us. (n : Vertex) → Among n (drop b.next us) → n.sampled ≡ None) vs x held
          (λ _. built.unsampled)
          (λ _ n m. ⊎_elim (λ l. built.unsampled n l) (λ r. ⊎_elim (λ (e : vertex x held ≡ n). ap (λ (u : Vertex). u.sampled) (sym e)) (λ none. absurd none) r)
          (Among-append n (drop b.next vs) (vertex x held ∷ []) (subst (λ us. Among n us) (drop-append-le b.next vs (vertex x held ∷ []) built.behind) m)));
      uncounted = HasNoSample-vertex vs x held built.uncounted;
    }
  where
    distinct : (y : Name) → count_by (λ n. same_name n.name y) (with_vertex b.graph.nodes x held) ≤ 1
    distinct y =
        let vs = b.graph.nodes in
        let ws = with_vertex vs x held in
        let once = with_all_last-once same_name same_name-exact (vertex_names vs) (x ∷ []) y (subst (λ n. n ≤ 1) (named vs y) (built.distinct y)) in
        subst (λ n. n ≤ 1) (sym (named ws y ∙ ap (count_by (same_name y)) (names-with_vertex vs x held))) once

    made : (n : Vertex) → Among n (with_vertex b.graph.nodes x held) → WasMade v.heap n.name
    made = with_vertex-each (λ n. WasMade v.heap n.name) b.graph.nodes x held built.made was

AreHeld-object : (b : Built) (v : Keyed) (x : Name) (held : Held) (room : Rooms) → AreHeld b.graph (HasKey v) → HasKey v x held → AreHeld (with_vertex_of b x held room).graph (HasKey v)
AreHeld-object b v x held room are has = with_vertex-each (λ n. HasKey v n.name n.held) b.graph.nodes x held are has

-- a script object that is in the heaps was made
made-script : (h : Heap) (x : Name) → is_native x ≡ false → Among x (script_names h) → WasMade h x
made-script h (name.Native k) e m = absurd (true≢false e)
made-script h (name.Script k) e m = m
made-script h (name.Reflector k) e m = m

-- an object that is there was made, and is where its name says
there-made : (v : Keyed) (object : Held) → IsInOrder [] v → IsThere v (Some object) → WasMade v.heap (the_name v object)
there-made v (held.Native key) order there =
    let s = stands-at v key order there in
    let m = StandsAt-member v key.0 s in
    let bounds = order.sound.well_formed.native_numbers s.body m in
    let same : s.body.number ≡ s.number = native_at-number v.heap s.number s.body s.found in
    subst (λ x. WasMade v.heap x) (sym (native-name v key s)) (subst (λ k. WasMade v.heap (native k)) same bounds)
there-made v (held.Script key) order there =
    let s = object-at v key order there in
    subst (λ x. WasMade v.heap x) (sym (object-name v key s))
    (made-script v.heap s.body.name s.kind
    (Among-map (λ (o : HeapScript). o.name) (named_object v.scripts s.body) v.heap.scripts (object-among v s.body order (IsObjectAt-member v key.0 s))))

there-key : (v : Keyed) (object : Held) → IsInOrder [] v → IsThere v (Some object) → HasKey v (the_name v object) object
there-key v (held.Native key) order there =
    let s = stands-at v key order there in
    subst (λ x. HasKey v x (held.Native key)) (sym (native-name v key s)) (refl, λ k e m. s.at ∙ ap Some (ap number_of e))
there-key v (held.Script key) order there =
    let s = object-at v key order there in
    subst (λ x. HasKey v x (held.Script key)) (sym (object-name v key s)) (s.kind, ap (option_map (λ (o : Object). o.name)) s.at)

-- graphs are the same by their parts
abbrev graph_of : List Vertex → List Edge → List Hyperedge → List ℕ → ℕ → Rooms → Shown
graph_of nodes edges hyperedges blacks spare room = record { nodes = nodes; edges = edges; hyperedges = hyperedges; blacks = blacks; spare = spare; room = room }

graph-same : (g h : Shown) → g.nodes ≡ h.nodes → g.edges ≡ h.edges → g.hyperedges ≡ h.hyperedges → g.blacks ≡ h.blacks → g.spare ≡ h.spare → g.room ≡ h.room → g ≡ h
graph-same g h n e m b s r =
    ap (λ x. graph_of x g.edges g.hyperedges g.blacks g.spare g.room) n ∙ ap (λ x. graph_of h.nodes x g.hyperedges g.blacks g.spare g.room) e
    ∙ ap (λ x. graph_of h.nodes h.edges x g.blacks g.spare g.room) m
    ∙ ap (λ x. graph_of h.nodes h.edges h.hyperedges x g.spare g.room) b
    ∙ ap (λ x. graph_of h.nodes h.edges h.hyperedges h.blacks x g.room) s ∙ ap (λ x. graph_of h.nodes h.edges h.hyperedges h.blacks h.spare x) r

-- a build by its parts
abbrev pub built_of : Shown → ℕ → ℕ → Built
built_of g candidates next = record { graph = g; candidates = candidates; next = next }

-- what an object as a node gives, by the graph's parts
pub record IsAdded (b : Built) (x : Name) (held : Held) (g : Shown) : Type 0 where
  pub nodes : g.nodes ≡ with_vertex b.graph.nodes x held
  pub edges : g.edges ≡ b.graph.edges
  pub hyperedges : g.hyperedges ≡ b.graph.hyperedges
  pub blacks : g.blacks ≡ b.graph.blacks
  pub spare : g.spare ≡ b.graph.spare

IsAdded-graph : (b : Built) (x : Name) (held : Held) (g : Shown) → IsAdded b x held g → g ≡ (with_vertex_of b x held g.room).graph
IsAdded-graph b x held g added = graph-same g (with_vertex_of b x held g.room).graph added.nodes added.edges added.hyperedges added.blacks added.spare refl

pub IsAdded-built : {b c : Built} {v : Keyed} {object : Held} {g : Shown} → b ≡ c → IsBuilt c v → IsInOrder [] v → IsThere v (Some object) → IsAdded b (the_name v object) object g →
    IsBuilt (record b { graph = g }) v
IsAdded-built {b} {v = v} {object = object} {g = g} same built order there added =
    subst (λ h. IsBuilt (record b { graph = h }) v) (sym (IsAdded-graph b (the_name v object) object g added))
    (IsBuilt-object b v (the_name v object) object g.room (subst (λ a. IsBuilt a v) (sym same) built) (there-made v object order there))

pub IsAdded-held : {b c : Built} (v : Keyed) {object : Held} {g : Shown} → b ≡ c → AreHeld c.graph (HasKey v) → IsInOrder [] v → IsThere v (Some object) → IsAdded b (the_name v object) object g → AreHeld g (HasKey v)
IsAdded-held {b} v {object = object} {g = g} same are order there added =
    subst (λ h. AreHeld h (HasKey v)) (sym (IsAdded-graph b (the_name v object) object g added))
    (AreHeld-object b v (the_name v object) object g.room (subst (λ (a : Built). AreHeld a.graph (HasKey v)) (sym same) are) (there-key v object order there))

-- A reference is noted

pub IsBuilt-reference : (b : Built) (v : Keyed) (i j : ℕ) → IsBuilt b v → i < length b.graph.nodes → j < length b.graph.nodes → IsBuilt (with_reference b i j) v
IsBuilt-reference b v i j built l m =
    IsBuilt-with b v (b.graph.edges ++ record { source = i; target = j } ∷ []) (b.graph.spare - 1) b.candidates b.next built built.behind built.first closed built.unsampled
  where
    closed : (e : Edge) → Among e (b.graph.edges ++ record { source = i; target = j } ∷ []) → (e.source < length b.graph.nodes) × (e.target < length b.graph.nodes)
    closed e n = ⊎_elim (λ old. built.closed e old)
        (λ r. ⊎_elim (λ (same : record { source = i; target = j } ≡ e). subst (λ (f : Edge). (f.source < length b.graph.nodes) × (f.target < length b.graph.nodes)) same (l, m)) (λ none. absurd none) r)
        (Among-append e b.graph.edges (record { source = i; target = j } ∷ []) n)

-- A mapping is noted

pub IsBuilt-mapping : (b : Built) (v : Keyed) (m : Hyperedge) (mappings : ℕ) → IsBuilt b v → IsHyperedgeWithin (length b.graph.nodes) m → IsBuilt (with_mapping b m mappings) v
IsBuilt-mapping b v m mappings built within =
    record {
      distinct = built.distinct;
      made = built.made;
      few = built.few;
      behind = built.behind;
      first = built.first;
      closed = built.closed;
      mapped = each-push (IsHyperedgeWithin (length b.graph.nodes)) b.graph.hyperedges m built.mapped within;
      no_blacks = built.no_blacks;
      unsampled = built.unsampled;
      uncounted = built.uncounted;
    }

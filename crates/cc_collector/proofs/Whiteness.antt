-- WHAT IS WHITE IN A GRAPH IS WHITE IN THE SNAPSHOT that it holds.
use Rattle.std.specs.Prelude.{IsTrue, ◌↔◌, ◌<◌, slice_get, not, ◌||◌, option_map, option_to_list}
use Rattle.std.proofs.Common.{◌≡◌, ℕ, Bool, true, false, List, ◌++◌, length, map, filter, Option, Some, None, refl, sym, ◌∙◌, ap, subst, inr, ◌⊎◌, ⊎_elim, arith, ◌==◌}
use Rattle.std.proofs.lemmas.Bool.{false≢true, and_parts, and_from, or_cases, or_left, or_right}
use Rattle.std.proofs.lemmas.List.{map-append}
use Rattle.cc_lists.specs.Members.{Among, has}
use Rattle.cc_lists.specs.Least.{Least, system}
use Rattle.cc_lists.proofs.Members.{Among-map, Among-map_cases, Among-left, Among-right, Among-append, Among-filter, Among-filtered, Among-passes, has-among, has-there}
use Rattle.cc_lists.proofs.CountsOf.{false-left}
use Rattle.cc_lists.proofs.Closure.{closure-decides}
use Rattle.cc_lists.proofs.Least.{derive-root, derive-along, derive-jointly, derived-within}
use Rattle.cc_lists.proofs.Places.{among-place, place-among}
use Rattle.cc_names.specs.declared.name.Name.{Name}
use Rattle.cc_names.specs.Names.{native, same_name}
use Rattle.cc_names.proofs.NameTests.{same_name-exact}
use Rattle.cc_model.specs.Heap.{HeapNative}
use Rattle.cc_model.specs.View.{View, view, counted, scripts_there, is_there}
use Rattle.cc_model.specs.Snapshot.{Mapping, Node, Snapshot, node_names, noted_to, is_above, is_seed, seeds, mapping_joint, BlackIn, black_in, is_white, white_names, white_natives}
use Rattle.cc_lists.proofs.Numbers.{number-exact}
use Rattle.cc_lists.proofs.Filtering.{filter-agree}
use Rattle.cc_graph.specs.Shown.{Vertex, Edge, Hyperedge, Shown, number_of, edges_to, is_black}
use Rattle.cc_heaps.specs.Keyed.{Keyed}
use Rattle.cc_builder.specs.Building.{Built, HasNoSample, IsBuilt, state_by_sample, nodes_of, vertex_names, vertex_name, reference_of, mapping_of, snapshot_of}
use Rattle.cc_graph.specs.Numbers.{numbers_where}
use Rattle.cc_graph.specs.Closed.{IsHyperedgeWithin}
use Rattle.cc_repair.specs.Touched.{is_touched, touched}
use Rattle.cc_scan.specs.Scanning.{exceeds, held_elsewhere, edge_pair, hyperedge_rule, scan_rules}
use Rattle.cc_unlink.specs.Whites.{is_white_node, is_white_in, whites_of}
use Rattle.cc_graph.proofs.MarkedNodes.{numbers-passing, passing-numbers}
use Rattle.cc_builder.proofs.NodesByName.{name-at, node-at, distinct-number, IsNumberOf, number_from-some, number_from-none, node_behind, nodes-node_behind, names-node_behind, noted-same}
use Rattle.cc_heaps.proofs.Reaching.{same-tests}

above-exceeds : (s : Snapshot) (x : Name) (noted : ℕ) (sampled : Option ℕ) → noted_to s x ≡ noted → is_above s x (state_by_sample sampled) ≡ exceeds noted sampled
above-exceeds s x noted sampled e = grind arith

or-none : (b : Bool) → b ≡ (b || false)
or-none true = refl
or-none false = refl

-- a node is black by itself where it is touched, or more references were sampled than are noted: of a native alone
seed-of : (v : View) (s : Snapshot) (w : Vertex) (noted : ℕ) → noted_to s w.name ≡ noted → HasNoSample w → is_seed v s (node_behind w) ≡ (is_touched v w.name || exceeds noted w.sampled)
seed-of v s w noted e uncounted = grind (arith, above-exceeds, or-none)

-- roots that others derive derive no more than these
derived-from : {X : Type 0} (edges : List (X × X)) (entries : List (List X × X)) (xs ys : List X) → ((x : X) → Among x xs → Least (system ys edges entries) x) →
    (x : X) → Least (system xs edges entries) x → Least (system ys edges entries) x
derived-from edges entries xs ys f = search (derived-within, derive-along, derive-jointly)

-- The members of a mapping that together give its value

abbrev premises : Hyperedge → List ℕ
premises m = (hyperedge_rule m).0

-- their names are those by names
option-names : (f : ℕ → Name) (o : Option ℕ) → option_to_list (option_map f o) ≡ map f (option_to_list o)
option-names f o = grind arith

-- each is a node
within-all : (count : ℕ) (m : Hyperedge) → IsHyperedgeWithin count m → (i : ℕ) → Among i (premises m) → i < count
within-all count m within i h = grind (arith, Among-append)

module _ (b : Built) (v : Keyed) (built : IsBuilt b v) (all : b.next ≡ length b.graph.nodes) where
  abbrev ns : List Vertex
  ns = b.graph.nodes

  abbrev es : List Edge
  es = b.graph.edges

  abbrev js : List (List ℕ × ℕ)
  js = map hyperedge_rule b.graph.hyperedges

  abbrev s : Snapshot
  s = snapshot_of b

  abbrev roots : List ℕ
  roots = touched b.graph v.heap ++ held_elsewhere b.graph

  abbrev IsFromRoots : ℕ → Type 0
  IsFromRoots = Least (system roots (map edge_pair es) js)

  the_nodes : s.nodes ≡ map node_behind ns
  the_nodes = ap (λ n. nodes_of n ns) all ∙ nodes-node_behind ns

  -- whether a node is black by itself
  abbrev seed_test : ℕ → Vertex → Bool
  seed_test i w = is_touched (view v.heap) w.name || exceeds (edges_to es i) w.sampled

  seed-tests : (i : ℕ) (w : Vertex) → slice_get ns i ≡ Some w → is_seed (view v.heap) s (node_behind w) ≡ seed_test i w
  seed-tests i w at = seed-of (view v.heap) s w (edges_to es i)
      (noted-same ns built.distinct es (λ e m. (built.closed e m).1) i w at) (built.uncounted w (place-among w ns i at))

  -- it is one of the roots
  seed-root : (i : ℕ) (w : Vertex) → slice_get ns i ≡ Some w → is_seed (view v.heap) s (node_behind w) ≡ true → Among i roots
  seed-root i w at seed = ⊎_elim
      (λ l. Among-left i (touched b.graph v.heap) (held_elsewhere b.graph) (passing-numbers _ 0 ns i w i at (omega arith) l))
      (λ r. Among-right i (touched b.graph v.heap) (held_elsewhere b.graph) (passing-numbers _ 0 ns i w i at (omega arith) r))
      (or_cases (is_touched (view v.heap) w.name) (exceeds (edges_to es i) w.sampled) (sym (seed-tests i w at) ∙ seed))

  -- and each root is black by itself
  root-seed : (i : ℕ) → Among i roots → (w : Vertex) × (slice_get ns i ≡ Some w) × (is_seed (view v.heap) s (node_behind w) ≡ true)
  root-seed i m = ⊎_elim
      (λ l.
      let k = numbers-passing _ 0 ns i l in
      let place : k.place ≡ i = omega (arith, k.number) in
      let at : slice_get ns i ≡ Some k.node = subst (λ z. slice_get ns z ≡ Some k.node) place k.there in
      (k.node, at, seed-tests i k.node at ∙ or_left (is_touched (view v.heap) k.node.name) (exceeds (edges_to es i) k.node.sampled) k.passes))
      (λ r.
      let k = numbers-passing _ 0 ns i r in
      let place : k.place ≡ i = omega (arith, k.number) in
      let at : slice_get ns i ≡ Some k.node = subst (λ z. slice_get ns z ≡ Some k.node) place k.there in
      (k.node, at, seed-tests i k.node at ∙ or_right (is_touched (view v.heap) k.node.name) (exceeds (edges_to es i) k.node.sampled) k.passes))
      (Among-append i (touched b.graph v.heap) (held_elsewhere b.graph) m)

  -- the seeds of the snapshot are the roots' names
  seed-there : (i : ℕ) (w : Vertex) → slice_get ns i ≡ Some w → is_seed (view v.heap) s (node_behind w) ≡ true → Among w.name (seeds (view v.heap) s)
  seed-there i w at seed = grind (arith, Among-map, node_behind, Among-filter, the_nodes, place-among)

  -- the names of a mapping's members
  premises-named : (m : Hyperedge) → (mapping_joint (mapping_of ns m)).0 ≡ map (vertex_name ns) (premises m)
  premises-named m = search (option-names, map-append)

  -- A node that is reached from the roots is black in the snapshot,
  record IsBlackNode (i : ℕ) : Type 0 where
    node : Vertex
    there : slice_get ns i ≡ Some node
    black : BlackIn (view v.heap) s node.name

  reached-black : (i : ℕ) → IsFromRoots i → IsBlackNode i
  reached-black = derived-within roots (map edge_pair es) js IsBlackNode
      (λ i m.
      let k = root-seed i m in
      record { node = k.0; there = k.1; black = derive-root (seeds (view v.heap) s) s.references (map mapping_joint s.mappings) k.0.name (seed-there i k.0 k.1 k.2) })
      (λ i j m h. follow i j h (Among-map_cases edge_pair es (i, j) m))
      (λ ps i m h. together ps i h (Among-map_cases hyperedge_rule b.graph.hyperedges (ps, i) m))
    where
      along_edge : (e : Edge) → Among e es → IsBlackNode e.source → IsBlackNode e.target
      along_edge e m h =
          let t = node-at ns e.target (built.closed e m).1 in
          let reference : Among (vertex_name ns e.source, vertex_name ns e.target) s.references = Among-map (reference_of ns) e es m in
          let named : Among (h.node.name, t.0.name) s.references =
          subst (λ z. Among (h.node.name, z) s.references) (name-at ns e.target t.0 t.1)
          (subst (λ z. Among (z, vertex_name ns e.target) s.references) (name-at ns e.source h.node h.there) reference) in
          record {
            node = t.0;
            there = t.1;
            black = derive-along (seeds (view v.heap) s) s.references (map mapping_joint s.mappings) h.node.name t.0.name named h.black;
          }

      follow : (i j : ℕ) → IsBlackNode i → (e : Edge) × Among e es × (edge_pair e ≡ (i, j)) → IsBlackNode j
      follow i j h k = subst IsBlackNode (ap (λ (z : ℕ × ℕ). z.1) k.2) (along_edge k.0 k.1 (subst IsBlackNode (sym (ap (λ (z : ℕ × ℕ). z.0) k.2)) h))

      -- the value of a mapping whose members are black
      by_mapping : (m : Hyperedge) → Among m b.graph.hyperedges → ((i : ℕ) → Among i (premises m) → IsBlackNode i) → IsBlackNode m.value
      by_mapping m i h =
          let t = node-at ns m.value (built.mapped m i).value in
          let named : List Name = (mapping_joint (mapping_of ns m)).0 in
          record {
            node = t.0;
            there = t.1;
            black = subst (BlackIn (view v.heap) s) (name-at ns m.value t.0 t.1)
                (derive-jointly (seeds (view v.heap) s) s.references (map mapping_joint s.mappings) named (vertex_name ns m.value)
                (Among-map mapping_joint (mapping_of ns m) s.mappings (Among-map (mapping_of ns) m b.graph.hyperedges i))
                (λ x l. member x (Among-map_cases (vertex_name ns) (premises m) x (subst (Among x) (premises-named m) l))));
          }
        where
          member : (x : Name) → (i : ℕ) × Among i (premises m) × (vertex_name ns i ≡ x) → BlackIn (view v.heap) s x
          member x k =
              let n = h k.0 k.1 in
              subst (BlackIn (view v.heap) s) (sym (name-at ns k.0 n.node n.there) ∙ k.2) n.black

      together : (ps : List ℕ) (i : ℕ) → ((j : ℕ) → Among j ps → IsBlackNode j) → (m : Hyperedge) × Among m b.graph.hyperedges × (hyperedge_rule m ≡ (ps, i)) → IsBlackNode i
      together ps i h k =
          subst IsBlackNode (ap (λ (z : List ℕ × ℕ). z.1) k.2)
          (by_mapping k.0 k.1 (λ j l. h j (subst (Among j) (ap (λ (z : List ℕ × ℕ). z.0) k.2) l)))

  -- and what is black in the snapshot is such a node's name.
  record IsReachedName (x : Name) : Type 0 where
    number : ℕ
    node : Vertex
    there : slice_get ns number ≡ Some node
    name : node.name ≡ x
    reached : IsFromRoots number

  black-reached : (x : Name) → BlackIn (view v.heap) s x → IsReachedName x
  black-reached = derived-within (seeds (view v.heap) s) s.references (map mapping_joint s.mappings) IsReachedName
      (λ x m. from_seed x (Among-map_cases (λ (n : Node). n.name) (filter (is_seed (view v.heap) s) s.nodes) x m))
      (λ x y m h. follow x y h (Among-map_cases (reference_of ns) es (x, y) m))
      (λ ps x m h. together ps x h (Among-map_cases mapping_joint s.mappings (ps, x) m))
    where
      from_seed : (x : Name) → (n : Node) × Among n (filter (is_seed (view v.heap) s) s.nodes) × (n.name ≡ x) → IsReachedName x
      from_seed x n =
          let stands : Among n.0 (map node_behind ns) = subst (Among n.0) the_nodes (Among-filtered (is_seed (view v.heap) s) n.0 s.nodes n.1) in
          let w = Among-map_cases node_behind ns n.0 stands in
          let at = among-place w.0 ns w.1 in
          let seed : is_seed (view v.heap) s (node_behind w.0) ≡ true = ap (is_seed (view v.heap) s) w.2 ∙ Among-passes (is_seed (view v.heap) s) n.0 s.nodes n.1 in
          record {
            number = at.0;
            node = w.0;
            there = at.1;
            name = ap (λ (z : Node). z.name) w.2 ∙ n.2;
            reached = derive-root roots (map edge_pair es) js at.0 (seed-root at.0 w.0 at.1 seed);
          }

      follow : (x y : Name) → IsReachedName x → (e : Edge) × Among e es × (reference_of ns e ≡ (x, y)) → IsReachedName y
      follow x y h k =
          let from = node-at ns k.0.source (built.closed k.0 k.1).0 in
          let t = node-at ns k.0.target (built.closed k.0 k.1).1 in
          let first : from.0.name ≡ x = sym (name-at ns k.0.source from.0 from.1) ∙ ap (λ (z : Name × Name). z.0) k.2 in
          let second : t.0.name ≡ y = sym (name-at ns k.0.target t.0 t.1) ∙ ap (λ (z : Name × Name). z.1) k.2 in
          let same : h.number ≡ k.0.source = distinct-number ns built.distinct h.number k.0.source h.node from.0 h.there from.1 (h.name ∙ sym first) in
          record {
            number = k.0.target;
            node = t.0;
            there = t.1;
            name = second;
            reached = derive-along roots (map edge_pair es) js k.0.source k.0.target (Among-map edge_pair k.0 es k.1) (subst IsFromRoots same h.reached);
          }

      -- a number whose node has the name of one that is reached
      reached-number : (i : ℕ) → i < length ns → IsReachedName (vertex_name ns i) → IsFromRoots i
      reached-number i l h =
          let w = node-at ns i l in
          subst IsFromRoots (distinct-number ns built.distinct h.number i h.node w.0 h.there w.1 (h.name ∙ name-at ns i w.0 w.1)) h.reached

      by_mapping : (m : Hyperedge) → Among m b.graph.hyperedges → ((x : Name) → Among x (mapping_joint (mapping_of ns m)).0 → IsReachedName x) → IsReachedName (vertex_name ns m.value)
      by_mapping m i h =
          let t = node-at ns m.value (built.mapped m i).value in
          record {
            number = m.value;
            node = t.0;
            there = t.1;
            name = sym (name-at ns m.value t.0 t.1);
            reached = derive-jointly roots (map edge_pair es) js (premises m) m.value (Among-map hyperedge_rule m b.graph.hyperedges i)
                (λ j l. reached-number j (within-all (length ns) m (built.mapped m i) j l)
                (h (vertex_name ns j) (subst (Among (vertex_name ns j)) (sym (premises-named m)) (Among-map (vertex_name ns) j (premises m) l))));
          }

      of_mapping : (ps : List Name) (x : Name) → ((y : Name) → Among y ps → IsReachedName y) → (m : Hyperedge) → Among m b.graph.hyperedges →
          mapping_joint (mapping_of ns m) ≡ (ps, x) → IsReachedName x
      of_mapping ps x h m i e =
          subst IsReachedName (ap (λ (z : List Name × Name). z.1) e)
          (by_mapping m i (λ y l. h y (subst (Among y) (ap (λ (z : List Name × Name). z.0) e) l)))

      together : (ps : List Name) (x : Name) → ((y : Name) → Among y ps → IsReachedName y) → (m : Mapping) × Among m s.mappings × (mapping_joint m ≡ (ps, x)) → IsReachedName x
      together ps x h k =
          let m = Among-map_cases (mapping_of ns) b.graph.hyperedges k.0 k.1 in
          of_mapping ps x h m.0 m.1 (ap mapping_joint m.2 ∙ k.2)

  -- Black in the snapshot is reached from the roots.
  black-node : (i : ℕ) (w : Vertex) → slice_get ns i ≡ Some w → BlackIn (view v.heap) s w.name ↔ IsFromRoots i
  black-node i w at = grind (arith, black-reached, distinct-number, reached-black)

  module _ (g m : Shown) (nodes : g.nodes ≡ b.graph.nodes) (m_nodes : m.nodes ≡ b.graph.nodes) (m_edges : m.edges ≡ b.graph.edges) (m_hyperedges : m.hyperedges ≡ b.graph.hyperedges)
      (touched_first : (i : ℕ) → IsTrue (is_black m i) ↔ Among i (touched b.graph v.heap))
      (scanned : (i : ℕ) → IsTrue (is_black g i) ↔ Least (scan_rules m) i) where
    held_same : held_elsewhere m ≡ held_elsewhere b.graph
    held_same = ap (λ l. numbers_where (λ i w. exceeds (edges_to l i) w.sampled) 0 m.nodes) m_edges ∙ ap (numbers_where (λ i w. exceeds (edges_to es i) w.sampled) 0) m_nodes

    abbrev m_roots : List ℕ
    m_roots = m.blacks ++ held_elsewhere m

    -- what the scan derives, over the graph that was built
    rules-same : scan_rules m ≡ system m_roots (map edge_pair es) js
    rules-same = search

    black-reached_in : (i : ℕ) → IsTrue (is_black g i) ↔ IsFromRoots i
    black-reached_in i = (
      λ e. derived-from (map edge_pair es) js m_roots roots (λ x l. derive-root roots (map edge_pair es) js x (into x l)) i
          (subst (λ rs. Least rs i) rules-same ((scanned i).0 e)),
      λ d. (scanned i).1
          (subst (λ rs. Least rs i) (sym rules-same) (derived-from (map edge_pair es) js roots m_roots (λ x l. derive-root m_roots (map edge_pair es) js x (back x l)) i d)),
    )
      where
        into : (x : ℕ) → Among x m_roots → Among x roots
        into x m₁ = ⊎_elim
            (λ l. Among-left x (touched b.graph v.heap) (held_elsewhere b.graph) ((touched_first x).0 (has-there _ number-exact m.blacks x l)))
            (λ r. Among-right x (touched b.graph v.heap) (held_elsewhere b.graph) (subst (Among x) held_same r))
            (Among-append x m.blacks (held_elsewhere m) m₁)

        back : (x : ℕ) → Among x roots → Among x m_roots
        back x m₁ = ⊎_elim
            (λ l. Among-left x m.blacks (held_elsewhere m) (has-among _ number-exact m.blacks x ((touched_first x).1 l)))
            (λ r. Among-right x m.blacks (held_elsewhere m) (subst (Among x) (sym held_same) r))
            (Among-append x (touched b.graph v.heap) (held_elsewhere b.graph) m₁)

    -- a node is black in the graph where its name is black in the snapshot
    tests-alike : (i : ℕ) (w : Vertex) → slice_get ns i ≡ Some w → has same_name (black_in (view v.heap) s) w.name ≡ is_black g i
    tests-alike i w at = grind (arith, same-tests, black-reached_in, black-node, closure-decides, same_name-exact)

    -- a native is white in the graph where it is white in the snapshot
    white-alike : (n : HeapNative) → Among n v.heap.natives → has same_name (white_names (view v.heap) s) (native n.number) ≡ is_white_in g n
    white-alike n there = go (number_of g.nodes (native n.number)) refl
      where
        x : Name
        x = native n.number

        test : Name → Bool
        test = is_white (view v.heap) (black_in (view v.heap) s)

        the_names : node_names s ≡ vertex_names ns
        the_names = ap (map (λ (z : Node). z.name)) the_nodes ∙ names-node_behind ns

        stands : is_there (view v.heap) x ≡ true
        stands = or_left (has same_name (map (λ (z : Name × ℕ). z.0) (view v.heap).natives) x) (has same_name (scripts_there (view v.heap)) x)
            (has-there same_name same_name-exact (map (λ (z : Name × ℕ). z.0) (view v.heap).natives) x
            (Among-map (λ (z : Name × ℕ). z.0) (counted n) (view v.heap).natives (Among-map counted n v.heap.natives there)))

        nowhere : number_of g.nodes x ≡ None → has same_name (filter test (node_names s)) x ≡ true → ⊥
        nowhere e h =
            let among : Among x (vertex_names ns) = subst (Among x) the_names (Among-filtered test x (node_names s) (has-among same_name same_name-exact (filter test (node_names s)) x h)) in
            let w = Among-map_cases (λ (z : Vertex). z.name) ns x among in
            number_from-none 0 g.nodes x e w.0 (subst (Among w.0) (sym nodes) w.1) w.2

        somewhere : (i : ℕ) → IsNumberOf 0 g.nodes x i → has same_name (filter test (node_names s)) x ≡ not (is_black g i)
        somewhere i k =
            let place : k.place ≡ i = omega (arith, k.number) in
            let at : slice_get ns i ≡ Some k.node = subst (λ l. slice_get l i ≡ Some k.node) nodes (subst (λ z. slice_get g.nodes z ≡ Some k.node) place k.there) in
            let black : has same_name (black_in (view v.heap) s) x ≡ is_black g i = ap (has same_name (black_in (view v.heap) s)) (sym k.named) ∙ tests-alike i k.node at in
            let among : Among x (node_names s) = subst (Among x) (sym the_names)
            (subst (λ z. Among z (vertex_names ns)) k.named (Among-map (λ (z : Vertex). z.name) k.node ns (place-among k.node ns i at))) in
            same-tests (has same_name (filter test (node_names s)) x) (not (is_black g i))
            (λ e.
            let passes = Among-passes test x (node_names s) (has-among same_name same_name-exact (filter test (node_names s)) x e) in
            ap not (sym black) ∙ (and_parts (is_there (view v.heap) x) (not (has same_name (black_in (view v.heap) s) x)) passes).1)
            (λ e. has-there same_name same_name-exact (filter test (node_names s)) x (Among-filter test x (node_names s) among
            (and_from (is_there (view v.heap) x) (not (has same_name (black_in (view v.heap) s) x)) stands (ap not black ∙ e))))

        go : (o : Option ℕ) → number_of g.nodes x ≡ o → has same_name (filter test (node_names s)) x ≡ is_white_node g o
        go None e = false-left (has same_name (filter test (node_names s)) x) (nowhere e)
        go (Some i) e = somewhere i (number_from-some 0 g.nodes x i e)

    -- THE LAW
    pub whites-are : whites_of g v.heap ≡ white_natives v.heap (snapshot_of b)
    unfolding white_natives
    whites-are = grind (arith, filter-agree, white-alike)

-- After what is touched became black in a graph that was built, and then what the scan makes black, what is white in it is
-- white in its snapshot.
pub whites-found : (b : Built) (v : Keyed) (m g : Shown) → IsBuilt b v → b.next ≡ length b.graph.nodes →
    ((i : ℕ) → IsTrue (is_black m i) ↔ (IsTrue (is_black b.graph i) ⊎ Among i (touched b.graph v.heap))) → m ≡ record b.graph { blacks = m.blacks } →
    ((i : ℕ) → IsTrue (is_black g i) ↔ Least (scan_rules m) i) → g ≡ record m { blacks = g.blacks } →
    whites_of g v.heap ≡ white_natives v.heap (snapshot_of b)
whites-found b v m g built all marked kept least rest =
    whites-are b v built all g m (ap (λ (z : Shown). z.nodes) rest ∙ m_nodes) m_nodes (ap (λ (z : Shown). z.edges) kept) (ap (λ (z : Shown). z.hyperedges) kept)
    (λ i. (λ e. ⊎_elim (λ o. absurd (none i o)) (λ t. t) ((marked i).0 e), λ t. (marked i).1 (inr t))) least
  where
    m_nodes : m.nodes ≡ b.graph.nodes
    m_nodes = ap (λ (z : Shown). z.nodes) kept

    none : (i : ℕ) → IsTrue (is_black b.graph i) → ⊥
    none i o = false≢true (ap (λ l. has ◌==◌ l i) (sym built.no_blacks) ∙ o)

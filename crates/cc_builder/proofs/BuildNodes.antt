-- The nodes of a graph by number and by name.
use Rattle.std.proofs.Common.{◌≡◌, ℕ, suc, ◌+◌, ◌<◌, ◌≤◌, Bool, true, false, ◌||◌, List, [], ◌∷◌, ◌++◌, map, length, take, Option, Some, None, IfSome, is_some, option_map, refl, sym, ◌∙◌, ap, subst, inl, inr, arith}
use Rattle.std.proofs.Math.ListN.{get_or-append}
use Rattle.std.proofs.lemmas.List.{map_push, length-map, take-append-le}
use Rattle.cc_lists.specs.Members.{Among, has, with_last}
use Rattle.cc_lists.proofs.ListWrites.{map-agree}
use Rattle.cc_names.specs.declared.name.Name.{Name}
use Rattle.cc_names.specs.Names.{native, same_name}
use Rattle.cc_names.proofs.NameTests.{same_name-true}
use Rattle.cc_counted.specs.declared.held.Held.{Held}
use Rattle.cc_model.specs.Snapshot.{Mapping}
use Rattle.cc_graph.specs.Shown.{Vertex, Edge, Hyperedge, vertex, number_from, number_of, with_vertex}
use Rattle.cc_graph.specs.Closed.{AreHyperedgesWithin, IsHyperedgeWithin}
use Rattle.cc_builder.specs.Building.{vertex_names, vertex_name, reference_of, mapping_of}

-- a node of a name has a number where the name stands among the names
number_from-has : (i : ℕ) (vs : List Vertex) (x : Name) → is_some (number_from i vs x) ≡ has same_name (vertex_names vs) x
number_from-has i [] x = refl
number_from-has i (v ∷ vs) x = go (number_from-has (suc i) vs x) (same_name v.name x)
  where
    go : is_some (number_from (suc i) vs x) ≡ has same_name (vertex_names vs) x → (b : Bool) →
        is_some (elim b [ true ↦ Some i | false ↦ number_from (suc i) vs x ]) ≡ b || has same_name (vertex_names vs) x
    go ih true = refl
    go ih false = ih

-- what holds of the nodes as they are and with a new one last holds once a name has its node
pub with_vertex-either : (P : List Vertex → Type 0) (vs : List Vertex) (x : Name) (held : Held) →
    (has same_name (vertex_names vs) x ≡ true → P vs) → (has same_name (vertex_names vs) x ≡ false → P (vs ++ vertex x held ∷ [])) → P (with_vertex vs x held)
with_vertex-either P vs x held there new = go (number_of vs x) refl
  where
    go : (o : Option ℕ) → number_of vs x ≡ o → P (elim o [ Some i ↦ vs | None ↦ vs ++ vertex x held ∷ [] ])
    go (Some i) e = there (sym (number_from-has 0 vs x) ∙ ap is_some e)
    go None e = new (sym (number_from-has 0 vs x) ∙ ap is_some e)

-- the names then
pub names-with_vertex : (vs : List Vertex) (x : Name) (held : Held) → vertex_names (with_vertex vs x held) ≡ with_last same_name (vertex_names vs) x
names-with_vertex vs x held = with_vertex-either (λ ws. vertex_names ws ≡ with_last same_name (vertex_names vs) x) vs x held
    (λ e. sym (ap (λ b. elim b [ true ↦ vertex_names vs | false ↦ vertex_names vs ++ x ∷ [] ]) e))
    (λ e. map_push (λ (v : Vertex). v.name) vs (vertex x held) ∙ sym (ap (λ b. elim b [ true ↦ vertex_names vs | false ↦ vertex_names vs ++ x ∷ [] ]) e))

-- the node of a number has the name that it is the number of
number_from-at : (i : ℕ) (vs : List Vertex) (x : Name) (j : ℕ) → number_from i vs x ≡ Some j →
    (k : ℕ) × (j ≡ i + k) × (k < length vs) × (vertex_name vs k ≡ x)
number_from-at i [] x j e = absurd (cc)
number_from-at i (v ∷ vs) x j e = go (number_from-at (suc i) vs x j) (same_name v.name x) refl e
  where
    go : (number_from (suc i) vs x ≡ Some j → (k : ℕ) × (j ≡ suc i + k) × (k < length vs) × (vertex_name vs k ≡ x)) →
        (b : Bool) → same_name v.name x ≡ b → elim b [ true ↦ Some i | false ↦ number_from (suc i) vs x ] ≡ Some j →
        (k : ℕ) × (j ≡ i + k) × (k < length (v ∷ vs)) × (vertex_name (v ∷ vs) k ≡ x)
    go ih true t f = let same : i ≡ j = cc in (0, omega arith, omega arith, same_name-true v.name x t)
    go ih false t f = let k = ih f in (suc k.0, omega (arith, k.1), omega (arith, k.2), k.3)

pub number_of-at : (vs : List Vertex) (x : Name) (i : ℕ) → number_of vs x ≡ Some i → (i < length vs) × (vertex_name vs i ≡ x)
number_of-at vs x i e =
    let k = number_from-at 0 vs x i e in
    let same : k.0 ≡ i = omega (arith, k.1) in
    subst (λ j. (j < length vs) × (vertex_name vs j ≡ x)) same (k.2, k.3)

-- a node keeps its name where others go last
pub vertex_name-append : (vs ws : List Vertex) (i : ℕ) → i < length vs → vertex_name (vs ++ ws) i ≡ vertex_name vs i
vertex_name-append vs ws i l = rw names (get_or-append (vertex_names vs) (vertex_names ws) (native 0) i (subst (λ n. i < n) (sym (length-map vs (λ (v : Vertex). v.name))) l))
  where
    names : vertex_names (vs ++ ws) ≡ vertex_names vs ++ vertex_names ws
    names = names-append vs
      where
        names-append : (us : List Vertex) → vertex_names (us ++ ws) ≡ vertex_names us ++ vertex_names ws
        names-append [] = refl
        names-append (u ∷ us) = ap (λ xs. u.name ∷ xs) (names-append us)

-- so do the noted references between nodes
pub references-append : (vs ws : List Vertex) (es : List Edge) → ((e : Edge) → Among e es → (e.source < length vs) × (e.target < length vs)) →
    map (reference_of (vs ++ ws)) es ≡ map (reference_of vs) es
references-append vs ws [] closed = refl
references-append vs ws (e ∷ es) closed =
    let here = closed e (inl refl) in
    let source = vertex_name-append vs ws e.source here.0 in
    let target = vertex_name-append vs ws e.target here.1 in
    ap (λ (r : Name × Name). r ∷ map (reference_of (vs ++ ws)) es) (ap (λ y. pair_of (vertex_name (vs ++ ws) e.source) y) target ∙ ap (λ x. pair_of x (vertex_name vs e.target)) source)
    ∙ ap (λ rs. reference_of vs e ∷ rs) (references-append vs ws es (λ f m. closed f (inr m)))
  where
    pair_of : Name → Name → Name × Name
    pair_of x y = (x, y)

-- and the noted mappings

-- a mapping by the names of its members' numbers
abbrev pub mapping_by : (ℕ → Name) → Hyperedge → Mapping
mapping_by named m = record { the_map = option_map named m.the_map; key = option_map named m.key; value = named m.value }

-- where the names of numbers below a bound are alike, those of an optional one are
pub member-alike : (named other : ℕ → Name) (count : ℕ) (o : Option ℕ) → IfSome o (λ i. i < count) → ((i : ℕ) → i < count → named i ≡ other i) → option_map named o ≡ option_map other o
member-alike named other count None l e = refl
member-alike named other count (Some i) l e = ap Some (e i l)

-- mappings are the same by their parts
abbrev pub mapping_parts : Option Name → Option Name → Name → Mapping
mapping_parts the_map key value = record { the_map = the_map; key = key; value = value }

pub mapping-same : (m n k l : Option Name) (x y : Name) → m ≡ n → k ≡ l → x ≡ y → mapping_parts m k x ≡ mapping_parts n l y
mapping-same m n k l x y e f g = ap (λ o. mapping_parts o k x) e ∙ ap (λ o. mapping_parts n o x) f ∙ ap (mapping_parts n l) g

mapping-alike : (named other : ℕ → Name) (count : ℕ) (m : Hyperedge) → IsHyperedgeWithin count m → ((i : ℕ) → i < count → named i ≡ other i) → mapping_by named m ≡ mapping_by other m
mapping-alike named other count m within e = mapping-same
    (option_map named m.the_map) (option_map other m.the_map) (option_map named m.key) (option_map other m.key) (named m.value) (other m.value)
    (member-alike named other count m.the_map within.the_map e) (member-alike named other count m.key within.key e) (e m.value within.value)

pub mappings-alike : (vs ws : List Vertex) (ms : List Hyperedge) → AreHyperedgesWithin (length vs) ms → ((i : ℕ) → i < length vs → vertex_name ws i ≡ vertex_name vs i) →
    map (mapping_of ws) ms ≡ map (mapping_of vs) ms
mappings-alike vs ws ms within alike =
    map-agree (mapping_of ws) (mapping_of vs) ms (λ m i. mapping-alike (vertex_name ws) (vertex_name vs) (length vs) m (within m i) alike)

-- mappings within so many nodes are within more
pub AreHyperedgesWithin-more : (n m : ℕ) (ms : List Hyperedge) → n ≤ m → AreHyperedgesWithin n ms → AreHyperedgesWithin m ms
AreHyperedgesWithin-more n m ms l within h i = record {
  the_map = member-more h.the_map (within h i).the_map;
  key = member-more h.key (within h i).key;
  value = omega (arith, (within h i).value, l);
}
  where
    member-more : (o : Option ℕ) → IfSome o (λ i. i < n) → IfSome o (λ i. i < m)
    member-more None below = below
    member-more (Some i) below = omega (arith, below, l)

-- and the first nodes
pub first-append : (vs ws : List Vertex) (n : ℕ) → n ≤ length vs → vertex_names (take n (vs ++ ws)) ≡ vertex_names (take n vs)
first-append vs ws n l = ap vertex_names (take-append-le n vs ws l)

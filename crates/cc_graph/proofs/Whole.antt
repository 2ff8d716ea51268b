-- What is kept of nodes and references stays right.
use Rattle.std.proofs.Common.{◌≡◌, unwrap_or, ℕ, ◌+◌, ◌<◌, ◌≤◌, suc, true, false, cond, List, [], ◌∷◌, ◌++◌, length, get_or, refl, sym, ◌∙◌, ap, subst, inr, arith, count_by, Some, None, option_map}
use Rattle.std.specs.Prelude.{◌==◌, slice_get, Option, IfSome}
use Rattle.std.proofs.Math.ListN.{set}
use Rattle.std.proofs.lemmas.Bool.{eqb-true, eq-eqb, ne_eqb}
use Rattle.std.proofs.lemmas.List.{length-set, length-map, length_push, get_or-map, map-set, map_push, set-get_or}
use Rattle.std.proofs.lemmas.Option.{slice_get-get_or, slice_get_within, same_Some}
use Rattle.cc_names.specs.declared.name.Name.{Name}
use Rattle.cc_names.proofs.NameTests.{same_name-refl}
use Rattle.cc_counted.specs.declared.held.Held.{Held}
use Rattle.cc_lists.specs.Members.{Among, has}
use Rattle.cc_lists.proofs.Members.{Among-map}
use Rattle.cc_lists.proofs.Counting.{count_by-append}
use Rattle.cc_lists.proofs.CountsOf.{count_by-none}
use Rattle.cc_lists.proofs.ListWrites.{each-push}
use Rattle.cc_lists.proofs.Numbers.{number-exact}
use Rattle.cc_lists.proofs.OnceEach.{with_all_last-once}
use Rattle.cc_graph.specs.declared.chain.Chain.{Chain}
use Rattle.cc_graph.specs.declared.mapping.Mapping.{Mapping}
use Rattle.cc_graph.specs.declared.node.Node.{Node}
use Rattle.cc_graph.specs.declared.reference.Reference.{Reference}
use Rattle.cc_graph.specs.Shown.{Vertex, Edge, Hyperedge, Rooms, Shown, change_vertex, edges_to, number_of, place_from, with_black}
use Rattle.cc_graph.specs.Closed.{IsHyperedgeWithin, AreHyperedgesWithin, IsWithin, IsClosed}
use Rattle.cc_graph.specs.Kept.{added, with_black_node, with_node, with_next, with_reference, vertex_of, edge_of, hyperedge_of, vertices, edges, hyperedges, chain_of, but_mapping, but_mappings, IsLast, AreReferences, AreMappings, IsWhole}
use Rattle.cc_graph.proofs.Lists.{each-set, each-added, among-at}
use Rattle.cc_graph.proofs.NodesByName.{number-pushed}
use Rattle.cc_graph.proofs.Numbering.{length-vertices, vertices-pushed}
use Rattle.cc_graph.proofs.Chains.{chain-linked, chain-new, chain-none, chain-other, chain-pushed, last-passes, length-with_link, place-passes, shown-with_link}
use Rattle.cc_graph.proofs.Mappings.{chain-set, mappings-added, mappings-pushed, mappings-same}

-- what holds of each element holds of what a read within the list gives
pub each-read : {X : Type 0} (P : X → Type 0) (xs : List X) (i : ℕ) (d : X) → ((x : X) → Among x xs → P x) → i < length xs → P (get_or xs i d)
each-read P xs i d each inside = each (get_or xs i d) (among-at xs i d inside)

-- or of what is there at a place
pub each-got : {X : Type 0} (P : X → Type 0) (xs : List X) (i : ℕ) → ((x : X) → Among x xs → P x) → IfSome (slice_get xs i) P
each-got P (x ∷ xs) (suc i) each = each-got P xs i (λ y m. each y (inr m))
each-got P xs i each = grind (arith)

-- Nodes and references as they are shown

-- as many references are shown as there are
pub length-edges : (rs : List Reference) → length (edges rs) ≡ length rs
length-edges rs = length-map rs edge_of

-- a reference as it is shown
pub edge-at : (rs : List Reference) (j : ℕ) (d : Reference) → j < length rs →
    get_or (edges rs) j (edge_of d) ≡ edge_of (get_or rs j d)
edge-at rs j d inside = get_or-map edge_of rs j d (edge_of d) inside

-- a mapping as it is shown
pub mapping-at : (ms : List Mapping) (j : ℕ) (d : Mapping) → j < length ms →
    get_or (hyperedges ms) j (hyperedge_of d) ≡ hyperedge_of (get_or ms j d)
mapping-at ms j d inside = get_or-map hyperedge_of ms j d (hyperedge_of d) inside

-- is within the nodes
pub mapping-within : (ms : List Mapping) (n j : ℕ) (m : Mapping) → AreHyperedgesWithin n (hyperedges ms) → j < length ms → m ≡ get_or ms j m →
    IsHyperedgeWithin n (hyperedge_of m)
mapping-within ms n j m within inside at =
    subst (λ z. IsHyperedgeWithin n (hyperedge_of z)) (sym at) (within (hyperedge_of (get_or ms j m)) (Among-map hyperedge_of (get_or ms j m) ms (among-at ms j m inside)))

-- graphs with the same parts
pub shown-same : (vs ws : List Vertex) (es fs : List Edge) (ms : List Hyperedge) (bs cs : List ℕ) (n m : ℕ) (r q : Rooms) → vs ≡ ws → es ≡ fs → bs ≡ cs → n ≡ m → r ≡ q →
    ◌≡◌ {A = Shown} (record { nodes = vs; edges = es; hyperedges = ms; blacks = bs; spare = n; room = r })
    (record { nodes = ws; edges = fs; hyperedges = ms; blacks = cs; spare = m; room = q })
shown-same vs ws es fs ms bs cs n m r q a b c d e = rw (a, b, c, d, e) refl

pub shown-mapped : (vs ws : List Vertex) (es : List Edge) (ms ns : List Hyperedge) (bs cs : List ℕ) (n : ℕ) (r q : Rooms) → vs ≡ ws → ms ≡ ns → bs ≡ cs → r ≡ q →
    ◌≡◌ {A = Shown} (record { nodes = vs; edges = es; hyperedges = ms; blacks = bs; spare = n; room = r })
    (record { nodes = ws; edges = es; hyperedges = ns; blacks = cs; spare = n; room = q })
shown-mapped vs ws es ms ns bs cs n r q a b c d = rw (a, b, c, d) refl

-- rooms of the same size
pub rooms-same : (n m b c r : ℕ) → n ≡ m → b ≡ c → ◌≡◌ {A = Rooms} (record { nodes = n; blacks = b; mappings = r }) (record { nodes = m; blacks = c; mappings = r })
rooms-same n m b c r e f = rw (e, f) refl

-- a node becomes black
pub black-last : (bs : List ℕ) (i : ℕ) → has ◌==◌ bs i ≡ false → bs ++ i ∷ [] ≡ with_black bs i
black-last bs i off = ap (λ b. elim b [ true ↦ bs | false ↦ bs ++ i ∷ [] ]) (sym off)

-- a node of a new name has the number that there were
pub number-added : (ks : List Node) (x : Name) (h : Held) → number_of (vertices ks) x ≡ None → number_of (vertices (ks ++ added x h ∷ [])) x ≡ Some (length ks)
number-added ks x h none = grind (arith, vertices-pushed, number-pushed, same_name-refl, length-vertices)

change-at : (vs : List Vertex) (i : ℕ) (f : Vertex → Vertex) (v : Vertex) → slice_get vs i ≡ Some v → change_vertex vs i f ≡ set vs i (f v)
change-at vs i f v h = ap (λ o. elim o [ None ↦ vs | Some w ↦ set vs i (f w) ]) h

-- a node changed
pub vertices-changed : (ks : List Node) (i : ℕ) (d y : Node) (f : Vertex → Vertex) → i < length ks → vertex_of y ≡ f (vertex_of (get_or ks i d)) →
    vertices (set ks i y) ≡ change_vertex (vertices ks) i f
vertices-changed ks i d y f within e =
    let here : slice_get (vertices ks) i ≡ Some (vertex_of (get_or ks i d)) =
    slice_get-get_or (vertices ks) i (vertex_of d) (omega (arith, within, length-vertices ks)) ∙ ap Some (get_or-map vertex_of ks i d (vertex_of d) within) in
    map-set vertex_of ks i y ∙ (ap (set (vertices ks) i) e ∙ sym (change-at (vertices ks) i f (vertex_of (get_or ks i d)) here))

-- a node that is shown as it was
pub vertices-kept : (ks : List Node) (i : ℕ) (d y : Node) → i < length ks → vertex_of y ≡ vertex_of (get_or ks i d) → vertices (set ks i y) ≡ vertices ks
vertices-kept ks i d y within e =
    map-set vertex_of ks i y
    ∙ (ap (set (vertices ks) i) (e ∙ sym (get_or-map vertex_of ks i d (vertex_of d) within)) ∙ set-get_or (vertices ks) i (vertex_of d))

-- a node becomes black
pub vertices-black : (ks : List Node) (i : ℕ) → vertices (with_black_node ks i) ≡ vertices ks
vertices-black ks i = go (slice_get ks i) refl
  where
    go : (o : Option Node) → slice_get ks i ≡ o → vertices (elim o [ None ↦ ks | Some k ↦ set ks i (record k { black = true }) ]) ≡ vertices ks
    go None e = refl
    go (Some k) e =
        let inside : i < length ks = slice_get_within ks i k e in
        let read : Some k ≡ Some (get_or ks i k) = sym e ∙ slice_get-get_or ks i k inside in
        let here : k ≡ get_or ks i k = cc in
        vertices-kept ks i k (record k { black = true }) inside (ap vertex_of here)

-- The whole

-- more nodes
within-more : (n m : ℕ) (es : List Edge) (bs : List ℕ) → IsWithin n es bs → n ≤ m → IsWithin m es bs
within-more n m es bs w le = grind (arith)

-- a member of a mapping, where there is more room for it
member-more : (n m : ℕ) (o : Option ℕ) → IfSome o (λ i. i < n) → n ≤ m → IfSome o (λ i. i < m)
member-more n m o h le = grind (arith)

hyperedges-more : (n m : ℕ) (ms : List Hyperedge) → AreHyperedgesWithin n ms → n ≤ m → AreHyperedgesWithin m ms
hyperedges-more n m ms w le x a = grind (arith, member-more)

-- a node is added
pub whole-added : (ks : List Node) (rs : List Reference) (ms : List Mapping) (loose : Chain) (bs : List ℕ) (x : Name) (h : Held) → IsWhole ks rs ms loose bs →
    length ks < 4294967295 → IsWhole (ks ++ added x h ∷ []) rs ms loose bs
whole-added ks rs ms loose bs x h w few = record {
  few = omega (arith, few, length_push ks (added x h));
  noted = each-added (λ i k. k.noted ≡ edges_to (edges rs) i) ks (added x h) w.noted
      (sym (count_by-none (λ e. e.target == length ks) (edges rs) (λ e m. ne_eqb e.target (length ks) (λ s. let l : e.target < length ks = w.within.targets e m in omega (arith, l, s)))));
  referring = each-added (λ i k. AreReferences i (edges rs) rs k.references) ks (added x h) w.referring
      (chain-none edge_of (λ e. e.source == length ks) (λ r. r.next) rs
      (λ e m. ne_eqb e.source (length ks) (λ s. let l : e.source < length ks = w.within.sources e m in absurd (omega (arith, l, s)))));
  mapping = mappings-added ks loose ms (added x h) w.mapping refl w.mapped;
  within = within-more (length ks) (length (ks ++ added x h ∷ [])) (edges rs) bs w.within (omega (arith, length_push ks (added x h)));
  mapped = hyperedges-more (length ks) (length (ks ++ added x h ∷ [])) (hyperedges ms) w.mapped (omega (arith, length_push ks (added x h)));
}

-- a name gets its node, where it has none
pub whole-with : (ks : List Node) (rs : List Reference) (ms : List Mapping) (loose : Chain) (bs : List ℕ) (x : Name) (h : Held) → IsWhole ks rs ms loose bs →
    length ks < 4294967295 → IsWhole (with_node ks x h) rs ms loose bs
whole-with ks rs ms loose bs x h w few = go (number_of (vertices ks) x)
  where
    go : (o : Option ℕ) → IsWhole (elim o [ Some i ↦ ks | None ↦ ks ++ added x h ∷ [] ]) rs ms loose bs
    go (Some i) = w
    go None = whole-added ks rs ms loose bs x h w few

-- which has its number,
pub number-with : (ks : List Node) (x : Name) (h : Held) → number_of (vertices (with_node ks x h)) x ≡ Some (unwrap_or (number_of (vertices ks) x) (length ks))
number-with ks x h = grind (arith, unwrap_or, number-added)

-- a node changes, but for what is kept of references and mappings
pub whole-put : (ks : List Node) (rs : List Reference) (ms : List Mapping) (loose : Chain) (bs : List ℕ) (i : ℕ) (d y : Node) → IsWhole ks rs ms loose bs → i < length ks →
    y.noted ≡ (get_or ks i d).noted → y.references ≡ (get_or ks i d).references → y.mappings ≡ (get_or ks i d).mappings → IsWhole (set ks i y) rs ms loose bs
whole-put ks rs ms loose bs i d y w inside noted references mappings = record {
  few = omega (arith, w.few, length-set ks i y);
  noted = each-set (λ j k. k.noted ≡ edges_to (edges rs) j) ks i y inside (noted ∙ w.noted i d inside) (λ j e within other. w.noted j e within);
  referring = each-set (λ j k. AreReferences j (edges rs) rs k.references) ks i y inside
      (subst (AreReferences i (edges rs) rs) (sym references) (w.referring i d inside)) (λ j e within other. w.referring j e within);
  mapping = mappings-same (chain_of ks loose) (chain_of (set ks i y) loose) (λ n. hyperedges ms) ms (chain-set ks loose i d y inside mappings) w.mapping;
  within = within-more (length ks) (length (set ks i y)) (edges rs) bs w.within (omega (arith, length-set ks i y));
  mapped = hyperedges-more (length ks) (length (set ks i y)) (hyperedges ms) w.mapped (omega (arith, length-set ks i y));
}

-- one more is black
pub whole-blackened : (ks : List Node) (rs : List Reference) (ms : List Mapping) (loose : Chain) (bs : List ℕ) (i : ℕ) → IsWhole ks rs ms loose bs → i < length ks →
    has ◌==◌ bs i ≡ false → IsWhole ks rs ms loose (bs ++ i ∷ [])
whole-blackened ks rs ms loose bs i w inside off = record {
  few = w.few;
  noted = w.noted;
  referring = w.referring;
  mapping = w.mapping;
  within = record {
    sources = w.within.sources;
    targets = w.within.targets;
    members = each-push (λ k. k < length ks) bs i w.within.members inside;
    once = λ k. subst (λ b. count_by (λ j. k == j) (elim b [ true ↦ bs | false ↦ bs ++ i ∷ [] ]) ≤ 1) off (with_all_last-once ◌==◌ number-exact bs (i ∷ []) k (w.within.once k));
  };
  mapped = w.mapped;
}

-- the node knows it
pub whole-black_node : (ks : List Node) (rs : List Reference) (ms : List Mapping) (loose : Chain) (bs : List ℕ) (i : ℕ) → IsWhole ks rs ms loose bs →
    IsWhole (with_black_node ks i) rs ms loose bs
whole-black_node ks rs ms loose bs i w = go (slice_get ks i) refl
  where
    go : (o : Option Node) → slice_get ks i ≡ o → IsWhole (elim o [ None ↦ ks | Some k ↦ set ks i (record k { black = true }) ]) rs ms loose bs
    go None e = w
    go (Some k) e =
        let inside : i < length ks = slice_get_within ks i k e in
        let read : Some k ≡ Some (get_or ks i k) = sym e ∙ slice_get-get_or ks i k inside in
        let here : k ≡ get_or ks i k = cc in
        whole-put ks rs ms loose bs i k (record k { black = true }) w inside (ap (λ n. n.noted) here) (ap (λ n. n.references) here) (ap (λ n. n.mappings) here)

-- A mapping is noted: what is kept of nodes but for their mappings stays

but-length : (ks ls : List Node) → but_mappings ls ≡ but_mappings ks → length ls ≡ length ks
but-length ks ls same = sym (length-map ls but_mapping) ∙ (ap length same ∙ length-map ks but_mapping)

but-at : (ks ls : List Node) (i : ℕ) (d : Node) → but_mappings ls ≡ but_mappings ks → i < length ks → but_mapping (get_or ls i d) ≡ but_mapping (get_or ks i d)
but-at ks ls i d same inside =
    sym (get_or-map but_mapping ls i d (but_mapping d) (omega (arith, inside, but-length ks ls same)))
    ∙ (ap (λ xs. get_or xs i (but_mapping d)) same ∙ get_or-map but_mapping ks i d (but_mapping d) inside)

-- they are shown as they were
pub but-shown : (ks ls : List Node) → but_mappings ls ≡ but_mappings ks → vertices ls ≡ vertices ks
but-shown ks ls same = sym (over ls) ∙ (ap vertices same ∙ over ks)
  where
    over : (xs : List Node) → vertices (but_mappings xs) ≡ vertices xs
    over [] = refl
    over (x ∷ xs) = ap (λ vs. vertex_of x ∷ vs) (over xs)

pub whole-mapped : (ks ls : List Node) (rs : List Reference) (ms ns : List Mapping) (loose free : Chain) (bs : List ℕ) (m : Hyperedge) (y : Mapping) → IsWhole ks rs ms loose bs →
    IsHyperedgeWithin (length ks) m → but_mappings ls ≡ but_mappings ks → hyperedges ns ≡ hyperedges ms →
    AreMappings (chain_of ls free) (λ n. hyperedges ms ++ m ∷ []) ns → hyperedge_of y ≡ m → y.next_of_map ≡ None → y.next_of_key ≡ None →
    IsWhole ls rs (ns ++ y ∷ []) free bs
whole-mapped ks ls rs ms ns loose free bs m y w within same shown chains is no_map no_key = record {
  few = omega (arith, w.few, but-length ks ls same);
  noted = λ i d l. let inside : i < length ks = omega (arith, l, but-length ks ls same) in ap (λ (k : Node). k.noted) (but-at ks ls i d same inside) ∙ w.noted i d inside;
  referring = λ i d l. let inside : i < length ks = omega (arith, l, but-length ks ls same) in
      subst (AreReferences i (edges rs) rs) (sym (ap (λ (k : Node). k.references) (but-at ks ls i d same inside))) (w.referring i d inside);
  mapping = mappings-pushed (chain_of ls free) ns m y (hyperedges ms) chains shown is no_map no_key;
  within = within-more (length ks) (length ls) (edges rs) bs w.within (omega (arith, but-length ks ls same));
  mapped = subst (AreHyperedgesWithin (length ls)) (sym (map_push hyperedge_of ns y ∙ (ap (λ xs. xs ++ hyperedge_of y ∷ []) shown ∙ ap (λ z. hyperedges ms ++ z ∷ []) is)))
      (hyperedges-more (length ks) (length ls) (hyperedges ms ++ m ∷ []) (each-push (IsHyperedgeWithin (length ks)) (hyperedges ms) m w.mapped within) (omega (arith, but-length ks ls same)));
}

-- A reference is noted

-- the references with one more, as they are shown
pub edges-noted : (rs : List Reference) (o : Option ℕ) (n : ℕ) (r : Reference) → edges (with_next rs o n ++ r ∷ []) ≡ edges rs ++ edge_of r ∷ []
edges-noted rs o n r = grind (arith, map_push, shown-with_link)

pub length-with_next : (rs : List Reference) (o : Option ℕ) (n : ℕ) → length (with_next rs o n) ≡ length rs
length-with_next rs o n = length-with_link (λ r n. record r { next = Some n }) rs o n

-- the places of references, as readers see them
pub place-source : (es : List Edge) (i start : ℕ) (o : Option ℕ) → start ≤ length es → o ≡ place_from es i start →
    IfSome o (λ j. option_map (λ e. e.source) (slice_get es j) ≡ Some i)
place-source es i start None l e = tt
place-source es i start (Some j) l e = go (slice_get es j) (place-passes (λ e. e.source == i) es start (Some j) l e)
  where
    go : (o : Option Edge) → option_map (λ e. e.source == i) o ≡ Some true → option_map (λ e. e.source) o ≡ Some i
    go None h = absurd (cc)
    go (Some x) h = ap Some (eqb-true x.source i (same_Some _ _ h))

-- the next one of the node that has a reference
pub next-kept : (ks : List Node) (rs : List Reference) (j : ℕ) (d : Reference) → ((i : ℕ) (d : Node) → i < length ks → AreReferences i (edges rs) rs (get_or ks i d).references) →
    ((e : Edge) → Among e (edges rs) → e.source < length ks) → j < length rs → (get_or rs j d).next ≡ place_from (edges rs) (get_or rs j d).source (j + 1)
next-kept [] rs j d each sources inside =
    let l : (get_or rs j d).source < 0 = sources (edge_of (get_or rs j d)) (Among-map edge_of (get_or rs j d) rs (among-at rs j d inside)) in absurd (omega (arith, l))
next-kept (k ∷ ks) rs j d each sources inside =
    (each (get_or rs j d).source k (sources (edge_of (get_or rs j d)) (Among-map edge_of (get_or rs j d) rs (among-at rs j d inside)))).links j d inside
    (eq-eqb (get_or rs j d).source (get_or rs j d).source refl)

-- the node that it leads to counts one more
noted-all : (ks : List Node) (es : List Edge) (e : Edge) (d t : Node) → ((i : ℕ) (d : Node) → i < length ks → (get_or ks i d).noted ≡ edges_to es i) → e.target < length ks →
    t.noted ≡ (get_or ks e.target d).noted + 1 → (i : ℕ) (d : Node) → i < length (set ks e.target t) → (get_or (set ks e.target t) i d).noted ≡ edges_to (es ++ e ∷ []) i
noted-all ks es e d t noted inside more = each-set (λ i k. k.noted ≡ edges_to (es ++ e ∷ []) i) ks e.target t inside
    (let old : (get_or ks e.target d).noted ≡ edges_to es e.target = noted e.target d inside in
    let step : edges_to (es ++ e ∷ []) e.target ≡ edges_to es e.target + (0 + cond (e.target == e.target) 1 0) = count_by-append (λ x. x.target == e.target) es (e ∷ []) in
    let one : cond {A = ℕ} (e.target == e.target) 1 0 ≡ 1 = rw (eq-eqb e.target e.target refl) refl in
    omega (arith, more, old, step, one))
    (λ k x within other.
    let old : (get_or ks k x).noted ≡ edges_to es k = noted k x within in
    let step : edges_to (es ++ e ∷ []) k ≡ edges_to es k + (0 + cond (e.target == k) 1 0) = count_by-append (λ x. x.target == k) es (e ∷ []) in
    let none : cond {A = ℕ} (e.target == k) 1 0 ≡ 0 = rw (ne_eqb e.target k (λ s. other (sym s))) refl in
    omega (arith, old, step, none))

-- a node of which no more than what leads to it changed
kept-all : (P : ℕ → Chain → Type 0) (ks : List Node) (to : ℕ) (d t : Node) → ((i : ℕ) (d : Node) → i < length ks → P i (get_or ks i d).references) → to < length ks →
    t.references ≡ (get_or ks to d).references → (i : ℕ) (d : Node) → i < length (set ks to t) → P i (get_or (set ks to t) i d).references
kept-all P ks to d t each inside same = each-set (λ i k. P i k.references) ks to t inside (subst (P to) (sym same) (each to d inside)) (λ k x within other. each k x within)

-- the node that has it chains it, and the others keep their chains
referring-all : (ks : List Node) (rs : List Reference) (from n : ℕ) (s : Node) (r : Reference) → ((i : ℕ) (d : Node) → i < length ks → AreReferences i (edges rs) rs (get_or ks i d).references) →
    from < length ks → n ≡ length rs → s ≡ get_or ks from s → r.source ≡ from → r.next ≡ None →
    (i : ℕ) (x : Node) → i < length (set ks from (with_reference s n)) →
    AreReferences i (edges rs ++ edge_of r ∷ []) (with_next rs s.references.last n ++ r ∷ []) (get_or (set ks from (with_reference s n)) i x).references
referring-all ks rs from n s r each inside count read source none i x l =
    chain-pushed edge_of (λ e. e.source == i) (λ r. r.next) (edges rs ++ edge_of r ∷ []) (with_next rs s.references.last n) _ r
    (each-set (λ j k. AreReferences j (edges rs ++ edge_of r ∷ []) (with_next rs s.references.last n) k.references) ks from (with_reference s n) inside
    (chain-new edge_of (λ e. e.source == from) (λ r. r.next) (λ r n. record r { next = Some n }) (λ r n. refl) rs s.references (edge_of r) n own
    (eq-eqb r.source from source) count (λ r n. refl))
    (λ j d within other.
    chain-linked edge_of (λ e. e.source == j) (λ r. r.next) (λ r n. record r { next = Some n }) (λ r n. refl) (edges rs ++ edge_of r ∷ []) rs _ s.references.last n
    (chain-other edge_of (λ e. e.source == j) (λ r. r.next) (edges rs) rs _ (edge_of r) (each j d within) (omega (arith, length-edges rs))
    (ne_eqb r.source j (λ e. other (sym e ∙ source))))
    (λ l q last there passes. absurd (other (sym (eqb-true q.source j passes) ∙ its l q last there))))
    i x l)
    (omega (arith, length_push (edges rs) (edge_of r), length-edges rs, length-with_next rs s.references.last n)) none
  where
    own : AreReferences from (edges rs) rs s.references
    own = subst (λ k. AreReferences from (edges rs) rs k.references) (sym read) (each from s inside)

    -- the last reference of the node is its own
    its : (l : ℕ) (q : Reference) → s.references.last ≡ Some l → slice_get rs l ≡ Some q → q.source ≡ from
    its l q last there =
        let within : l < length rs = slice_get_within rs l q there in
        let here : q ≡ get_or rs l q = same_Some _ _ (sym there ∙ slice_get-get_or rs l q within) in
        let passes : ((get_or (edges rs) l (edge_of q)).source == from) ≡ true =
        last-passes (λ e. e.source == from) (edges rs) l (edge_of q) (subst (IsLast (λ e. e.source == from) (edges rs)) last own.last) in
        ap (λ z. z.source) here ∙ (ap (λ z. z.source) (sym (edge-at rs l q within)) ∙ eqb-true _ _ passes)

-- the whole
pub whole-noted : (ks : List Node) (rs : List Reference) (ms : List Mapping) (loose : Chain) (bs : List ℕ) (from to n : ℕ) (d t s : Node) → IsWhole ks rs ms loose bs → from < length ks →
    to < length ks → n ≡ length rs → t.noted ≡ (get_or ks to d).noted + 1 → t.references ≡ (get_or ks to d).references → t.mappings ≡ (get_or ks to d).mappings →
    s ≡ get_or (set ks to t) from s →
    IsWhole (set (set ks to t) from (with_reference s n)) (with_next rs s.references.last n ++ record { source = from; target = to; next = None } ∷ []) ms loose bs
whole-noted ks rs ms loose bs from to n d t s w here there count noted references mappings read =
    let r : Reference = record { source = from; target = to; next = None } in
    let e : Edge = record { source = from; target = to } in
    let between : List Node = set ks to t in
    let after : List Node = set between from (with_reference s n) in
    let shown : edges (with_next rs s.references.last n ++ r ∷ []) ≡ edges rs ++ e ∷ [] = edges-noted rs s.references.last n r in
    let as_many : length after ≡ length ks = omega (arith, length-set ks to t, length-set between from (with_reference s n)) in
    let inside : from < length between = omega (arith, here, length-set ks to t) in
    let counted = noted-all ks (edges rs) e d t w.noted there noted in
    record {
      few = omega (arith, w.few, as_many);
      noted = subst (λ es. (i : ℕ) (x : Node) → i < length after → (get_or after i x).noted ≡ edges_to es i) (sym shown)
          (each-set (λ i k. k.noted ≡ edges_to (edges rs ++ e ∷ []) i) between from (with_reference s n) inside
          (subst (λ k. k.noted ≡ edges_to (edges rs ++ e ∷ []) from) (sym read) (counted from s inside)) (λ j x l other. counted j x l));
      referring = subst (λ es. (i : ℕ) (x : Node) → i < length after → AreReferences i es (with_next rs s.references.last n ++ r ∷ []) (get_or after i x).references) (sym shown)
          (referring-all between rs from n s r (kept-all (λ i c. AreReferences i (edges rs) rs c) ks to d t w.referring there references) inside count read refl refl);
      mapping = mappings-same (chain_of ks loose) (chain_of after loose) (λ n. hyperedges ms) ms
          (λ o. chain-set between loose from s (with_reference s n) inside (ap (λ k. k.mappings) read) o ∙ chain-set ks loose to d t there mappings o) w.mapping;
      within = subst (λ es. IsWithin (length after) es bs) (sym shown) (record {
        sources = each-push (λ x. x.source < length after) (edges rs) e (λ x m. let l = w.within.sources x m in omega (arith, l, as_many)) (omega (arith, here, as_many));
        targets = each-push (λ x. x.target < length after) (edges rs) e (λ x m. let l = w.within.targets x m in omega (arith, l, as_many)) (omega (arith, there, as_many));
        members = λ k m. let l = w.within.members k m in omega (arith, l, as_many);
        once = w.within.once;
      });
      mapped = hyperedges-more (length ks) (length after) (hyperedges ms) w.mapped (omega (arith, as_many));
    }

-- the nodes are shown as they were
pub vertices-noted : (ks : List Node) (from to n : ℕ) (d t s : Node) → from < length ks → to < length ks → vertex_of t ≡ vertex_of (get_or ks to d) →
    s ≡ get_or (set ks to t) from s → vertices (set (set ks to t) from (with_reference s n)) ≡ vertices ks
vertices-noted ks from to n d t s here there shown read = grind (arith, vertices-kept, length-set)

-- a whole graph is shown within its nodes
pub whole-closed : (ks : List Node) (rs : List Reference) (ms : List Mapping) (loose : Chain) (bs : List ℕ) {spare : ℕ} {room : Rooms} → IsWhole ks rs ms loose bs →
    IsClosed (record { nodes = vertices ks; edges = edges rs; hyperedges = hyperedges ms; blacks = bs; spare = spare; room = room })
whole-closed ks rs ms loose bs w = record {
  few = omega (arith, w.few, length-vertices ks);
  within = subst (λ n. IsWithin n (edges rs) bs) (sym (length-vertices ks)) w.within;
  hyperedges = subst (λ n. AreHyperedgesWithin n (hyperedges ms)) (sym (length-vertices ks)) w.mapped;
}

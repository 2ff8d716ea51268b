-- The snapshot with which a build begins.
use Rattle.std.proofs.Common.{◌≡◌, ◌≢◌, ℕ, zero, ◌+◌, ◌<◌, ◌≤◌, ◌==◌, Bool, true, false, cond, List, [], ◌∷◌, ◌++◌, map, length, take, refl, sym, ◌∙◌, ap, subst, inl, arith, option_to_list, append_assoc, count_by, length-append}
use Rattle.std.specs.List.{filter, flat_map}
use Rattle.std.proofs.Math.Seq.{take-length}
use Rattle.std.proofs.lemmas.Bool.{eq-eqb}
use Rattle.std.proofs.lemmas.List.{append-nil, take-map, take-append-le}
use Rattle.cc_lists.specs.Members.{Among, has, with_last, with_all_last}
use Rattle.cc_lists.proofs.Members.{Among-right, Among-flat_map, has-among}
use Rattle.cc_lists.proofs.Counting.{count_by-append, count_by-cons, count_by-map, count_by-some}
use Rattle.cc_lists.proofs.Filtering.{count_by-filter-le, count_by-weaker}
use Rattle.cc_lists.proofs.OnceEach.{with_all_last-keeps, with_all_last-there}
use Rattle.cc_names.specs.declared.name.Name.{Name}
use Rattle.cc_names.specs.Names.{native, natives_in, number_of, same_name}
use Rattle.cc_names.proofs.NameTests.{same_name-exact, same_name-refl, same_name-true}
use Rattle.cc_model.specs.Heap.{Heap, Buffered}
use Rattle.cc_model.specs.Snapshot.{Mapping, untraversed}
use Rattle.cc_model.specs.Units.{candidates_of, holders_of, mappings_of, members_of, first_names, new_node, begun}
use Rattle.cc_model.specs.End.{some_are}
use Rattle.cc_laws_heap.proofs.Face.{natives_in-natives}
use Rattle.cc_graph.specs.Shown.{Vertex}
use Rattle.cc_heaps.specs.Keyed.{Keyed, IsInOrder}
use Rattle.cc_builder.specs.Building.{Built, IsBuilt, vertex_names, node_with, nodes_of, reference_of, mapping_of, snapshot_of}
use Rattle.cc_builder.proofs.BuildKept.{IsBuilt-with}
use Rattle.cc_builder.proofs.BuildSnapshots.{snapshot-same}

-- Names that go last one after the other

pub with_all_last-append : (xs ys zs : List Name) → with_all_last same_name xs (ys ++ zs) ≡ with_all_last same_name (with_all_last same_name xs ys) zs
with_all_last-append xs [] zs = refl
with_all_last-append xs (y ∷ ys) zs = with_all_last-append (with_last same_name xs y) ys zs

-- Names that go last leave the first ones as they are

with_last-first : (n : ℕ) (xs : List Name) (y : Name) → n ≤ length xs → (n ≤ length (with_last same_name xs y)) × (take n (with_last same_name xs y) ≡ take n xs)
with_last-first n xs y l = go (has same_name xs y)
  where
    go : (b : Bool) → (n ≤ length {A = Name} (elim b [ true ↦ xs | false ↦ xs ++ y ∷ [] ])) × (take {A = Name} n (elim b [ true ↦ xs | false ↦ xs ++ y ∷ [] ]) ≡ take n xs)
    go true = (l, refl)
    go false = (omega (arith, length-append xs (y ∷ [])), take-append-le n xs (y ∷ []) l)

pub with_all_last-first : (n : ℕ) (xs ys : List Name) → n ≤ length xs → take n (with_all_last same_name xs ys) ≡ take n xs
with_all_last-first n xs [] l = refl
with_all_last-first n xs (y ∷ ys) l =
    let one = with_last-first n xs y l in
    with_all_last-first n (with_last same_name xs y) ys one.0 ∙ one.1

pub with_all_last-longer : (xs ys : List Name) → length xs ≤ length (with_all_last same_name xs ys)
with_all_last-longer xs [] = omega arith
with_all_last-longer xs (y ∷ ys) =
    let one = with_last-first (length xs) xs y (omega arith) in
    omega (arith, one.0, with_all_last-longer (with_last same_name xs y) ys)

-- a name that is not there twice is new
new-name : (xs ys : List Name) (y : Name) → count_by (same_name y) (xs ++ y ∷ ys) ≤ 1 → has same_name xs y ≡ false
new-name xs ys y once = go (has same_name xs y) refl
  where
    go : (b : Bool) → has same_name xs y ≡ b → has same_name xs y ≡ false
    go false e = e
    go true e =
        let here : 0 < count_by (same_name y) xs = count_by-some (same_name y) y xs (has-among same_name same_name-exact xs y e) (same_name-refl y) in
        let all : count_by (same_name y) (xs ++ y ∷ ys) ≡ count_by (same_name y) xs + count_by (same_name y) (y ∷ ys) = count_by-append (same_name y) xs (y ∷ ys) in
        let one : count_by (same_name y) (y ∷ ys) ≡ 1 + count_by (same_name y) ys =
        count_by-cons (same_name y) y ys ∙ ap (λ b. cond b 1 0 + count_by (same_name y) ys) (same_name-refl y) in
        absurd (omega (arith, once))

-- distinct names go last as they are
with_all_last-distinct : (xs ys : List Name) → ((x : Name) → count_by (same_name x) (xs ++ ys) ≤ 1) → with_all_last same_name xs ys ≡ xs ++ ys
with_all_last-distinct xs [] once = sym (append-nil xs)
with_all_last-distinct xs (y ∷ ys) once =
    let one : with_last same_name xs y ≡ xs ++ y ∷ [] = ap (λ b. elim b [ true ↦ xs | false ↦ xs ++ y ∷ [] ]) (new-name xs ys y (once y)) in
    let joined : (xs ++ y ∷ []) ++ ys ≡ xs ++ y ∷ ys = append_assoc xs (y ∷ []) ys in
    ap (λ zs. with_all_last same_name zs ys) one
    ∙ with_all_last-distinct (xs ++ y ∷ []) ys (λ x. subst (λ zs. count_by (same_name x) zs ≤ 1) (sym joined) (once x))
    ∙ joined

-- the candidates are distinct
candidates-distinct : (h : Heap) → ((k : ℕ) → count_by (λ (b : Buffered). b.number == k) h.buffer ≤ 1) → (x : Name) → count_by (same_name x) (map native (candidates_of h)) ≤ 1
candidates-distinct h once x =
    let ks = candidates_of h in
    let n = number_of x in
    let names = count_by-map (same_name x) native ks in
    let weaker = count_by-weaker (λ (j : ℕ). same_name x (native j)) (λ (j : ℕ). j == n) ks
    (λ j t. eq-eqb j n (ap number_of (sym (same_name-true x (native j) t)))) in
    let numbers = count_by-map (λ (j : ℕ). j == n) (λ (b : Buffered). b.number) (filter (λ (b : Buffered). b.purple) h.buffer) in
    let fewer = count_by-filter-le (λ (b : Buffered). b.number == n) (λ (b : Buffered). b.purple) h.buffer in
    omega (arith, once n, names, weaker, numbers, fewer)

-- The first nodes: the candidates, then the holders, then the members of mappings

-- the names of the candidates, each once
abbrev pub candidate_names : Heap → List Name
candidate_names h = with_all_last same_name [] (map native (candidates_of h))

-- and of the holders
abbrev pub holder_names : Heap → List Name
holder_names h = with_all_last same_name (candidate_names h) (holders_of h)

abbrev pub member_names : Heap → List Name
member_names h = flat_map members_of (mappings_of h)

first-names-in_turn : (h : Heap) → first_names h ≡ with_all_last same_name (holder_names h) (member_names h)
first-names-in_turn h =
    with_all_last-append [] (map native (candidates_of h)) (holders_of h ++ member_names h)
    ∙ with_all_last-append (candidate_names h) (holders_of h) (member_names h)

-- where something is among them, there are some
some-among : (xs : List Name) (x : Name) → Among x xs → some_are xs ≡ true
some-among [] x m = absurd m
some-among (y ∷ ys) x m = refl

-- what is among the names so far is among them all
kept-some_are : (h : Heap) (x : Name) → Among x (holder_names h) → some_are (first_names h) ≡ true
kept-some_are h x m =
    ap some_are (first-names-in_turn h)
    ∙ some-among (with_all_last same_name (holder_names h) (member_names h)) x (with_all_last-keeps same_name same_name-exact (holder_names h) (member_names h) x m)

-- as a candidate is,
pub first-some_are : (h : Heap) (xs ys : List Name) (k : ℕ) → with_all_last same_name xs (native k ∷ ys) ≡ candidate_names h → some_are (first_names h) ≡ true
first-some_are h xs ys k e =
    let candidate = subst (λ zs. Among (native k) zs) e (with_all_last-there same_name same_name-exact xs (native k ∷ ys) (native k) (inl refl)) in
    kept-some_are h (native k) (with_all_last-keeps same_name same_name-exact (candidate_names h) (holders_of h) (native k) candidate)

-- a holder,
pub holders-some_are : (h : Heap) → holders_of h ≢ [] → some_are (first_names h) ≡ true
holders-some_are h some = go (holders_of h) refl
  where
    go : (ys : List Name) → holders_of h ≡ ys → some_are (first_names h) ≡ true
    go [] e = absurd (some e)
    go (y ∷ ys) e = kept-some_are h y
        (with_all_last-there same_name same_name-exact (candidate_names h) (holders_of h) y (subst (Among y) (sym e) (inl refl)))

-- and a member of a mapping, as its value
pub mappings-some_are : (h : Heap) → mappings_of h ≢ [] → some_are (first_names h) ≡ true
mappings-some_are h some = go (mappings_of h) refl
  where
    value-member : (m : Mapping) → Among m.value (members_of m)
    value-member m = Among-right m.value (option_to_list m.the_map) (option_to_list m.key ++ m.value ∷ [])
        (Among-right m.value (option_to_list m.key) (m.value ∷ []) (inl refl))

    go : (ms : List Mapping) → mappings_of h ≡ ms → some_are (first_names h) ≡ true
    go [] e = absurd (some e)
    go (m ∷ ms) e =
        let member : Among m.value (member_names h) = Among-flat_map members_of m m.value (mappings_of h) (subst (Among m) (sym e) (inl refl)) (value-member m) in
        ap some_are (first-names-in_turn h)
        ∙ some-among (with_all_last same_name (holder_names h) (member_names h)) m.value
        (with_all_last-there same_name same_name-exact (holder_names h) (member_names h) m.value member)

-- THE SNAPSHOT BEGUN
nodes-new : (vs : List Vertex) → nodes_of zero vs ≡ map new_node (vertex_names vs)
nodes-new [] = refl
nodes-new (v ∷ vs) = ap (λ ns. node_with untraversed v ∷ ns) (nodes-new vs)

-- the candidates are the natives that were purple, whatever names follow theirs
first-candidates : (b : Built) (v : Keyed) (xs ys : List Name) → IsInOrder [] v → xs ≡ candidate_names v.heap →
    vertex_names b.graph.nodes ≡ with_all_last same_name xs ys → b.candidates ≡ length xs →
    flat_map natives_in (vertex_names (take b.candidates b.graph.nodes)) ≡ candidates_of v.heap
first-candidates b v xs ys order purple names all =
    let vs = b.graph.nodes in
    let cs = candidates_of v.heap in
    ap (flat_map natives_in) (sym (take-map (λ (w : Vertex). w.name) b.candidates vs)
    ∙ ap (take b.candidates) names
    ∙ ap (λ n. take n (with_all_last same_name xs ys)) all
    ∙ with_all_last-first (length xs) xs ys (omega arith)
    ∙ take-length xs
    ∙ purple
    ∙ with_all_last-distinct [] (map native cs) (candidates-distinct v.heap order.sound.well_formed.buffered_once))
    ∙ natives_in-natives cs

-- what the first unit came to, by the names of candidates and of holders
pub record HasBegun (b : Built) (h : Heap) (xs ys : List Name) : Type 0 where
  pub purple : xs ≡ candidate_names h
  pub holders : ys ≡ with_all_last same_name xs (holders_of h)
  pub names : vertex_names b.graph.nodes ≡ with_all_last same_name ys (member_names h)
  pub mappings : map (mapping_of b.graph.nodes) b.graph.hyperedges ≡ mappings_of h
  pub next : b.next ≡ 0
  pub candidates : b.candidates ≡ length xs
  pub edges : b.graph.edges ≡ []

pub snapshot-begun : (b : Built) (v : Keyed) (xs ys : List Name) → IsInOrder [] v → HasBegun b v.heap xs ys → snapshot_of b ≡ begun v.heap
snapshot-begun b v xs ys order begins =
    let h = v.heap in
    let vs = b.graph.nodes in
    let members = member_names h in
    let named : vertex_names vs ≡ with_all_last same_name xs (holders_of h ++ members) =
    begins.names ∙ ap (λ zs. with_all_last same_name zs members) begins.holders ∙ sym (with_all_last-append xs (holders_of h) members) in
    let first : vertex_names vs ≡ first_names h =
    named
    ∙ ap (λ zs. with_all_last same_name zs (holders_of h ++ members)) begins.purple
    ∙ sym (with_all_last-append [] (map native (candidates_of h)) (holders_of h ++ members)) in
    snapshot-same
    (flat_map natives_in (vertex_names (take b.candidates vs))) (candidates_of h)
    (nodes_of b.next vs) (map new_node (first_names h))
    (map (reference_of vs) b.graph.edges) []
    (map (mapping_of vs) b.graph.hyperedges) (mappings_of h)
    (first-candidates b v xs (holders_of h ++ members) order begins.purple named begins.candidates)
    (ap (λ n. nodes_of n vs) begins.next ∙ nodes-new vs ∙ ap (map new_node) first)
    (ap (map (reference_of vs)) begins.edges)
    begins.mappings

-- all nodes are candidates
pub IsBuilt-all : (b : Built) (v : Keyed) (n : ℕ) → n ≡ length b.graph.nodes → IsBuilt b v → IsBuilt (record b { candidates = n }) v
IsBuilt-all b v n e built = IsBuilt-with b v b.graph.edges b.graph.spare n b.next built built.behind (omega arith) built.closed built.unsampled

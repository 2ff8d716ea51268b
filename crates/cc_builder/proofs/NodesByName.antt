-- Nodes by their numbers and by their names, of which no two are the same.
use Rattle.std.specs.Prelude.{slice_get}
use Rattle.std.proofs.Common.{◌≡◌, ℕ, zero, suc, ◌+◌, ◌<◌, ◌≤◌, ◌==◌, Bool, true, false, cond, List, [], ◌∷◌, length, map, Option, Some, None, option_map, refl, sym, ◌∙◌, ap, ⊎_elim, arith, count_by}
use Rattle.std.proofs.lemmas.Bool.{true≢false, eqb-true, eq-eqb}
use Rattle.std.proofs.lemmas.Option.{slice_get_cases, slice_get-map, get_or_from_slice_get}
use Rattle.cc_lists.specs.Members.{Among}
use Rattle.cc_lists.proofs.Counting.{count_by-cons, count_by-map, count_by-some}
use Rattle.cc_lists.proofs.CountsOf.{count_by-agree}
use Rattle.cc_lists.proofs.Places.{place-among}
use Rattle.cc_names.specs.declared.name.Name.{Name}
use Rattle.cc_names.specs.Names.{native, same_name}
use Rattle.cc_names.proofs.NameTests.{same_name-true, same_name-refl, same_name-exact}
use Rattle.cc_model.specs.View.{to}
use Rattle.cc_model.specs.Snapshot.{Node}
use Rattle.cc_graph.specs.Shown.{Vertex, Edge, number_from, edges_to}
use Rattle.cc_heaps.proofs.Reaching.{same-tests}
use Rattle.cc_builder.specs.Building.{state_behind, node_with, nodes_of, vertex_names, vertex_name, reference_of}

-- the name of a node by its number
pub name-at : (vs : List Vertex) (i : ℕ) (w : Vertex) → slice_get vs i ≡ Some w → vertex_name vs i ≡ w.name
name-at vs i w e = get_or_from_slice_get (vertex_names vs) i w.name (native 0) (slice_get-map (λ (v : Vertex). v.name) vs i ∙ ap (option_map (λ (v : Vertex). v.name)) e)

-- there is one for each number below their count
pub node-at : (vs : List Vertex) (i : ℕ) → i < length vs → (w : Vertex) × (slice_get vs i ≡ Some w)
node-at vs i l = ⊎_elim (λ had. (had.0, had.2)) (λ past. let far : length vs ≤ i = past.0 in absurd (omega arith)) (slice_get_cases vs i).1

abbrev pub HasDistinctNames : List Vertex → Type 0
HasDistinctNames vs = (x : Name) → count_by (λ n. same_name n.name x) vs ≤ 1

distinct-rest : (v : Vertex) (vs : List Vertex) → HasDistinctNames (v ∷ vs) → HasDistinctNames vs
distinct-rest v vs few x =
    let all : count_by (λ n. same_name n.name x) (v ∷ vs) ≤ 1 = few x in
    omega (arith, count_by-cons (λ (n : Vertex). same_name n.name x) v vs)

-- the first node's name is no other's
distinct-first : (v : Vertex) (vs : List Vertex) → HasDistinctNames (v ∷ vs) → (j : ℕ) (w : Vertex) → slice_get vs j ≡ Some w → v.name ≡ w.name → ⊥
distinct-first v vs few j w e same =
    let all : count_by (λ n. same_name n.name w.name) (v ∷ vs) ≤ 1 = few w.name in
    let more : 0 < count_by (λ n. same_name n.name w.name) vs = count_by-some (λ (n : Vertex). same_name n.name w.name) w vs (place-among w vs j e) (same_name-refl w.name) in
    let counted : count_by (λ n. same_name n.name w.name) (v ∷ vs) ≡ 1 + count_by (λ n. same_name n.name w.name) vs =
    count_by-cons (λ (n : Vertex). same_name n.name w.name) v vs ∙
    ap (λ b. cond b 1 0 + count_by (λ (n : Vertex). same_name n.name w.name) vs) ((same_name-exact v.name w.name).1 same) in
    omega arith

-- a name is that of one number
pub distinct-number : (vs : List Vertex) → HasDistinctNames vs → (i j : ℕ) (u w : Vertex) → slice_get vs i ≡ Some u → slice_get vs j ≡ Some w → u.name ≡ w.name → i ≡ j
distinct-number [] few i j u w a e same = absurd (cc)
distinct-number (v ∷ vs) few zero zero u w a e same = refl
distinct-number (v ∷ vs) few zero (suc j) u w a e same =
    let it : v ≡ u = cc in
    absurd (distinct-first v vs few j w e (ap (λ (z : Vertex). z.name) it ∙ same))
distinct-number (v ∷ vs) few (suc i) zero u w a e same =
    let it : v ≡ w = cc in
    absurd (distinct-first v vs few i u a (ap (λ (z : Vertex). z.name) it ∙ sym same))
distinct-number (v ∷ vs) few (suc i) (suc j) u w a e same = ap suc (distinct-number vs (distinct-rest v vs few) i j u w a e same)

-- the number of a name is that of a node
pub record IsNumberOf (start : ℕ) (vs : List Vertex) (x : Name) (i : ℕ) : Type 0 where
  pub place : ℕ
  pub node : Vertex
  pub there : slice_get vs place ≡ Some node
  pub number : start + place ≡ i
  pub named : node.name ≡ x

pub number_from-some : (start : ℕ) (vs : List Vertex) (x : Name) (i : ℕ) → number_from start vs x ≡ Some i → IsNumberOf start vs x i
number_from-some start [] x i e = absurd (cc)
number_from-some start (v ∷ vs) x i e = go (number_from-some (suc start) vs x i) (same_name v.name x) refl e
  where
    go : (number_from (suc start) vs x ≡ Some i → IsNumberOf (suc start) vs x i) → (t : Bool) → same_name v.name x ≡ t →
        elim t [ true ↦ Some start | false ↦ number_from (suc start) vs x ] ≡ Some i → IsNumberOf start (v ∷ vs) x i
    go ih true f h = let it : start ≡ i = cc in record { place = zero; node = v; there = refl; number = omega (arith, it); named = same_name-true v.name x f }
    go ih false f h = let k = ih h in record { place = suc k.place; node = k.node; there = k.there; number = omega (arith, k.number); named = k.named }

-- where there is none, no node has the name
pub number_from-none : (start : ℕ) (vs : List Vertex) (x : Name) → number_from start vs x ≡ None → (w : Vertex) → Among w vs → w.name ≡ x → ⊥
number_from-none start [] x e w m named = absurd m
number_from-none start (v ∷ vs) x e w m named = go (number_from-none (suc start) vs x) (same_name v.name x) refl e
  where
    found_by : Bool → Option ℕ
    found_by true = Some start
    found_by false = number_from (suc start) vs x

    go : (number_from (suc start) vs x ≡ None → (w : Vertex) → Among w vs → w.name ≡ x → ⊥) → (t : Bool) → same_name v.name x ≡ t →
        found_by t ≡ None → ⊥
    go ih true f h = absurd (cc)
    go ih false f h = ⊎_elim
        (λ same. true≢false (sym ((same_name-exact v.name x).1 (ap (λ (z : Vertex). z.name) same ∙ named)) ∙ f))
        (λ t. ih h w t named) m

-- where all nodes are behind
abbrev pub node_behind : Vertex → Node
node_behind w = node_with (state_behind w) w

pub nodes-node_behind : (vs : List Vertex) → nodes_of (length vs) vs ≡ map node_behind vs
nodes-node_behind [] = refl
nodes-node_behind (v ∷ vs) = ap (λ l. node_behind v ∷ l) (nodes-node_behind vs)

pub names-node_behind : (vs : List Vertex) → map (λ (n : Node). n.name) (map node_behind vs) ≡ vertex_names vs
names-node_behind [] = refl
names-node_behind (v ∷ vs) = ap (λ l. v.name ∷ l) (names-node_behind vs)

-- as many references are noted to a node by its name as by its number
pub noted-same : (vs : List Vertex) → HasDistinctNames vs → (es : List Edge) → ((e : Edge) → Among e es → e.target < length vs) → (i : ℕ) (w : Vertex) → slice_get vs i ≡ Some w →
    count_by (to w.name) (map (reference_of vs) es) ≡ edges_to es i
noted-same vs few es closed i w at = count_by-map (to w.name) (reference_of vs) es ∙
    count_by-agree (λ e. to w.name (reference_of vs e)) (λ e. e.target == i) es (λ e m.
    let t = node-at vs e.target (closed e m) in
    let named : vertex_name vs e.target ≡ t.0.name = name-at vs e.target t.0 t.1 in
    same-tests (same_name (vertex_name vs e.target) w.name) (e.target == i)
    (λ same. eq-eqb e.target i (distinct-number vs few e.target i t.0 w t.1 at (sym named ∙ same_name-true (vertex_name vs e.target) w.name same)))
    (λ same.
    let number : e.target ≡ i = eqb-true e.target i same in
    (same_name-exact (vertex_name vs e.target) w.name).1 (ap (vertex_name vs) number ∙ name-at vs i w at)))

-- The nodes of a snapshot that a graph holds: their names, the first that is not behind, and what a step makes of it.
use Rattle.std.proofs.Common.{◌≡◌, ℕ, zero, suc, ◌<◌, ◌≤◌, Bool, true, false, List, [], ◌∷◌, ◌++◌, map, length, set, Option, Some, None, refl, sym, ◌∙◌, ap, arith, slice_get}
use Rattle.cc_lists.specs.Members.{has}
use Rattle.cc_names.specs.declared.name.Name.{Name}
use Rattle.cc_names.specs.Names.{is_native, same_name}
use Rattle.cc_model.specs.Snapshot.{NodeState, untraversed, gone, traversed, Node}
use Rattle.cc_model.specs.Units.{is_untraversed, first_untraversed, new_node, with_state, with_node}
use Rattle.cc_counted.specs.declared.held.Held.{Held}
use Rattle.cc_graph.specs.Shown.{Vertex, vertex, with_vertex, with_sample, change_vertex}
use Rattle.cc_builder.specs.Building.{node_with, nodes_of, vertex_names, vertex_name, state_behind, state_by_sample}
use Rattle.cc_builder.specs.BuildSteps.{sampled_at}
use Rattle.cc_builder.proofs.BuildNodes.{with_vertex-either}

-- the names of the nodes
pub names-nodes_of : (next : ℕ) (vs : List Vertex) → map (λ (n : Node). n.name) (nodes_of next vs) ≡ vertex_names vs
names-nodes_of next [] = refl
names-nodes_of zero (v ∷ vs) = ap (λ xs. v.name ∷ xs) (names-nodes_of zero vs)
names-nodes_of (suc next) (v ∷ vs) = ap (λ xs. v.name ∷ xs) (names-nodes_of next vs)

-- a node that goes last is not behind
nodes_of-push : (next : ℕ) (vs : List Vertex) (w : Vertex) → next ≤ length vs → nodes_of next (vs ++ w ∷ []) ≡ nodes_of next vs ++ new_node w.name ∷ []
nodes_of-push zero [] w l = refl
nodes_of-push (suc next) [] w l = absurd (omega arith)
nodes_of-push zero (v ∷ vs) w l = ap (λ ns. node_with untraversed v ∷ ns) (nodes_of-push zero vs w (omega arith))
nodes_of-push (suc next) (v ∷ vs) w l = ap (λ ns. node_with (state_behind v) v ∷ ns) (nodes_of-push next vs w (omega arith))

-- a name that has its node has it in the snapshot
pub nodes-with_vertex : (next : ℕ) (vs : List Vertex) (x : Name) (held : Held) → next ≤ length vs →
    nodes_of next (with_vertex vs x held) ≡ with_node (nodes_of next vs) x
nodes-with_vertex next vs x held l = with_vertex-either (λ ws. nodes_of next ws ≡ with_node (nodes_of next vs) x) vs x held
    (λ e. there (has same_name (map (λ (n : Node). n.name) (nodes_of next vs)) x) (ap (λ xs. has same_name xs x) (names-nodes_of next vs) ∙ e))
    (λ e. new (has same_name (map (λ (n : Node). n.name) (nodes_of next vs)) x) (ap (λ xs. has same_name xs x) (names-nodes_of next vs) ∙ e))
  where
    there : (b : Bool) → b ≡ true → nodes_of next vs ≡ elim b [ true ↦ nodes_of next vs | false ↦ nodes_of next vs ++ new_node x ∷ [] ]
    there true e = refl
    there false e = absurd (cc)

    new : (b : Bool) → b ≡ false → nodes_of next (vs ++ vertex x held ∷ []) ≡ elim b [ true ↦ nodes_of next vs | false ↦ nodes_of next vs ++ new_node x ∷ [] ]
    new true e = absurd (cc)
    new false e = nodes_of-push next vs (vertex x held) l

-- The first node that is not behind

-- what is behind is not untraversed
behind-done : (v : Vertex) → is_untraversed (state_behind v) ≡ false
behind-done v = by_kind (is_native v.name)
  where
    by_sample : (o : Option ℕ) → is_untraversed (state_by_sample o) ≡ false
    by_sample None = refl
    by_sample (Some n) = refl

    by_kind : (b : Bool) → is_untraversed (elim b [ true ↦ state_by_sample v.sampled | false ↦ traversed None ]) ≡ false
    by_kind true = by_sample v.sampled
    by_kind false = refl

pub first-some : (next : ℕ) (vs : List Vertex) → next < length vs → first_untraversed (nodes_of next vs) ≡ Some (vertex_name vs next)
first-some next [] l = absurd (omega arith)
first-some zero (v ∷ vs) l = refl
first-some (suc next) (v ∷ vs) l =
    ap (λ b. elim b [ true ↦ Some v.name | false ↦ first_untraversed (nodes_of next vs) ]) (behind-done v) ∙ first-some next vs (omega arith)

pub first-none : (next : ℕ) (vs : List Vertex) → length vs ≤ next → first_untraversed (nodes_of next vs) ≡ None
first-none next [] l = refl
first-none zero (v ∷ vs) l = absurd (omega arith)
first-none (suc next) (v ∷ vs) l =
    ap (λ b. elim b [ true ↦ Some v.name | false ↦ first_untraversed (nodes_of next vs) ]) (behind-done v) ∙ first-none next vs (omega arith)

-- the same nodes with other samples have the same names
names-sampled : (vs : List Vertex) (i count : ℕ) → vertex_names (change_vertex vs i (with_sample count)) ≡ vertex_names vs
names-sampled [] i count = refl
names-sampled (v ∷ vs) zero count = refl
names-sampled (v ∷ vs) (suc i) count = go (slice_get vs i) (names-sampled vs i count)
  where
    go : (o : Option Vertex) → vertex_names (elim o [ None ↦ vs | Some w ↦ set vs i (with_sample count w) ]) ≡ vertex_names vs →
        vertex_names (elim o [ None ↦ v ∷ vs | Some w ↦ set (v ∷ vs) (suc i) (with_sample count w) ]) ≡ v.name ∷ vertex_names vs
    go None e = refl
    go (Some w) e = ap (λ xs. v.name ∷ xs) e

-- change_vertex goes by places
change_vertex-cons : (v : Vertex) (vs : List Vertex) (i : ℕ) (f : Vertex → Vertex) → change_vertex (v ∷ vs) (suc i) f ≡ v ∷ change_vertex vs i f
change_vertex-cons v vs i f = go (slice_get vs i)
  where
    go : (o : Option Vertex) → elim o [ None ↦ v ∷ vs | Some w ↦ set (v ∷ vs) (suc i) (f w) ] ≡ v ∷ elim o [ None ↦ vs | Some w ↦ set vs i (f w) ]
    go None = refl
    go (Some w) = refl

-- a node that is behind keeps its state
with_state-behind : (state : NodeState) (v : Vertex) (ns : List Node) →
    with_state state (node_with (state_behind v) v ∷ ns) ≡ node_with (state_behind v) v ∷ with_state state ns
with_state-behind state v ns =
    ap (λ b. elim b [ true ↦ node_with state v ∷ ns | false ↦ node_with (state_behind v) v ∷ with_state state ns ]) (behind-done v)

-- the state of a native behind
native-behind : (v : Vertex) → is_native v.name ≡ true → state_behind v ≡ state_by_sample v.sampled
native-behind v e = ap (λ b. elim b [ true ↦ state_by_sample v.sampled | false ↦ traversed None ]) e

-- the first native that is not behind is sampled: it is traversed with its count
nodes-sampled : (next : ℕ) (vs : List Vertex) (count : ℕ) → next < length vs → is_native (vertex_name vs next) ≡ true →
    nodes_of (suc next) (change_vertex vs next (with_sample count)) ≡ with_state (traversed (Some count)) (nodes_of next vs)
nodes-sampled next [] count l e = absurd (omega arith)
nodes-sampled zero (v ∷ vs) count l e = ap (λ state. node_with state v ∷ nodes_of zero vs) (native-behind (with_sample count v) e)
nodes-sampled (suc next) (v ∷ vs) count l e =
    ap (nodes_of (suc (suc next))) (change_vertex-cons v vs next (with_sample count))
    ∙ ap (λ ns. node_with (state_behind v) v ∷ ns) (nodes-sampled next vs count (omega arith) e)
    ∙ sym (with_state-behind (traversed (Some count)) v (nodes_of next vs))

-- it is passed over, where it has no sample: it is gone
pub nodes-passed : (next : ℕ) (vs : List Vertex) (v : Vertex) → slice_get vs next ≡ Some v → is_native v.name ≡ true → v.sampled ≡ None →
    nodes_of (suc next) vs ≡ with_state gone (nodes_of next vs)
nodes-passed next [] v at e f = absurd (cc)
nodes-passed zero (w ∷ vs) v at e f =
    let same : w ≡ v = cc in
    let kind : is_native w.name ≡ true = ap (λ (u : Vertex). is_native u.name) same ∙ e in
    let sample : w.sampled ≡ None = ap (λ (u : Vertex). u.sampled) same ∙ f in
    ap (λ state. node_with state w ∷ nodes_of zero vs) (native-behind w kind ∙ ap state_by_sample sample)
nodes-passed (suc next) (w ∷ vs) v at e f =
    ap (λ ns. node_with (state_behind w) w ∷ ns) (nodes-passed next vs v at e f) ∙ sym (with_state-behind gone w (nodes_of next vs))

-- A node traversed, with its sample where it is a native

-- a native has a sample, a script object none
abbrev pub IsSampleOf : Option ℕ → Name → Type 0
IsSampleOf (Some count) x = is_native x ≡ true
IsSampleOf None x = is_native x ≡ false

pub names-passed : (vs : List Vertex) (i : ℕ) (count : Option ℕ) → vertex_names (sampled_at vs i count) ≡ vertex_names vs
names-passed vs i None = refl
names-passed vs i (Some count) = names-sampled vs i count

-- the state of a script object behind
script-behind : (v : Vertex) → is_native v.name ≡ false → state_behind v ≡ traversed None
script-behind v e = ap (λ b. elim b [ true ↦ state_by_sample v.sampled | false ↦ traversed None ]) e

-- the first script object that is not behind is traversed as soon as it is behind
script-passed : (next : ℕ) (vs : List Vertex) → next < length vs → is_native (vertex_name vs next) ≡ false →
    nodes_of (suc next) vs ≡ with_state (traversed None) (nodes_of next vs)
script-passed next [] l e = absurd (omega arith)
script-passed zero (v ∷ vs) l e = ap (λ state. node_with state v ∷ nodes_of zero vs) (script-behind v e)
script-passed (suc next) (v ∷ vs) l e =
    ap (λ ns. node_with (state_behind v) v ∷ ns) (script-passed next vs (omega arith) e)
    ∙ sym (with_state-behind (traversed None) v (nodes_of next vs))

pub nodes-traversed : (next : ℕ) (vs : List Vertex) (count : Option ℕ) → next < length vs → IsSampleOf count (vertex_name vs next) →
    nodes_of (suc next) (sampled_at vs next count) ≡ with_state (traversed count) (nodes_of next vs)
nodes-traversed next vs None l e = script-passed next vs l e
nodes-traversed next vs (Some count) l e = nodes-sampled next vs count l e

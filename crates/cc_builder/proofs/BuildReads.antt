-- What reads of the counted heap and of the graph say.
use Rattle.std.proofs.Common.{◌≡◌, ◌≢◌, ℕ, List, map, Option, Some, None, IsSome, option_map, refl, sym, ◌∙◌, ap, subst, slice_get}
use Rattle.std.proofs.lemmas.Option.{get_or_from_slice_get, slice_get-map}
use Rattle.cc_lists.specs.Members.{Among}
use Rattle.cc_lists.proofs.Places.{place-among}
use Rattle.cc_names.specs.declared.number.NativeNo.{NativeNo}
use Rattle.cc_names.specs.declared.number.NKey.{NKey}
use Rattle.cc_names.specs.declared.name.Name.{Name}
use Rattle.cc_names.specs.Names.{native}
use Rattle.cc_model.specs.WellFormed.{native_names}
use Rattle.cc_counted.specs.declared.held.Held.{Held}
use Rattle.cc_counted.specs.declared.held.Held.TheVariants as held
use Rattle.cc_counted.specs.Counts.{Counts}
use Rattle.cc_counted.specs.Counts as counts
use Rattle.cc_graph.specs.Shown.{Vertex}
use Rattle.cc_heaps.specs.Keyed.{Keyed, counts_of, number_at, the_number}
use Rattle.cc_builder.specs.Building.{Built, vertex_name}
use Rattle.cc_graph.specs.Held.{AreHeld}
use Rattle.cc_heaps.specs.HasKey.{HasKey}

-- the number that was read
pub number-read : (v : Keyed) (key : ℕ) {c : Counts} {o : Option NativeNo} {n : NativeNo} → c ≡ counts_of v →
    option_map (λ (m : NativeNo). m.0) o ≡ counts.number_at c key → o ≡ Some n → number_at v key ≡ Some n.0
number-read v key same read found = sym (ap (λ d. counts.number_at d key) same) ∙ sym read ∙ ap (option_map (λ (m : NativeNo). m.0)) found

-- none was read
pub number-none : (v : Keyed) (key : ℕ) {c : Counts} {o : Option NativeNo} → c ≡ counts_of v →
    option_map (λ (m : NativeNo). m.0) o ≡ counts.number_at c key → o ≡ None → number_at v key ≡ None
number-none v key same read found = sym (ap (λ d. counts.number_at d key) same) ∙ sym read ∙ ap (option_map (λ (m : NativeNo). m.0)) found

-- a key at which a native stands has its number
pub number-there : (v : Keyed) (key : ℕ) → IsSome (number_at v key) → number_at v key ≡ Some (the_number v key)
number-there v key some = go (number_at v key) refl some
  where
    go : (o : Option ℕ) → number_at v key ≡ o → IsSome o → number_at v key ≡ Some (the_number v key)
    go None e some = absurd (cc)
    go (Some k) e some = e ∙ ap Some (sym (ap counts.number_or_none e))

-- a node was read: its name and its key
pub record IsNodeAt (vs : List Vertex) (i : ℕ) (x : Name) (y : Held) : Type 0 where
  pub node : Vertex
  pub at : slice_get vs i ≡ Some node
  pub name : node.name ≡ x
  pub held : node.held ≡ y

node-read : (vs : List Vertex) (i : ℕ) (x : Name) (y : Held) → option_map (λ (v : Vertex). v.name) (slice_get vs i) ≡ Some x →
    option_map (λ (v : Vertex). v.held) (slice_get vs i) ≡ Some y → IsNodeAt vs i x y
node-read vs i x y = go (slice_get vs i) refl
  where
    go : (o : Option Vertex) → slice_get vs i ≡ o → option_map (λ (v : Vertex). v.name) o ≡ Some x → option_map (λ (v : Vertex). v.held) o ≡ Some y → IsNodeAt vs i x y
    go None e a b = absurd (cc)
    go (Some v) e a b = record { node = v; at = e; name = cc; held = cc }

-- the same of a build that is the same
pub node-read_in : {a b : Built} → a ≡ b → (i : ℕ) {x : Name} {y : Held} → option_map (λ (v : Vertex). v.name) (slice_get a.graph.nodes i) ≡ Some x →
    option_map (λ (v : Vertex). v.held) (slice_get a.graph.nodes i) ≡ Some y → IsNodeAt b.graph.nodes i x y
node-read_in {a} {b} same i {x} {y} name held = subst (λ (c : Built). IsNodeAt c.graph.nodes i x y) same (node-read a.graph.nodes i x y name held)

-- a node that was read is one of them
IsNodeAt-among : {vs : List Vertex} {i : ℕ} {x : Name} {y : Held} (n : IsNodeAt vs i x y) → Among n.node vs
IsNodeAt-among {vs} {i} n = place-among n.node vs i n.at

pub IsNodeAt-name : {vs : List Vertex} {i : ℕ} {x : Name} {y : Held} → IsNodeAt vs i x y → vertex_name vs i ≡ x
IsNodeAt-name {vs} {i} {x} n =
    get_or_from_slice_get (map_names vs) i x (native 0)
    (slice_get-map (λ (v : Vertex). v.name) vs i ∙ ap (option_map (λ (v : Vertex). v.name)) n.at ∙ ap Some n.name)
  where
    map_names : List Vertex → List Name
    map_names ws = map (λ (v : Vertex). v.name) ws

-- the native of a node stands at its key
pub native-there : {vs : List Vertex} {i k : ℕ} {y : Held} {o : Option ℕ} → IsNodeAt vs i (native k) y → o ≡ Some k → option_map native o ≡ Some (vertex_name vs i)
native-there n at = ap (option_map native) at ∙ ap Some (sym (IsNodeAt-name n))

-- a node has its object's key
pub node-key : (b : Built) (v : Keyed) {i : ℕ} {x : Name} {y z : Held} → AreHeld b.graph (HasKey v) → IsNodeAt b.graph.nodes i x y → y ≡ z → HasKey v (vertex_name b.graph.nodes i) z
node-key b v {z = z} are n same =
    subst (λ w. HasKey v w z) (n.name ∙ sym (IsNodeAt-name n)) (subst (λ w. HasKey v n.node.name w) (n.held ∙ same) (are n.node (IsNodeAt-among n)))

-- the native is no more
pub native-gone : (b : Built) (v : Keyed) {i k : ℕ} {y : Held} {key : NKey} → AreHeld b.graph (HasKey v) → IsNodeAt b.graph.nodes i (native k) y → y ≡ held.Native key →
    number_at v key.0 ≢ Some k → ¬ (Among (vertex_name b.graph.nodes i) (native_names v.heap))
native-gone b v {k = k} are n same other m =
    let named = IsNodeAt-name n in
    other ((node-key b v are n same).1 k named (subst (λ z. Among z (native_names v.heap)) named m))

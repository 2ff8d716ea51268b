-- A step of a build is the unit of a node.
use Rattle.std.proofs.Common.{◌≡◌, ◌≢◌, ℕ, zero, suc, ◌+◌, ◌<◌, true, List, [], ◌∷◌, length, drop, Some, None, refl, sym, ◌∙◌, ap, subst, inl, arith, slice_get}
use Rattle.cc_lists.specs.Members.{Among}
use Rattle.cc_lists.proofs.Places.{place-among}
use Rattle.cc_names.specs.declared.name.Name.{Name}
use Rattle.cc_names.specs.Names.{is_native}
use Rattle.cc_model.specs.Snapshot.{traversed}
use Rattle.cc_model.specs.Units.{first_untraversed, to_note, sample, noted, after_node}
use Rattle.cc_model.specs.End.{some_are, notes_something, node_may_be_refused}
use Rattle.cc_counted.specs.declared.held.Held.{Held}
use Rattle.cc_counted.specs.declared.held.Held.TheVariants as held
use Rattle.cc_heaps.specs.Keyed.{Keyed, IsInOrder}
use Rattle.cc_heaps.specs.Changes.{IsThere}
use Rattle.cc_builder.specs.Building.{Built, IsBuilt, IsNodeUnit, vertex_name, snapshot_of}
use Rattle.cc_graph.specs.Held.{AreHeld}
use Rattle.cc_heaps.specs.HasKey.{HasKey}
use Rattle.cc_builder.specs.BuildSteps.{contents_at, noting, sample_of, the_name, with_next_passed}
use Rattle.cc_builder.proofs.BuildStates.{IsSampleOf, first-some}
use Rattle.cc_builder.proofs.BuildSnapshots.{snapshot-traversed, snapshot-passed}
use Rattle.cc_builder.proofs.BuildReads.{IsNodeAt-name}
use Rattle.cc_builder.proofs.NotedObjects.{note-there, sample-there, sample-kind, key-there, key-name}

-- what the unit of a name notes, where it is that of an object that is there
pub note-named : (v : Keyed) (object : Held) (x : Name) → IsInOrder [] v → IsThere v (Some object) → the_name v object ≡ x → to_note v.heap x ≡ Some (contents_at v object)
note-named v object x order there named = ap (to_note v.heap) (sym named) ∙ note-there v object order there

pub traversed-unit : (b d : Built) (v : Keyed) (object : Held) → IsInOrder [] v → b.next < length b.graph.nodes →
    IsThere v (Some object) → the_name v object ≡ vertex_name b.graph.nodes b.next →
    snapshot_of d ≡ noting (snapshot_of (with_next_passed (sample_of v object) b)) (vertex_name b.graph.nodes b.next) (contents_at v object) →
    IsNodeUnit v.heap (snapshot_of b) (snapshot_of d)
traversed-unit b d v object order l there named e =
    let s = snapshot_of b in
    let x = vertex_name b.graph.nodes b.next in
    let ys = contents_at v object in
    record {
      node = x;
      first_one = first-some b.next b.graph.nodes l;
      after = e ∙ ap (λ t. noting t x ys) (snapshot-traversed b (sample_of v object) l (subst (IsSampleOf (sample_of v object)) named (sample-kind v object order there)))
          ∙ ap (λ o. noted s x (traversed o) ys) (sym (ap (sample v.heap) (sym named) ∙ sample-there v object order there))
          ∙ ap (after_node v.heap s x) (sym (note-named v object x order there named));
    }

-- there is something to note, where the object holds something that is noted
pub may_be-refused : (b : Built) (v : Keyed) (object : Held) → IsInOrder [] v → b.next < length b.graph.nodes →
    IsThere v (Some object) → the_name v object ≡ vertex_name b.graph.nodes b.next → contents_at v object ≢ [] →
    node_may_be_refused v.heap (first_untraversed (snapshot_of b).nodes) ≡ true
may_be-refused b v object order l there named some =
    ap (node_may_be_refused v.heap) (first-some b.next b.graph.nodes l)
    ∙ ap notes_something (note-named v object (vertex_name b.graph.nodes b.next) order there named)
    ∙ are (contents_at v object) some
  where
    are : (xs : List Name) → xs ≢ [] → some_are xs ≡ true
    are [] n = absurd (n refl)
    are (x ∷ xs) n = refl

-- The next node passed over

-- there is one
slice_get-some : {X : Type 0} (xs : List X) (i : ℕ) → i < length xs → (x : X) × (slice_get xs i ≡ Some x)
slice_get-some [] i l = absurd (omega arith)
slice_get-some (x ∷ xs) zero l = (x, refl)
slice_get-some (x ∷ xs) (suc i) l = slice_get-some xs i (omega arith)

slice_get-drop : {X : Type 0} (xs : List X) (i : ℕ) (x : X) → slice_get xs i ≡ Some x → Among x (drop i xs)
slice_get-drop [] i x e = absurd (cc)
slice_get-drop (y ∷ ys) zero x e = inl (cc)
slice_get-drop (y ∷ ys) (suc i) x e = slice_get-drop ys i x e

-- a node of nothing that is there is that of a native
gone-native : (v : Keyed) (x : Name) (y : Held) → IsInOrder [] v → HasKey v x y → to_note v.heap x ≡ None → is_native x ≡ true
gone-native v x (held.Native key) order has gone = has.0
gone-native v x (held.Script key) order has gone =
    let there = note-named v (held.Script key) x order (key-there v key x has) (key-name v key x has) in absurd (cc)

pub gone-unit : (b : Built) (v : Keyed) → IsBuilt b v → AreHeld b.graph (HasKey v) → IsInOrder [] v → b.next < length b.graph.nodes →
    to_note v.heap (vertex_name b.graph.nodes b.next) ≡ None → IsNodeUnit v.heap (snapshot_of b) (snapshot_of (record b { next = b.next + 1 }))
gone-unit b v built are order l gone =
    let vs = b.graph.nodes in
    let w = slice_get-some vs b.next l in
    let x = vertex_name vs b.next in
    let named : x ≡ w.0.name = IsNodeAt-name {vs = vs} {i = b.next} {x = w.0.name} {y = w.0.held} (record { node = w.0; at = w.1; name = refl; held = refl }) in
    let kind = gone-native v w.0.name w.0.held order (are w.0 (place-among w.0 vs b.next w.1)) (ap (to_note v.heap) (sym named) ∙ gone) in
    record {
      node = x;
      first_one = first-some b.next vs l;
      after = snapshot-passed b w.0 w.1 kind (built.unsampled w.0 (slice_get-drop vs b.next w.0 w.1)) ∙ ap (after_node v.heap (snapshot_of b) x) (sym gone);
    }

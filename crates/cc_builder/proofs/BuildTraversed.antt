-- What a build keeps where its next node is traversed or passed over.
use Rattle.std.proofs.Common.{◌≡◌, true, ℕ, zero, suc, ◌+◌, ◌<◌, ◌≤◌, List, [], ◌∷◌, length, drop, set, Option, Some, None, IsSome, refl, sym, ◌∙◌, ap, subst, inr, ⊎_elim, arith, count_by, add-one, slice_get, slice_index_or}
use Rattle.std.specs.List.{flat_map}
use Rattle.std.proofs.Math.Numerals.{lt-add-one}
use Rattle.std.proofs.lemmas.List.{length-set, drop-set-lt}
use Rattle.cc_lists.specs.Members.{Among}
use Rattle.cc_lists.proofs.ListWrites.{Among-set_cases}
use Rattle.cc_lists.proofs.Places.{place-among}
use Rattle.cc_names.specs.declared.name.Name.{Name}
use Rattle.cc_names.specs.Names.{native, is_native, natives_in, same_name}
use Rattle.cc_graph.specs.Shown.{Vertex, with_sample, change_vertex}
use Rattle.cc_heaps.specs.Keyed.{Keyed}
use Rattle.cc_builder.specs.Building.{Built, IsBuilt, WasMade, vertex_name, snapshot_of}
use Rattle.cc_graph.specs.Held.{AreHeld}
use Rattle.cc_heaps.specs.HasKey.{HasKey}
use Rattle.cc_builder.specs.BuildSteps.{noting, sampled_at, with_next_passed, with_room}
use Rattle.cc_builder.proofs.BuildStates.{IsSampleOf, names-passed}
use Rattle.cc_builder.proofs.BuildSnapshots.{first-names}
use Rattle.cc_builder.proofs.BuildNodes.{AreHyperedgesWithin-more}
use Rattle.cc_builder.proofs.BuildKept.{IsBuilt-with, named}
use Rattle.cc_builder.proofs.Unsampled.{HasNoSample-passed}

-- what holds of each node as it is and changed holds of each once one is changed
change_vertex-each : (P : Vertex → Type 0) (vs : List Vertex) (i : ℕ) (f : Vertex → Vertex) → ((n : Vertex) → Among n vs → P n) → ((n : Vertex) → Among n vs → P (f n)) →
    (n : Vertex) → Among n (change_vertex vs i f) → P n
change_vertex-each P vs i f old new = go (slice_get vs i) refl
  where
    go : (o : Option Vertex) → slice_get vs i ≡ o → (n : Vertex) → Among n (elim o [ None ↦ vs | Some w ↦ set vs i (f w) ]) → P n
    go None e = old
    go (Some w) e = λ n m. ⊎_elim (λ (same : f w ≡ n). subst P same (new w (place-among w vs i e))) (λ l. old n l) (Among-set_cases vs i (f w) n m)

-- there are as many
change_vertex-length : (vs : List Vertex) (i : ℕ) (f : Vertex → Vertex) → length (change_vertex vs i f) ≡ length vs
change_vertex-length vs i f = go (slice_get vs i)
  where
    go : (o : Option Vertex) → length {A = Vertex} (elim o [ None ↦ vs | Some w ↦ set vs i (f w) ]) ≡ length vs
    go None = refl
    go (Some w) = length-set vs i (f w)

-- those behind the place are as they were
change_vertex-drop : (vs : List Vertex) (i : ℕ) (f : Vertex → Vertex) → drop (i + 1) (change_vertex vs i f) ≡ drop (i + 1) vs
change_vertex-drop vs i f = go (slice_get vs i)
  where
    go : (o : Option Vertex) → drop (i + 1) (elim o [ None ↦ vs | Some w ↦ set vs i (f w) ]) ≡ drop (i + 1) vs
    go None = refl
    go (Some w) = drop-set-lt (i + 1) vs i (f w) (lt-add-one i)

-- and stood there before
Among-drop_more : {X : Type 0} (n : ℕ) (xs : List X) (x : X) → Among x (drop (suc n) xs) → Among x (drop n xs)
Among-drop_more n [] x m = absurd m
Among-drop_more zero (y ∷ ys) x m = inr m
Among-drop_more (suc n) (y ∷ ys) x m = Among-drop_more n ys x m

unsampled-more : (b : Built) (v : Keyed) → IsBuilt b v → (n : Vertex) → Among n (drop (b.next + 1) b.graph.nodes) → n.sampled ≡ None
unsampled-more b v built n m = built.unsampled n (Among-drop_more b.next b.graph.nodes n (subst (λ i. Among n (drop i b.graph.nodes)) (add-one b.next) m))

-- A node that is passed, with its sample where it is a native

-- what holds of each node, whatever is sampled, holds then
passed-each : (P : Vertex → Type 0) (vs : List Vertex) (i : ℕ) (count : Option ℕ) → ((n : Vertex) → Among n vs → P n) →
    ((n : Vertex) (c : ℕ) → P n → P (with_sample c n)) → (n : Vertex) → Among n (sampled_at vs i count) → P n
passed-each P vs i None all kept = all
passed-each P vs i (Some c) all kept = change_vertex-each P vs i (with_sample c) all (λ n m. kept n c (all n m))

passed-length : (vs : List Vertex) (i : ℕ) (count : Option ℕ) → length (sampled_at vs i count) ≡ length vs
passed-length vs i None = refl
passed-length vs i (Some c) = change_vertex-length vs i (with_sample c)

passed-drop : (vs : List Vertex) (i : ℕ) (count : Option ℕ) → drop (i + 1) (sampled_at vs i count) ≡ drop (i + 1) vs
passed-drop vs i None = refl
passed-drop vs i (Some c) = change_vertex-drop vs i (with_sample c)

-- a node keeps its name
vertex_name-passed : (vs : List Vertex) (i : ℕ) (count : Option ℕ) (j : ℕ) → vertex_name (sampled_at vs i count) j ≡ vertex_name vs j
vertex_name-passed vs i count j = ap (λ xs. slice_index_or xs j (native 0)) (names-passed vs i count)

sampled-native : (count : Option ℕ) (x : Name) → IsSampleOf count x → IsSome count → is_native x ≡ true
sampled-native None x kind some = absurd (cc)
sampled-native (Some c) x kind some = kind

pub IsBuilt-traversed : (b : Built) (v : Keyed) (count : Option ℕ) → IsBuilt b v → b.next < length b.graph.nodes → IsSampleOf count (vertex_name b.graph.nodes b.next) →
    IsBuilt (with_next_passed count b) v
IsBuilt-traversed b v count built l kind =
    let vs = b.graph.nodes in
    let ws = sampled_at vs b.next count in
    let many = passed-length vs b.next count in
    record {
      distinct = λ x. subst (λ n. n ≤ 1) (named vs x ∙ ap (count_by (same_name x)) (sym (names-passed vs b.next count)) ∙ sym (named ws x)) (built.distinct x);
      made = passed-each (λ n. WasMade v.heap n.name) vs b.next count built.made (λ n c m. m);
      few = omega (arith, built.few, many);
      behind = omega (arith, many);
      first = omega (arith, built.first, many);
      closed = λ e m. let old = built.closed e m in (omega (arith, old.0, many), omega (arith, old.1, many));
      mapped = AreHyperedgesWithin-more (length vs) (length ws) b.graph.hyperedges (omega (arith, many)) built.mapped;
      no_blacks = built.no_blacks;
      unsampled = λ n m. unsampled-more b v built n (subst (λ us. Among n us) (passed-drop vs b.next count) m);
      uncounted = HasNoSample-passed vs b.next count (sampled-native count (vertex_name vs b.next) kind) built.uncounted;
    }

pub AreHeld-traversed : (b : Built) (v : Keyed) (count : Option ℕ) → AreHeld b.graph (HasKey v) → AreHeld (with_next_passed count b).graph (HasKey v)
AreHeld-traversed b v count are = passed-each (λ n. HasKey v n.name n.held) b.graph.nodes b.next count are (λ n c h. h)

pub IsBuilt-passed : (b : Built) (v : Keyed) → IsBuilt b v → b.next < length b.graph.nodes → IsBuilt (record b { next = b.next + 1 }) v
IsBuilt-passed b v built l =
    IsBuilt-with b v b.graph.edges b.graph.spare b.candidates (b.next + 1) built (omega arith) built.first built.closed (unsampled-more b v built)

IsBuilt-room : (b : Built) (v : Keyed) (spare : ℕ) → IsBuilt b v → IsBuilt (with_room spare b) v
IsBuilt-room b v spare built = IsBuilt-with b v b.graph.edges spare b.candidates b.next built built.behind built.first built.closed built.unsampled

-- Room taken, and the next node traversed

pub IsBuilt-roomed : (b d : Built) (v : Keyed) → d ≡ with_room d.graph.spare b → IsBuilt b v → IsBuilt d v
IsBuilt-roomed b d v e built = subst (λ a. IsBuilt a v) (sym e) (IsBuilt-room b v d.graph.spare built)

pub AreHeld-roomed : (b d : Built) (v : Keyed) → d ≡ with_room d.graph.spare b → AreHeld b.graph (HasKey v) → AreHeld d.graph (HasKey v)
AreHeld-roomed b d v e are = subst (λ (a : Built). AreHeld a.graph (HasKey v)) (sym e) are

pub candidates-traversed : (b d e : Built) (count : Option ℕ) → d ≡ with_room d.graph.spare b → e ≡ with_next_passed count d →
    (snapshot_of e).candidates ≡ (snapshot_of b).candidates
candidates-traversed b d e count q r =
    ap (λ a. (snapshot_of a).candidates) (r ∙ ap (with_next_passed count) q)
    ∙ ap (flat_map natives_in) (first-names b.graph.nodes (sampled_at b.graph.nodes b.next count) b.candidates (names-passed b.graph.nodes b.next count))

pub noting-traversed : (b d e : Built) (count now : Option ℕ) (node : ℕ) (ys : List Name) → d ≡ with_room d.graph.spare b → e ≡ with_next_passed count d → node ≡ b.next → count ≡ now →
    noting (snapshot_of e) (vertex_name e.graph.nodes node) ys ≡ noting (snapshot_of (with_next_passed now b)) (vertex_name b.graph.nodes b.next) ys
noting-traversed b d e count now node ys q r at same =
    let ws = sampled_at b.graph.nodes b.next count in
    let s = snapshot_of (with_next_passed count b) in
    ap (λ (a : Built). noting (snapshot_of a) (vertex_name a.graph.nodes node) ys) (r ∙ ap (with_next_passed count) q)
    ∙ ap (λ n. noting s (vertex_name ws n) ys) at
    ∙ ap (λ x. noting s x ys) (vertex_name-passed b.graph.nodes b.next count b.next)
    ∙ ap (λ n. noting (snapshot_of (with_next_passed n b)) (vertex_name b.graph.nodes b.next) ys) same

-- Candidates given back, one after the other.
use Rattle.std.proofs.Common.{◌≡◌, ℕ, suc, ◌+◌, ◌<◌, ◌≤◌, Bool, true, false, List, [], ◌∷◌, ◌++◌, map, length, take, drop, get_or, Option, Some, None, is_some, option_map, refl, sym, ◌∙◌, ap, subst, add-one, arith}
use Rattle.std.specs.List.{flat_map}
use Rattle.std.proofs.Math.Seq.{drop-cons}
use Rattle.std.proofs.lemmas.List.{drop_all, get_or-take, length-map, length-take-le, take-map}
use Rattle.cc_lists.specs.Members.{Among}
use Rattle.cc_names.specs.declared.name.Name.{Name}
use Rattle.cc_names.specs.declared.name.Name.TheVariants as name
use Rattle.cc_names.specs.Names.{native, natives_in}
use Rattle.cc_model.specs.Heap.{Heap, HeapNative, HeapScript, Buffered, native_at, suspect}
use Rattle.cc_model.specs.WellFormed.{native_names}
use Rattle.cc_model.specs.End.{give_back}
use Rattle.cc_laws_heap.proofs.Face.{named-found, native_at-named}
use Rattle.cc_counted.specs.declared.held.Held.{Held}
use Rattle.cc_counted.specs.declared.held.Held.TheVariants as held
use Rattle.cc_counted.specs.Counts.{number_or_none}
use Rattle.cc_graph.specs.Shown.{Shown, Vertex}
use Rattle.cc_script.specs.Objects.{Object, name_at}
use Rattle.cc_heaps.specs.Keyed.{Keyed, IsInOrder, number_at, the_number, changed_to}
use Rattle.cc_builder.specs.Building.{Built, WasMade, IsBuilt, vertex_names}
use Rattle.cc_graph.specs.Held.{AreHeld}
use Rattle.cc_heaps.specs.HasKey.{HasKey}
use Rattle.cc_builder.specs.Building as building
use Rattle.cc_heaps.proofs.Calls.{number-named}

-- one that is there
pub give_back-there : (v : Keyed) (key : ℕ) (x : Name) → IsInOrder [] v → option_map native (number_at v key) ≡ Some x →
    give_back (natives_in x) v.heap ≡ suspect v.heap (the_number v key)
give_back-there v key x order there = go (number_at v key) refl there
  where
    go : (o : Option ℕ) → number_at v key ≡ o → option_map native o ≡ Some x → give_back (natives_in x) v.heap ≡ suspect v.heap (the_number v key)
    go None at e = absurd (cc)
    go (Some k) at e =
        let named : native k ≡ x = cc in
        let is : is_some (native_at v.heap k) ≡ true = ap is_some (named-found v.heap k (number-named v [] key k order at)).1 in
        ap (λ y. give_back (natives_in y) v.heap) (sym named)
        ∙ ap (λ b. elim b [ true ↦ suspect v.heap k | false ↦ v.heap ]) is
        ∙ ap (suspect v.heap) (sym (ap number_or_none at))

-- one that is no more, and a script object, which is no candidate
pub give_back-gone : (h : Heap) (x : Name) → ¬ (Among x (native_names h)) → give_back (natives_in x) h ≡ h
give_back-gone h (name.Native k) gone = ap (λ (o : Option HeapNative). elim (is_some o) [ true ↦ suspect h k.0 | false ↦ h ]) (none (native_at h k.0) refl)
  where
    none : (o : Option HeapNative) → native_at h k.0 ≡ o → native_at h k.0 ≡ None
    none None e = e
    none (Some n) e = absurd (gone (native_at-named h k.0 n e))
give_back-gone h (name.Script k) gone = refl
give_back-gone h (name.Reflector k) gone = refl

-- WHAT THE BUFFER DOES NOT CHANGE

-- heaps of the same objects at the same keys
pub record AreSame (v w : Keyed) : Type 0 where
  pub keys : w.keys ≡ v.keys
  pub objects : w.scripts ≡ v.scripts
  pub natives : w.heap.natives ≡ v.heap.natives
  pub scripts : w.heap.scripts ≡ v.heap.scripts
  pub natives_made : w.heap.natives_made ≡ v.heap.natives_made

-- with another buffer
pub AreSame-buffer : (v w : Keyed) (bs : List Buffered) → w ≡ changed_to v (record v.heap { buffer = bs }) → AreSame v w
AreSame-buffer v w bs e = record {
  keys = ap (λ (k : Keyed). k.keys) e;
  objects = ap (λ (k : Keyed). k.scripts) e;
  natives = ap (λ (k : Keyed). k.heap.natives) e;
  scripts = ap (λ (k : Keyed). k.heap.scripts) e;
  natives_made = ap (λ (k : Keyed). k.heap.natives_made) e;
}

HasKey-same : (v w : Keyed) (x : Name) (y : Held) → AreSame v w → HasKey v x y → HasKey w x y
HasKey-same v w x (held.Native key) s has = (
  has.0,
  λ k same m.
      ap (λ keys. get_or keys key.0 None) s.keys
      ∙ has.1 k same (subst (λ ns. Among (native k) (map (λ (n : HeapNative). native n.number) ns)) s.natives m),
)
HasKey-same v w x (held.Script key) s has = (has.0, ap (λ (objects : List Object). name_at objects key.0) s.objects ∙ has.1)

pub AreHeld-same : (g : Shown) (v w : Keyed) → AreSame v w → AreHeld g (HasKey v) → AreHeld g (HasKey w)
AreHeld-same g v w s are = λ n m. HasKey-same v w n.name n.held s (are n m)

WasMade-same : (v w : Keyed) (x : Name) → AreSame v w → WasMade v.heap x → WasMade w.heap x
WasMade-same v w (name.Native k) s made = (made.0, subst (λ most. k.0 ≤ most) (sym s.natives_made) made.1)
WasMade-same v w (name.Script k) s made = subst (λ os. Among (name.Script k) (map (λ (o : HeapScript). o.name) os)) (sym s.scripts) made
WasMade-same v w (name.Reflector k) s made = subst (λ os. Among (name.Reflector k) (map (λ (o : HeapScript). o.name) os)) (sym s.scripts) made

pub IsBuilt-same : (b : Built) (v w : Keyed) → AreSame v w → IsBuilt b v → IsBuilt b w
IsBuilt-same b v w s built =
    record {
      distinct = built.distinct;
      made = λ n m. WasMade-same v w n.name s (built.made n m);
      few = subst (λ made. length b.graph.nodes ≤ made + length w.heap.scripts) (sym s.natives_made)
          (subst (λ os. length b.graph.nodes ≤ v.heap.natives_made + length os) (sym s.scripts) built.few);
      behind = built.behind;
      first = built.first;
      closed = built.closed;
      mapped = built.mapped;
      no_blacks = built.no_blacks;
      unsampled = built.unsampled;
      uncounted = built.uncounted;
    }

-- The loop over the candidates

-- the names of the candidates from the i-th on
abbrev pub left_to_give : Built → ℕ → List ℕ
left_to_give b i = flat_map natives_in (drop i (vertex_names (take b.candidates b.graph.nodes)))

-- the first of them, and the others
left-next : (b : Built) (i : ℕ) → i < b.candidates → b.candidates ≤ length b.graph.nodes →
    left_to_give b i ≡ natives_in (building.vertex_name b.graph.nodes i) ++ left_to_give b (i + 1)
left-next b i l m =
    let names = vertex_names (take b.candidates b.graph.nodes) in
    let few : length names ≡ b.candidates = length-map (take b.candidates b.graph.nodes) (λ (v : Vertex). v.name) ∙ length-take-le b.candidates b.graph.nodes m in
    let same : names ≡ take b.candidates (vertex_names b.graph.nodes) = sym (take-map (λ (v : Vertex). v.name) b.candidates b.graph.nodes) in
    let at : get_or names i (native 0) ≡ building.vertex_name b.graph.nodes i = ap (λ xs. get_or xs i (native 0)) same ∙ get_or-take b.candidates (vertex_names b.graph.nodes) i (native 0) l in
    ap (flat_map natives_in) (drop-cons names i (native 0) (subst (λ n. i < n) (sym few) l))
    ∙ ap (λ x. natives_in x ++ flat_map natives_in (drop (suc i) names)) at
    ∙ ap (λ n. natives_in (building.vertex_name b.graph.nodes i) ++ flat_map natives_in (drop n names)) (sym (add-one i))

-- none is left behind the last
pub left-none : (b : Built) (i : ℕ) → b.candidates ≤ i → b.candidates ≤ length b.graph.nodes → left_to_give b i ≡ []
left-none b i past m =
    let names = vertex_names (take b.candidates b.graph.nodes) in
    let few : length names ≡ b.candidates = length-map (take b.candidates b.graph.nodes) (λ (v : Vertex). v.name) ∙ length-take-le b.candidates b.graph.nodes m in
    ap (flat_map natives_in) (drop_all i names (omega (arith, few, past)))

give_back-append : (ks js : List ℕ) (h : Heap) → give_back (ks ++ js) h ≡ give_back js (give_back ks h)
give_back-append [] js h = refl
give_back-append (k ∷ ks) js h = go (give_back-append ks js) (is_some (native_at h k))
  where
    go : ((i : Heap) → give_back (ks ++ js) i ≡ give_back js (give_back ks i)) → (b : Bool) → elim b [ true ↦ give_back (ks ++ js) (suspect h k) | false ↦ give_back (ks ++ js) h ]
        ≡ give_back js (elim b [ true ↦ give_back ks (suspect h k) | false ↦ give_back ks h ])
    go ih true = ih (suspect h k)
    go ih false = ih h

-- one more given back
pub left-given : (b : Built) (v old new : Keyed) (i : ℕ) → i < b.candidates → b.candidates ≤ length b.graph.nodes →
    new ≡ changed_to old (give_back (natives_in (building.vertex_name b.graph.nodes i)) old.heap) →
    changed_to old (give_back (left_to_give b i) old.heap) ≡ v → changed_to new (give_back (left_to_give b (i + 1)) new.heap) ≡ v
left-given b v old new i l m e given =
    ap (λ (k : Keyed). changed_to k (give_back (left_to_give b (i + 1)) k.heap)) e
    ∙ ap (changed_to old) (sym (give_back-append (natives_in (building.vertex_name b.graph.nodes i)) (left_to_give b (i + 1)) old.heap) ∙ ap (λ ks. give_back ks old.heap) (sym (left-next b i l m)))
    ∙ given

-- A REFLECTOR MADE, OR FOUND AGAIN, in heaps and in the graph that they stand for.
use Rattle.std.proofs.Common.{arith, ◌≡◌, ◌≢◌, ℕ, Bool, true, false, List, [], ◌∷◌, Option, Some, None, is_some, option_map, refl, sym, ◌∙◌, ap, subst, inl, inr, ◌⊎◌, ⊎_elim}
use Rattle.std.specs.Prelude.{IsTrue}
use Rattle.std.specs.Option.{option_and_then}
use Rattle.std.proofs.lemmas.Bool.{true≢false, false≢true, cases_Bool}
use Rattle.cc_lists.specs.Members.{Among}
use Rattle.cc_lists.proofs.Members.{Among-append, Among-right}
use Rattle.cc_names.specs.declared.name.Name.{Name}
use Rattle.cc_names.specs.declared.kind.Kind.TheVariants.{Reflector}
use Rattle.cc_names.specs.Names.{native, object, reflector}
use Rattle.cc_names.proofs.NameTests.{same_name-true, same_name-refl}
use Rattle.cc_model.specs.Slots.{Slots, contents, empty_slots, reflector_slots}
use Rattle.cc_model.specs.Entries.{Entry}
use Rattle.cc_model.specs.Graph as graph
use Rattle.cc_model.specs.Graph.{Graph, GraphNative, native_in, script_in, set_native, as_wrapped, slots_or_blank}
use Rattle.cc_model.specs.Reached.{Reached}
use Rattle.cc_model.specs.Given.{Given}
use Rattle.cc_model.specs.WellMade.{IsWellMade, IsMadeEntry, was_made}
use Rattle.cc_model.specs.Heap.{Heap, HeapScript, has_reflector}
use Rattle.cc_model.specs.Exposure.{exposed}
use Rattle.cc_model.specs.Effects as effects
use Rattle.cc_model.specs.WellFormed.{IsWellFormed}
use Rattle.cc_model.specs.StandsFor.{Shape, shape_in, shape_at, shape_of_native, shape_of_held_script, script_shape, IsKept, StandsFor}
use Rattle.cc_laws_heap.proofs.Numbered.{numbered-change, numbered-change_other}
use Rattle.cc_laws_heap.proofs.Shapes.{further_of, delegate_of_shape, delegate_in-shape, IsOfNone, no_delegate-of_none}
use Rattle.cc_laws_heap.proofs.GraphWrites.{set_native-is}
use Rattle.cc_laws_heap.proofs.Given.{Reached-given}
use Rattle.cc_laws_heap.proofs.Following.{AgreesBeside, Follows, shape_in-native, shape_in-reflector, stands-follows}
use Rattle.cc_laws_heap.proofs.Changing.{unchanged, Follows-changed, Follows-left, GraphChanges, IsChange-unchanged, option_map-same}
use Rattle.cc_laws_heap.proofs.Writing.{numbered-changed, SameGraphBeside-native}
use Rattle.cc_laws_heap.proofs.MadeAlike.{IsMade, Follows-made}
use Rattle.cc_laws_heap.proofs.NewObjects.{unmade-no_entry, unmade-no_delegate, last-cases}
use Rattle.cc_laws_heap.proofs.Unseen.{Leaves-refl, Leaves-add_ref, Leaves-exposed}
use Rattle.cc_laws_heap.proofs.Making.{contents-empty_none}

-- a graph in which native k was wrapped
abbrev pub with_wrapped : Graph → ℕ → Graph
with_wrapped g k = set_native g k (option_map as_wrapped (native_in g k))

-- nothing but its reflector changes its shape
wrapped-others : (g : Graph) (k : ℕ) (z : Name) → z ≢ reflector k → shape_in (with_wrapped g k) z ≡ shape_in g z
wrapped-others g k z d = grind (arith, set_native-is, numbered-changed, numbered-change_other)

-- and that has slots
wrapped-made : (g : Graph) (k : ℕ) (n : GraphNative) → native_in g k ≡ Some n → shape_in (with_wrapped g k) (reflector k) ≡ Some (script_shape (Some (slots_or_blank n.reflector)) None)
wrapped-made g k n i = grind (arith, set_native-is, numbered-change)

-- what has a shape in the heaps is there
reflector-there : (h : Heap) (k : ℕ) (s : Shape) → shape_at h (reflector k) ≡ Some s → has_reflector h k ≡ true
reflector-there h k s = grind arith

-- the delegate of an entry is one of an object of the graph
entry-delegate : (g : Graph) (e : Entry) → IsMadeEntry g e → (x : Name) → IsOfNone g x → ¬ (e.delegate ≡ Some x)
entry-delegate g e m x none q = go (shape_in g e.key) refl (sym (delegate_in-shape g e.key) ∙ (sym m.delegate ∙ q))
  where
    go : (o : Option Shape) → shape_in g e.key ≡ o → delegate_of_shape o ≡ Some x → ⊥
    go None i r = cc
    go (Some s) i r = none e.key s i r

-- the shape of a blank reflector
abbrev blank_shape : Shape
blank_shape = script_shape (Some (empty_slots reflector_slots)) None

module _ (h : Heap) (g : Graph) (k : ℕ) (w : IsWellFormed h) (m : IsWellMade g) (s : StandsFor h g) (d : Given h g (native k)) (n : GraphNative) (i : native_in g k ≡ Some n) where
  -- the heaps follow the graph
  follows : Follows (Given h g) h g
  follows = stands-follows h g w s

  -- the native has its shape
  made : shape_in g (native k) ≡ Some (shape_of_native n)
  made = ap (option_map shape_of_native) i

  -- Where the reflector is preserved it is given, so it is there, and nothing changes

  -- a preserved reflector is given
  preserved-given : n.preserved ≡ true → Given h g (reflector k)
  preserved-given p = follows.closed.edges (native k) (reflector k) (shape_of_native n) d made
      (Among-right (reflector k) (contents n.slots) (further_of (native k) (shape_of_native n)) (subst (λ b. Among (reflector k) (elim b [ true ↦ reflector k ∷ [] | false ↦ [] ])) (sym p) (inl refl)))

  -- what it has for slots
  same-shape : (t : Shape) → shape_in g (reflector k) ≡ Some t → script_shape (Some (slots_or_blank n.reflector)) None ≡ t
  same-shape t e = grind (arith, shape_in-reflector)

  -- no shape changes in the graph
  unchanged-graph : (t : Shape) → shape_in g (reflector k) ≡ Some t → GraphChanges unchanged g (with_wrapped g k)
  unchanged-graph t e z = grind (arith, same_name-true, wrapped-made, same-shape, option_map-same, wrapped-others, same_name-refl)

  -- the heaps follow the graph with the native wrapped
  follows-preserved : n.preserved ≡ true → Follows (Given h g) (effects.wrapped h (Some (native k))) (with_wrapped g k)
  follows-preserved p = go (has_reflector h k) (reflector-there h k kept.shape kept.there)
    where
      kept : IsKept h g (reflector k)
      kept = s.given (reflector k) (preserved-given p)

      go : (b : Bool) → b ≡ true → Follows (Given h g) (elim b [ true ↦ exposed h (Some (reflector k)) | false ↦ effects.with_reflector h k ]) (with_wrapped g k)
      go true e =
          let f : Follows (Given h g) (exposed h (Some (reflector k))) g = Follows-left (Given h g) h (exposed h (Some (reflector k))) g (Leaves-exposed h (Some (reflector k))) follows in
          let same = Leaves-refl (exposed h (Some (reflector k))) in
          Follows-changed (Given h g) unchanged (exposed h (Some (reflector k))) (exposed h (Some (reflector k))) g (with_wrapped g k)
          same.objects (unchanged-graph kept.shape kept.made) same.beside (SameGraphBeside-native g k as_wrapped)
          (IsChange-unchanged (Given h g) (exposed h (Some (reflector k))) g f) f
      go false e = absurd (false≢true e)

  -- Where it is not preserved, it is blank

  -- it has empty slots then
  blank-made : n.preserved ≡ false → slots_or_blank n.reflector ≡ empty_slots reflector_slots
  blank-made p = grind arith

  -- it was never made, or stands for a blank one
  unmade : n.reflector ≡ None → ¬ (IsTrue (was_made g (reflector k)))
  unmade r t = true≢false (sym t ∙ (ap (λ o. is_some (option_and_then (λ (n : GraphNative). n.reflector) o)) i ∙ ap is_some r))

  -- so it is no delegate
  no-delegate : n.preserved ≡ false → IsOfNone g (reflector k)
  no-delegate p = go n.reflector refl
    where
      go : (o : Option Slots) → n.reflector ≡ o → IsOfNone g (reflector k)
      go None r = unmade-no_delegate g m (reflector k) (unmade r)
      go (Some slots) r = no_delegate-of_none g (reflector k) (s.blank k n slots i p r).2

  -- and no entry is of it
  no-entry : n.preserved ≡ false → (e : Entry) → Among e g.entries → (e.the_map ≢ reflector k) × (e.key ≢ reflector k) × (e.delegate ≢ Some (reflector k))
  no-entry p = go n.reflector refl
    where
      go : (o : Option Slots) → n.reflector ≡ o → (e : Entry) → Among e g.entries → (e.the_map ≢ reflector k) × (e.key ≢ reflector k) × (e.delegate ≢ Some (reflector k))
      go None r = unmade-no_entry g m (reflector k) (unmade r)
      go (Some slots) r = λ e j. (
        (λ q. apart (sym (m.entries e j).the_map.1 ∙ q)),
        (s.blank k n slots i p r).1 e j,
        (λ q. entry-delegate g e (m.entries e j) (reflector k) (no-delegate p) q),
      )
        where
          apart : {a b : ℕ} → object a ≡ reflector b → ⊥
          apart q = cc

  -- heaps that agree with the graph beside the objects, agree with the graph with the native wrapped
  beside : (j : Heap) → AgreesBeside j g → AgreesBeside j (with_wrapped g k)
  beside j b = grind (arith, SameGraphBeside-native)

  -- the heaps with the reflector, or without
  is-made : n.preserved ≡ false → (j : Heap) (os : List HeapScript) → AgreesBeside j g →
      ((o : HeapScript) → Among o os → Among o j.scripts ⊎ ((o.name ≡ reflector k) × (shape_of_held_script o ≡ blank_shape))) →
      IsMade (Given h g) j (record j { scripts = os }) g (with_wrapped g k) (reflector k) blank_shape
  is-made p j os b scripts = record {
    natives = λ n l. inl l;
    scripts = λ o l. ⊎_elim (λ a. inl a) (λ q. inr (q.0, q.1, refl)) (scripts o l);
    others = wrapped-others g k;
    made = wrapped-made g k n i ∙ ap (λ (l : Slots). Some (script_shape (Some l) None)) (blank-made p);
    before = λ t e. (sym (same-shape t e) ∙ ap (λ (l : Slots). script_shape (Some l) None) (blank-made p), refl);
    targets = λ y l. ⊎_elim (λ a. absurd (contents-empty_none reflector_slots y a)) (λ r. ⊎_elim (λ q. subst (Given h g) q d) (λ q. absurd q) r)
        (Among-append y (contents (empty_slots reflector_slots)) (native k ∷ []) l);
    no_entry = no-entry p;
    no_delegate = no-delegate p;
    blank = λ j e. refl;
    delegate = λ j a q. absurd (cc);
    beside = let t = beside j b in record {
      native_registers = t.native_registers;
      script_registers = t.script_registers;
      limits = t.limits;
      natives_made = t.natives_made;
      scripts_made = t.scripts_made;
    };
    heap_entries = refl;
    graph_entries = (SameGraphBeside-native g k as_wrapped).entries;
    native_registers = (SameGraphBeside-native g k as_wrapped).native_registers;
    script_registers = (SameGraphBeside-native g k as_wrapped).script_registers;
  }

  -- the heaps follow the graph with the native wrapped, over what is given and the reflector
  follows-blank : n.preserved ≡ false → Follows (λ z. Given h g z ⊎ (reflector k ≡ z)) (effects.wrapped h (Some (native k))) (with_wrapped g k)
  follows-blank p = go (has_reflector h k)
    where
      go : (b : Bool) → Follows (λ z. Given h g z ⊎ (reflector k ≡ z)) (elim b [ true ↦ exposed h (Some (reflector k)) | false ↦ effects.with_reflector h k ]) (with_wrapped g k)
      go true =
          let f : Follows (Given h g) (exposed h (Some (reflector k))) g = Follows-left (Given h g) h (exposed h (Some (reflector k))) g (Leaves-exposed h (Some (reflector k))) follows in
          Follows-made (Given h g) (exposed h (Some (reflector k))) (exposed h (Some (reflector k))) g (with_wrapped g k) (reflector k) blank_shape
          (is-made p (exposed h (Some (reflector k))) (exposed h (Some (reflector k))).scripts f.beside (λ o l. inl l)) f
      go false =
          let j : Heap = effects.with_script h (reflector k) Reflector reflector_slots None in
          Follows-left (λ z. Given h g z ⊎ (reflector k ≡ z)) j (effects.with_reflector h k) (with_wrapped g k) (Leaves-add_ref j k)
          (Follows-made (Given h g) h j g (with_wrapped g k) (reflector k) blank_shape
          (is-made p h j.scripts follows.beside
          (λ o l. ⊎_elim (λ a. inl a) (λ q. inr (sym (ap (λ (o : HeapScript). o.name) q), sym (ap shape_of_held_script q))) (last-cases h.scripts _ o l))) follows)

-- A REFLECTOR MADE OR FOUND: whatever follows from each way in which the heaps then follow the graph, follows.
pub Follows-wrapped : (h : Heap) (g : Graph) (k : ℕ) → IsWellFormed h → IsWellMade g → StandsFor h g → Reached g (native k) → (Q : Type 0) →
    ((P : Name → Type 0) → P (reflector k) → Follows P (effects.wrapped h (Some (native k))) (graph.wrapped g (Some (native k))) → Q) → Q
Follows-wrapped h g k w m s d Q f =
    let there = Reached-given h g (native k) d in
    let kept = s.given (native k) there in
    let n = shape_in-native g k kept.shape kept.made in
    ⊎_elim
    (λ p. f (Given h g) (preserved-given h g k w m s there n.0 n.1 p) (follows-preserved h g k w m s there n.0 n.1 p))
    (λ p. f (λ z. Given h g z ⊎ (reflector k ≡ z)) (inr refl) (follows-blank h g k w m s there n.0 n.1 p))
    (cases_Bool n.0.preserved)

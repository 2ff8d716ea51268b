-- NATIVES AND SCRIPT OBJECTS MADE ALIKE in heaps and in the graph that they follow.
use Rattle.std.proofs.Common.{◌≡◌, ◌≢◌, ℕ, ◌+◌, false, List, [], ◌∷◌, ◌++◌, length, Option, Some, None, is_some, option_map, refl, sym, ◌∙◌, ap, subst, inl, inr, ◌⊎◌, ⊎_elim, arith, length-append}
use Rattle.std.specs.Prelude.{IsTrue}
use Rattle.std.specs.Option.{option_and_then}
use Rattle.std.proofs.lemmas.Bool.{true≢false}
use Rattle.std.proofs.lemmas.Bool.Decides.{eqb_tells}
use Rattle.cc_lists.specs.Members.{Among}
use Rattle.cc_lists.proofs.Members.{Among-append}
use Rattle.cc_names.specs.declared.name.Name.{Name}
use Rattle.cc_names.specs.declared.name.Name.TheVariants as name
use Rattle.cc_names.specs.declared.kind.Kind.{Kind}
use Rattle.cc_names.specs.declared.kind.Kind.TheVariants.{Plain, Map, Proxy}
use Rattle.cc_names.specs.Names.{native, object, reflector}
use Rattle.cc_model.specs.Slots.{contents, empty_slots}
use Rattle.cc_model.specs.Entries.{Entry}
use Rattle.cc_model.specs.Graph as graph
use Rattle.cc_model.specs.Graph.{Graph, GraphNative, GraphScript, plain_object, weak_map, proxy, native_in, script_in, delegate_in, delegate_of_script, new_graph_native}
use Rattle.cc_model.specs.WellMade.{IsWellMade, was_made, is_made_script}
use Rattle.cc_model.specs.Heap.{Heap, HeapNative, HeapScript, slots_of_kind}
use Rattle.cc_model.specs.Effects as effects
use Rattle.cc_model.specs.StandsFor.{shape_in, shape_of_native, shape_of_object, shape_of_reflector, shape_of_held_native, shape_of_held_script, native_shape, script_shape}
use Rattle.cc_laws_heap.proofs.Numbered.{numbered-next, numbered-push, numbered-push_other}
use Rattle.cc_laws_heap.proofs.Shapes.{edges_of_shape, IsOfNone, proxy-found}
use Rattle.cc_laws_heap.proofs.GraphReads.{MadeScript-made}
use Rattle.cc_laws_heap.proofs.Following.{AgreesBeside, Follows}
use Rattle.cc_laws_heap.proofs.SlotsWritten.{IsPreserved}
use Rattle.cc_laws_heap.proofs.MadeAlike.{IsMade, Follows-made}
use Rattle.cc_laws_heap.proofs.Making.{contents-empty_none}

-- a delegate was made
delegate-made : (g : Graph) → IsWellMade g → (z x : Name) → delegate_in g z ≡ Some x → IsTrue (is_made_script g x)
delegate-made g w (name.Native k) x e = absurd (cc)
delegate-made g w (name.Script k) x e = go (script_in g k.0) refl e
  where
    go : (o : Option GraphScript) → script_in g k.0 ≡ o → option_and_then delegate_of_script o ≡ Some x → IsTrue (is_made_script g x)
    go None i q = absurd (cc)
    go (Some (plain_object slots)) i q = absurd (cc)
    go (Some weak_map) i q = absurd (cc)
    go (Some (proxy d)) i q = let same : d ≡ x = cc in subst (λ y. IsTrue (is_made_script g y)) same (w.delegates k.0 d i)
delegate-made g w (name.Reflector k) x e = absurd (cc)

-- what was never made is no delegate
pub unmade-no_delegate : (g : Graph) → IsWellMade g → (x : Name) → ¬ (IsTrue (was_made g x)) → IsOfNone g x
unmade-no_delegate g w x none z s e q =
    let f = proxy-found g z s x e q in
    none (MadeScript-made g x (w.delegates f.0 x f.2))

-- what was never made has no entry
pub unmade-no_entry : (g : Graph) → IsWellMade g → (x : Name) → ¬ (IsTrue (was_made g x)) → (d : Entry) → Among d g.entries → (d.the_map ≢ x) × (d.key ≢ x) × (d.delegate ≢ Some x)
unmade-no_entry g w x none d i =
    let e = w.entries d i in (
      λ q. none (subst (λ z. IsTrue (was_made g z)) (sym e.the_map.1 ∙ q) (ap is_some e.the_map.2)),
      λ q. none (subst (λ z. IsTrue (was_made g z)) q (MadeScript-made g d.key e.key)),
      λ q. none (MadeScript-made g x (delegate-made g w d.key x (sym e.delegate ∙ q))),
    )

-- what stands last in a list, or before
pub last-cases : {X : Type 0} (xs : List X) (y x : X) → Among x (xs ++ y ∷ []) → Among x xs ⊎ (y ≡ x)
last-cases xs y x m = ⊎_elim (λ l. inl l) (λ r. ⊎_elim (λ e. inr e) (λ n. absurd n) r) (Among-append x xs (y ∷ []) m)

-- A native

-- the name of the native that is made next
abbrev pub next_native : Graph → Name
next_native g = native (length g.natives + 1)

-- a native made is an object made
IsMade-native : (P : Name → Type 0) (h : Heap) (g : Graph) (n : ℕ) → IsWellMade g → AgreesBeside h g →
    IsMade P h (effects.with_native h n) g (graph.with_native g n) (next_native g) (native_shape (empty_slots n) false)
IsMade-native P h g n w b = record {
  natives = λ m i. ⊎_elim (λ l. inl l)
      (λ e. inr (ap (λ (o : HeapNative). native o.number) (sym e) ∙ number, ap shape_of_held_native (sym e), ap (λ (o : HeapNative). o.unlinked) (sym e)))
      (last-cases h.natives _ m i);
  scripts = λ o i. inl i;
  others = others;
  made = ap (option_map shape_of_native) (numbered-push g.natives (new_graph_native n));
  before = λ t i. let none : None ≡ Some t = sym (ap (option_map shape_of_native) (numbered-next g.natives)) ∙ i in absurd (cc);
  targets = λ y i. ⊎_elim (λ l. absurd (contents-empty_none n y l)) (λ r. absurd r) (Among-append y (contents (empty_slots n)) [] i);
  no_entry = unmade-no_entry g w (next_native g) unmade;
  no_delegate = unmade-no_delegate g w (next_native g) unmade;
  blank = λ j e. absurd (apart e);
  delegate = λ j a q. absurd (cc);
  beside = record {
    native_registers = b.native_registers;
    script_registers = b.script_registers;
    limits = b.limits;
    natives_made = omega (arith, b.natives_made, length-append g.natives (new_graph_native n ∷ []));
    scripts_made = b.scripts_made;
  };
  heap_entries = refl;
  graph_entries = refl;
  native_registers = refl;
  script_registers = refl;
}
  where
    unmade : ¬ (IsTrue (was_made g (next_native g)))
    unmade m = true≢false (sym m ∙ ap is_some (numbered-next g.natives))

    number : native (h.natives_made + 1) ≡ next_native g
    number = ap (λ k. native (k + 1)) b.natives_made

    apart : {i j : ℕ} → native i ≡ reflector j → ⊥
    apart e = cc

    others : (z : Name) → z ≢ next_native g → shape_in (graph.with_native g n) z ≡ shape_in g z
    others (name.Native k) d = ap (option_map shape_of_native) (numbered-push_other g.natives (new_graph_native n) k.0 (λ e. d (ap native e)))
    others (name.Script k) d = refl
    others (name.Reflector k) d = ⊎_elim
        (λ t. same k.0 t.1)
        (λ t. ap (option_and_then shape_of_reflector) (numbered-push_other g.natives (new_graph_native n) k.0 t.1))
        (eqb_tells k.0 (length g.natives + 1))
      where
        same : (j : ℕ) → j ≡ length g.natives + 1 → option_and_then shape_of_reflector (native_in (graph.with_native g n) j) ≡ option_and_then shape_of_reflector (native_in g j)
        same j e = subst (λ i. option_and_then shape_of_reflector (native_in (graph.with_native g n) i) ≡ option_and_then shape_of_reflector (native_in g i)) (sym e)
            (ap (option_and_then shape_of_reflector) (numbered-push g.natives (new_graph_native n)) ∙ sym (ap (option_and_then shape_of_reflector) (numbered-next g.natives)))

-- A NATIVE MADE.
pub Follows-native : (P : Name → Type 0) (h : Heap) (g : Graph) (n : ℕ) → IsWellMade g → Follows P h g →
    Follows (λ z. P z ⊎ (next_native g ≡ z)) (effects.with_native h n) (graph.with_native g n)
Follows-native P h g n w t = Follows-made P h (effects.with_native h n) g (graph.with_native g n) (next_native g) (native_shape (empty_slots n) false)
    (IsMade-native P h g n w t.beside) t

-- A script object

-- the name of the script object that is made next
abbrev pub next_object : Graph → Name
next_object g = object (length g.scripts + 1)

-- a script object made is an object made
IsMade-script : (P : Name → Type 0) (h : Heap) (g : Graph) (kind : Kind) (n : ℕ) (o : GraphScript) →
    script_shape (slots_of_kind kind (empty_slots n)) (delegate_of_script o) ≡ shape_of_object o →
    ((y : Name) → Among y (edges_of_shape (next_object g) (shape_of_object o)) → P y) → ((x : Name) → delegate_of_script o ≡ Some x → IsPreserved g x) →
    IsWellMade g → AgreesBeside h g → IsMade P h (effects.with_object h kind n (delegate_of_script o)) g (graph.with_script g o) (next_object g) (shape_of_object o)
IsMade-script P h g kind n o same targets preserved w b = record {
  natives = λ m i. inl i;
  scripts = λ p i. ⊎_elim (λ l. inl l)
      (λ e. inr (ap (λ (q : HeapScript). q.name) (sym e) ∙ number, ap shape_of_held_script (sym e) ∙ same, refl))
      (last-cases h.scripts _ p i);
  others = others;
  made = ap (option_map shape_of_object) (numbered-push g.scripts o);
  before = λ t i. let none : None ≡ Some t = sym (ap (option_map shape_of_object) (numbered-next g.scripts)) ∙ i in absurd (cc);
  targets = targets;
  no_entry = unmade-no_entry g w (next_object g) unmade;
  no_delegate = unmade-no_delegate g w (next_object g) unmade;
  blank = λ j e. absurd (apart e);
  delegate = λ j a q i. preserved (reflector j) q j a refl i;
  beside = record {
    native_registers = b.native_registers;
    script_registers = b.script_registers;
    limits = b.limits;
    natives_made = b.natives_made;
    scripts_made = omega (arith, b.scripts_made, length-append g.scripts (o ∷ []));
  };
  heap_entries = refl;
  graph_entries = refl;
  native_registers = refl;
  script_registers = refl;
}
  where
    unmade : ¬ (IsTrue (was_made g (next_object g)))
    unmade m = true≢false (sym m ∙ ap is_some (numbered-next g.scripts))

    number : object (h.scripts_made + 1) ≡ next_object g
    number = ap (λ k. object (k + 1)) b.scripts_made

    apart : {i j : ℕ} → object i ≡ reflector j → ⊥
    apart e = cc

    others : (z : Name) → z ≢ next_object g → shape_in (graph.with_script g o) z ≡ shape_in g z
    others z d = grind (arith, numbered-push_other)

-- A PLAIN OBJECT MADE,
pub Follows-plain : (P : Name → Type 0) (h : Heap) (g : Graph) (n : ℕ) → IsWellMade g → Follows P h g →
    Follows (λ z. P z ⊎ (next_object g ≡ z)) (effects.with_object h Plain n None) (graph.with_script g (plain_object (empty_slots n)))
Follows-plain P h g n w t = Follows-made P h (effects.with_object h Plain n None) g (graph.with_script g (plain_object (empty_slots n))) (next_object g) (script_shape (Some (empty_slots n)) None)
    (IsMade-script P h g Plain n (plain_object (empty_slots n)) refl
    (λ y i. ⊎_elim (λ l. absurd (contents-empty_none n y l)) (λ r. absurd r) (Among-append y (contents (empty_slots n)) [] i)) (λ x e. absurd (cc)) w t.beside) t

-- a weak map made,
pub Follows-map : (P : Name → Type 0) (h : Heap) (g : Graph) → IsWellMade g → Follows P h g →
    Follows (λ z. P z ⊎ (next_object g ≡ z)) (effects.with_object h Map 0 None) (graph.with_script g weak_map)
Follows-map P h g w t = Follows-made P h (effects.with_object h Map 0 None) g (graph.with_script g weak_map) (next_object g) (script_shape None None)
    (IsMade-script P h g Map 0 weak_map refl (λ y i. absurd i) (λ x e. absurd (cc)) w t.beside) t

-- and a proxy made of what `P` holds of, which is preserved where it is a reflector.
pub Follows-proxy : (P : Name → Type 0) (h : Heap) (g : Graph) (x : Name) → P x → IsPreserved g x → IsWellMade g → Follows P h g →
    Follows (λ z. P z ⊎ (next_object g ≡ z)) (effects.with_object h Proxy 0 (Some x)) (graph.with_script g (proxy x))
Follows-proxy P h g x p kept w t = Follows-made P h (effects.with_object h Proxy 0 (Some x)) g (graph.with_script g (proxy x)) (next_object g) (script_shape (Some []) (Some x))
    (IsMade-script P h g Proxy 0 (proxy x) refl (λ y i. ⊎_elim (λ e. subst P e p) (λ n. absurd n) i)
    (λ y e. let same : x ≡ y = cc in subst (IsPreserved g) same kept) w t.beside) t

-- SLOTS WRITTEN AND REFLECTORS PRESERVED: heaps go on following the graph, where `P` holds of the object and of what it gets.
use Rattle.std.proofs.Common.{arith, ◌≡◌, ℕ, Bool, true, false, [], ◌∷◌, ◌++◌, set, Option, Some, None, option_map, refl, sym, ◌∙◌, ap, subst, inl, inr, ◌⊎◌, ⊎_elim, if◌then◌else◌, ◌==◌}
use Rattle.std.specs.Prelude.{IsTrue}
use Rattle.std.proofs.lemmas.Bool.{true≢false, cases_Bool}
use Rattle.cc_lists.specs.Members.{Among}
use Rattle.cc_lists.proofs.Members.{Among-left, Among-right, Among-append}
use Rattle.cc_names.specs.declared.name.Name.{Name}
use Rattle.cc_names.specs.declared.name.Name.TheVariants as name
use Rattle.cc_names.specs.Names.{native, object, reflector, same_name}
use Rattle.cc_names.proofs.NameTests.{same_name-true}
use Rattle.cc_model.specs.Slots.{Slots, contents}
use Rattle.cc_model.specs.Checks.{slots_or_none}
use Rattle.cc_model.specs.Graph as graph
use Rattle.cc_model.specs.Graph.{Graph, GraphNative, GraphScript, plain_object, weak_map, native_in, script_in}
use Rattle.cc_model.specs.Heap as heap
use Rattle.cc_model.specs.Heap.{Heap, HeapNative, HeapScript, slots_of_kind}
use Rattle.cc_model.specs.StandsFor.{Shape, shape_in, shape_of_object, shape_of_held_script, script_shape}
use Rattle.cc_laws_heap.proofs.Holds.{OfSome, contents-set}
use Rattle.cc_laws_heap.proofs.Shapes.{edges_of_shape, further_of}
use Rattle.cc_laws_heap.proofs.Following.{Follows}
use Rattle.cc_laws_heap.proofs.Changing.{IsChange, Follows-changed}
use Rattle.cc_laws_heap.proofs.Writing.{changed_at, with_slot_written, with_preserved, GraphChanges-native, GraphChanges-reflector, GraphChanges-script, SameGraphBeside-native, SameGraphBeside-script, HeapChanges-native, HeapChanges-script}

-- One object changed

-- it is the object of which `P` holds, or nothing changes
changed_at-moved : (P : Name → Type 0) (x : Name) (f : Shape → Shape) → P x → (z : Name) → ((s : Shape) → changed_at x f z s ≡ s) ⊎ P z
changed_at-moved P x f p z = ⊎_elim (λ e. inr (subst P (sym (same_name-true z x e)) p)) (λ e. inl (λ s. rw e refl)) (cases_Bool (same_name z x))

-- it keeps its delegate, where the change does
changed_at-delegate : (x : Name) (f : Shape → Shape) → ((s : Shape) → (f s).delegate ≡ s.delegate) → (z : Name) (s : Shape) → (changed_at x f z s).delegate ≡ s.delegate
changed_at-delegate x f same z s = grind arith

-- after it, it refers to what `P` holds of
changed_at-edges : (P : Name → Type 0) (x : Name) (f : Shape → Shape) (h : Heap) (g : Graph) → Follows P h g →
    ((y : Name) (s : Shape) → shape_in g x ≡ Some s → Among y (edges_of_shape x (f s)) → P y) →
    (z y : Name) (s : Shape) → P z → shape_in g z ≡ Some s → Among y (edges_of_shape z (changed_at x f z s)) → P y
changed_at-edges P x f h g t now z y s p e i = go (same_name z x) refl i
  where
    go : (b : Bool) → same_name z x ≡ b → Among y (edges_of_shape z (if b then f s else s)) → P y
    go true r j =
        let same : z ≡ x = same_name-true z x r in
        now y s (ap (shape_in g) (sym same) ∙ e) (subst (λ v. Among y (edges_of_shape v (f s))) same j)
    go false r j = t.closed.edges z y s p e j

-- A slot written

-- an object with a slot written refers to what was written, and to what it referred to
written-edges : (P : Name → Type 0) (x : Name) (i : ℕ) (v : Option Name) (s : Shape) → OfSome P v → ((y : Name) → Among y (edges_of_shape x s) → P y) →
    (y : Name) → Among y (edges_of_shape x (with_slot_written i v s)) → P y
written-edges P x i v s new old y j = ⊎_elim
    (slots s.slots (λ z k. old z (Among-left z (contents (slots_or_none s.slots)) (further_of x s) k)))
    (λ k. old y (Among-right y (contents (slots_or_none s.slots)) (further_of x s) (further x k)))
    (Among-append y (contents (slots_or_none (option_map (λ (l : Slots). set l i v) s.slots))) (further_of x (with_slot_written i v s)) j)
  where
    slots : (o : Option Slots) → ((z : Name) → Among z (contents (slots_or_none o)) → P z) → Among y (contents (slots_or_none (option_map (λ (l : Slots). set l i v) o))) → P y
    slots None before k = absurd k
    slots (Some l) before k = contents-set P l i v before new y k

    further : (z : Name) → Among y (further_of z (with_slot_written i v s)) → Among y (further_of z s)
    further (name.Native k) m = m
    further (name.Script k) m = m
    further (name.Reflector k) m = m

-- a slot of any object written; that of a reflector, where its native has it preserved
abbrev pub IsPreserved : Graph → Name → Type 0
IsPreserved g x = (k : ℕ) (s : Shape) → x ≡ reflector k → shape_in g (native k) ≡ Some s → IsTrue s.preserved

-- a slot written is a change
IsChange-written : (P : Name → Type 0) (x : Name) (i : ℕ) (v : Option Name) (h : Heap) (g : Graph) → P x → OfSome P v → IsPreserved g x → Follows P h g →
    IsChange P (changed_at x (with_slot_written i v)) g
IsChange-written P x i v h g p new kept t = record {
  moved = changed_at-moved P x (with_slot_written i v) p;
  edges = changed_at-edges P x (with_slot_written i v) h g t
      (λ y s e j. written-edges P x i v s new (λ z k. t.closed.edges x z s p e k) y j);
  delegates = changed_at-delegate x (with_slot_written i v) (λ s. refl);
  blank = λ k s r e q f.
      let before : s.preserved ≡ false = still s (same_name (native k) x) q in
      (before, untouched k s r e before (same_name (reflector k) x) refl);
}
  where
    still : (s : Shape) (b : Bool) → (if b then with_slot_written i v s else s).preserved ≡ false → s.preserved ≡ false
    still s b q = grind arith

    untouched : (k : ℕ) (s r : Shape) → shape_in g (native k) ≡ Some s → s.preserved ≡ false → (b : Bool) → same_name (reflector k) x ≡ b →
        (if b then with_slot_written i v r else r) ≡ r
    untouched k s r e q b n = grind (arith, same_name-true)

-- a script object of the heaps with a slot written
held_script : (i : ℕ) (v : Option Name) (o : HeapScript) → shape_of_held_script (heap.with_script_slot i v o) ≡ with_slot_written i v (shape_of_held_script o)
held_script i v o = grind arith

-- THE SAME SLOT WRITTEN with the same.
pub Follows-slot : (P : Name → Type 0) (h : Heap) (g : Graph) (x : Option Name) (i : ℕ) (v : Option Name) → OfSome P x → OfSome P v → OfSome (IsPreserved g) x →
    Follows P h g → Follows P (heap.set_slot h x i v) (graph.set_slot g x i v)
Follows-slot P h g None i v p new kept t = t
Follows-slot P h g (Some (name.Native k)) i v p new kept t = Follows-changed P (changed_at (native k.0) (with_slot_written i v)) h _ g _
    (HeapChanges-native h k.0 (heap.with_native_slot i v) (with_slot_written i v) (λ n. refl) (λ n. refl) (λ n. refl) t.objects.named)
    (GraphChanges-native g k.0 (graph.with_slot i v) (with_slot_written i v) (λ n. refl) (λ n. refl))
    (record { native_registers = refl; script_registers = refl; entries = refl; natives_made = refl; scripts_made = refl; limits = refl })
    (SameGraphBeside-native g k.0 (graph.with_slot i v))
    (IsChange-written P (native k.0) i v h g p new kept t) t
Follows-slot P h g (Some (name.Script k)) i v p new kept t = Follows-changed P (changed_at (object k.0) (with_slot_written i v)) h _ g _
    (HeapChanges-script h (object k.0) (heap.with_script_slot i v) (with_slot_written i v) refl (λ o. refl) (held_script i v))
    (GraphChanges-script g k.0 (graph.with_script_slot i v) (with_slot_written i v) made)
    (record { native_registers = refl; script_registers = refl; entries = refl; natives_made = refl; scripts_made = refl; limits = refl })
    (SameGraphBeside-script g k.0 (graph.with_script_slot i v))
    (IsChange-written P (object k.0) i v h g p new kept t) t
  where
    made : (o : GraphScript) → shape_of_object (graph.with_script_slot i v o) ≡ with_slot_written i v (shape_of_object o)
    made o = grind arith
Follows-slot P h g (Some (name.Reflector k)) i v p new kept t = Follows-changed P (changed_at (reflector k.0) (with_slot_written i v)) h _ g _
    (HeapChanges-script h (reflector k.0) (heap.with_script_slot i v) (with_slot_written i v) refl (λ o. refl) (held_script i v))
    (GraphChanges-reflector g k.0 (graph.with_reflector_slot i v) (with_slot_written i v) (λ n. refl) (λ n. made n.reflector))
    (record { native_registers = refl; script_registers = refl; entries = refl; natives_made = refl; scripts_made = refl; limits = refl })
    (SameGraphBeside-native g k.0 (graph.with_reflector_slot i v))
    (IsChange-written P (reflector k.0) i v h g p new kept t) t
  where
    made : (r : Option Slots) → option_map (λ slots. script_shape (Some slots) None) (option_map (λ slots. set slots i v) r)
        ≡ option_map (with_slot_written i v) (option_map (λ slots. script_shape (Some slots) None) r)
    made r = grind arith

-- A reflector preserved

-- A REFLECTOR PRESERVED, where `P` holds of it and of its native.
pub Follows-preserved : (P : Name → Type 0) (h : Heap) (g : Graph) (k : ℕ) → P (native k) → P (reflector k) → Follows P h g →
    Follows P (heap.preserve h (Some (reflector k))) (graph.preserve g (Some (reflector k)))
Follows-preserved P h g k p q t = Follows-changed P (changed_at (native k) with_preserved) h _ g _
    (HeapChanges-native h k (λ n. record n { preserved = true }) with_preserved (λ n. refl) (λ n. refl) (λ n. refl) t.objects.named)
    (GraphChanges-native g k graph.as_preserved with_preserved (λ n. refl) (λ n. refl))
    (record { native_registers = refl; script_registers = refl; entries = refl; natives_made = refl; scripts_made = refl; limits = refl })
    (SameGraphBeside-native g k graph.as_preserved)
    (record {
      moved = changed_at-moved P (native k) with_preserved p;
      edges = changed_at-edges P (native k) with_preserved h g t edges;
      delegates = changed_at-delegate (native k) with_preserved (λ s. refl);
      blank = λ j s r e b f. (still s (j == k) b, refl);
    }) t
  where
    edges : (y : Name) (s : Shape) → shape_in g (native k) ≡ Some s → Among y (contents (slots_or_none s.slots) ++ reflector k ∷ []) → P y
    edges y s e i = ⊎_elim
        (λ l. t.closed.edges (native k) y s p e (Among-left y (contents (slots_or_none s.slots)) (further_of (native k) s) l))
        (λ r. ⊎_elim (λ f. subst P f q) (λ n. absurd n) r)
        (Among-append y (contents (slots_or_none s.slots)) (reflector k ∷ []) i)

    still : (s : Shape) (b : Bool) → (if b then with_preserved s else s).preserved ≡ false → s.preserved ≡ false
    still s true b = absurd (true≢false b)
    still s false b = b

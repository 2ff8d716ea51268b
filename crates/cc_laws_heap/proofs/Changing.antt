-- HEAPS GO ON FOLLOWING A GRAPH where the shapes of objects change alike in both, where something is left out that nothing
-- reaches, and where registers are written alike.
use Rattle.std.proofs.Common.{arith, ◌≡◌, ℕ, false, map, length, Option, Some, option_map, refl, sym, ◌∙◌, ap, subst, inl, inr, ◌⊎◌, ⊎_elim}
use Rattle.std.specs.Prelude.{IsTrue}
use Rattle.cc_lists.specs.Members.{Among}
use Rattle.cc_lists.proofs.Members.{Among-map, Among-map_cases}
use Rattle.cc_names.specs.declared.name.Name.{Name}
use Rattle.cc_names.specs.Names.{native, reflector, is_script}
use Rattle.cc_model.specs.Slots.{Slots, contents, empty_slots}
use Rattle.cc_model.specs.Checks.{slots_or_none}
use Rattle.cc_model.specs.Graph.{Graph}
use Rattle.cc_model.specs.Heap.{Heap, HeapNative, HeapScript}
use Rattle.cc_model.specs.StandsFor.{Shape, shape_in, shape_of_held_native, shape_of_held_script, IsEmptied}
use Rattle.cc_laws_heap.specs.Freeing.{uncounted, SameBeside}
use Rattle.cc_laws_heap.proofs.Shapes.{edges_of_shape, IsOfNone}
use Rattle.cc_laws_heap.proofs.GraphParts.{with_registers}
use Rattle.cc_laws_heap.proofs.Following.{NativeFollows, AreObjects, AreEntries, Follows}

-- what a change makes of the shape of an object
abbrev pub Change : Type 0
Change = Name → Shape → Shape

-- the change that changes nothing
abbrev pub unchanged : Change
unchanged x s = s

-- objects of the changed heaps are those of the heaps, changed, and unlinked where they were; some may be left out
pub record HeapChanges (f : Change) (h k : Heap) : Type 0 where
  pub natives : (n : HeapNative) → Among n k.natives →
      (m : HeapNative) × Among m h.natives × (m.number ≡ n.number) × (shape_of_held_native n ≡ f (native m.number) (shape_of_held_native m)) × (m.unlinked ≡ n.unlinked)
  pub scripts : (o : HeapScript) → Among o k.scripts →
      (p : HeapScript) × Among p h.scripts × (p.name ≡ o.name) × (shape_of_held_script o ≡ f p.name (shape_of_held_script p))

-- objects of the changed graph are those of the graph, changed
abbrev pub GraphChanges : Change → Graph → Graph → Type 0
GraphChanges f g e = (x : Name) → shape_in e x ≡ option_map (f x) (shape_in g x)

-- what is some after a map is the map of something
pub option_map-found : {X Y : Type 0} (f : X → Y) (o : Option X) (y : Y) → option_map f o ≡ Some y → (x : X) × (o ≡ Some x) × (f x ≡ y)
option_map-found f x y e = grind arith

-- objects that only `P` holds of change
pub AreObjects-changed : (P : Name → Type 0) (f : Change) (h k : Heap) (g e : Graph) → HeapChanges f h k → GraphChanges f g e →
    ((x : Name) → ((s : Shape) → f x s ≡ s) ⊎ P x) → AreObjects P h g → AreObjects P k e
AreObjects-changed P f h k g e heap graph moved a = record {
  natives = natives;
  living = λ n i u. let m = heap.natives n i in subst (λ j. P (native j)) m.2 (a.living m.0 m.1 (m.4 ∙ u));
  spent = λ n i u p. let m = heap.natives n i in a.spent m.0 m.1 (m.4 ∙ u) (subst (λ j. P (native j)) (sym m.2) p);
  alike = alike;
  scripts = scripts;
  named = λ o i. let p = heap.scripts o i in subst (λ x. IsTrue (is_script x)) p.2 (a.named p.0 p.1);
}
  where
    alike : (n : HeapNative) → Among n k.natives → P (native n.number) → shape_in e (native n.number) ≡ Some (shape_of_held_native n)
    alike n i p =
        let m = heap.natives n i in
        let before = a.alike m.0 m.1 (subst (λ j. P (native j)) (sym m.2) p) in
        ap (λ j. shape_in e (native j)) (sym m.2)
        ∙ (graph (native m.0.number) ∙ (ap (option_map (f (native m.0.number))) before ∙ ap (λ s. Some s) (sym m.3)))

    natives : (n : HeapNative) → Among n k.natives → NativeFollows e n
    natives n i =
        let m = heap.natives n i in
        let t = a.natives m.0 m.1 in (
          f (native m.0.number) t.0,
          ap (λ j. shape_in e (native j)) (sym m.2) ∙ (graph (native m.0.number) ∙ ap (option_map (f (native m.0.number))) t.1),
          ⊎_elim (λ s. inl (m.3 ∙ ap (f (native m.0.number)) s))
              (λ emptied. ⊎_elim
              (λ stays. inr (still n m.0 (m.3 ∙ stays (shape_of_held_native m.0)) m.4 emptied))
              (λ p. let s : shape_of_held_native m.0 ≡ t.0 = some (sym (a.alike m.0 m.1 p) ∙ t.1) in inl (m.3 ∙ ap (f (native m.0.number)) s))
              (moved (native m.0.number))) t.2,
        )
      where
        some : {a b : Shape} → Some a ≡ Some b → a ≡ b
        some e = cc

        still : (n m : HeapNative) → shape_of_held_native n ≡ shape_of_held_native m → m.unlinked ≡ n.unlinked → IsEmptied m → IsEmptied n
        still n m s u t =
            let slots : n.slots ≡ m.slots = ap (λ (s : Shape). slots_or_none s.slots) s in
            record {
              unlinked = sym u ∙ t.unlinked;
              slots = subst (λ (l : Slots). l ≡ empty_slots (length l)) (sym slots) t.slots;
              preserved = ap (λ (s : Shape). s.preserved) s ∙ t.preserved;
            }

    scripts : (o : HeapScript) → Among o k.scripts → shape_in e o.name ≡ Some (shape_of_held_script o)
    scripts o i =
        let p = heap.scripts o i in
        ap (shape_in e) (sym p.2) ∙ (graph p.0.name ∙ (ap (option_map (f p.0.name)) (a.scripts p.0 p.1) ∙ ap (λ s. Some s) (sym p.3)))

-- but for their objects, two heaps, and two graphs, are the same
pub record SameHeapBeside (h k : Heap) : Type 0 where
  pub native_registers : k.native_registers ≡ h.native_registers
  pub script_registers : k.script_registers ≡ h.script_registers
  pub entries : k.entries ≡ h.entries
  pub natives_made : k.natives_made ≡ h.natives_made
  pub scripts_made : k.scripts_made ≡ h.scripts_made
  pub limits : k.limits ≡ h.limits

-- the same of two graphs
pub record SameGraphBeside (g e : Graph) : Type 0 where
  pub native_registers : e.native_registers ≡ g.native_registers
  pub script_registers : e.script_registers ≡ g.script_registers
  pub entries : e.entries ≡ g.entries
  pub natives_made : length e.natives ≡ length g.natives
  pub scripts_made : length e.scripts ≡ length g.scripts
  pub limits : e.limits ≡ g.limits

-- a change of objects of which `P` holds, after which they refer to nothing but that
pub record IsChange (P : Name → Type 0) (f : Change) (g : Graph) : Type 0 where
  pub moved : (x : Name) → ((s : Shape) → f x s ≡ s) ⊎ P x
  pub edges : (x y : Name) (s : Shape) → P x → shape_in g x ≡ Some s → Among y (edges_of_shape x (f x s)) → P y
  -- none gets or loses a delegate
  pub delegates : (x : Name) (s : Shape) → (f x s).delegate ≡ s.delegate
  -- a reflector that is not preserved after it was not before, and does not change
  pub blank : (k : ℕ) (s t : Shape) → shape_in g (native k) ≡ Some s → (f (native k) s).preserved ≡ false → shape_in g (reflector k) ≡ Some t →
      (s.preserved ≡ false) × (f (reflector k) t ≡ t)

-- OBJECTS CHANGE ALIKE.
pub Follows-changed : (P : Name → Type 0) (f : Change) (h k : Heap) (g e : Graph) → HeapChanges f h k → GraphChanges f g e →
    SameHeapBeside h k → SameGraphBeside g e → IsChange P f g → Follows P h g → Follows P k e
Follows-changed P f h k g e heap graph a b c t = record {
  beside = record {
    native_registers = a.native_registers ∙ (t.beside.native_registers ∙ sym b.native_registers);
    script_registers = a.script_registers ∙ (t.beside.script_registers ∙ sym b.script_registers);
    limits = a.limits ∙ (t.beside.limits ∙ sym b.limits);
    natives_made = a.natives_made ∙ (t.beside.natives_made ∙ sym b.natives_made);
    scripts_made = a.scripts_made ∙ (t.beside.scripts_made ∙ sym b.scripts_made);
  };
  objects = AreObjects-changed P f h k g e heap graph c.moved t.objects;
  entries = subst (λ es. AreEntries P es e.entries) (sym a.entries) (subst (AreEntries P h.entries) (sym b.entries) t.entries);
  blank = λ j s r x p y.
      let n = option_map-found (f (native j)) (shape_in g (native j)) s (sym (graph (native j)) ∙ x) in
      let m = option_map-found (f (reflector j)) (shape_in g (reflector j)) r (sym (graph (reflector j)) ∙ y) in
      let same = c.blank j n.0 m.0 n.1 (ap (λ (s : Shape). s.preserved) n.2 ∙ p) m.1 in
      let before = t.blank j n.0 m.0 n.1 same.0 m.1 in
      let still : m.0 ≡ r = sym same.1 ∙ m.2 in
      (ap (λ (s : Shape). s.slots) (sym still) ∙ before.0, (λ d i. before.1 d (subst (Among d) b.entries i)), no_delegate (reflector j) before.2);
  closed = record {
    native_registers = λ x i. t.closed.native_registers x (subst (λ (l : Slots). Among x (contents l)) b.native_registers i);
    script_registers = λ x i. t.closed.script_registers x (subst (λ (l : Slots). Among x (contents l)) b.script_registers i);
    edges = λ x y s p q i.
        let m = option_map-found (f x) (shape_in g x) s (sym (graph x) ∙ q) in
        c.edges x y m.0 p m.1 (subst (λ (v : Shape). Among y (edges_of_shape x v)) (sym m.2) i);
    entries = λ d i. t.closed.entries d (subst (Among d) b.entries i);
    keys = λ d y i. t.closed.keys d y (subst (Among d) b.entries i);
  };
}
  where
    no_delegate : (x : Name) → IsOfNone g x → IsOfNone e x
    no_delegate x none z s i q =
        let m = option_map-found (f z) (shape_in g z) s (sym (graph z) ∙ i) in
        none z m.0 m.1 (sym (c.delegates z m.0) ∙ (ap (λ (v : Shape). v.delegate) m.2 ∙ q))

-- Nothing changes that is seen in the graph

-- a map that changes nothing
pub option_map-same : (o : Option Shape) → o ≡ option_map (λ s. s) o
option_map-same o = grind arith

-- to change nothing is a change
pub IsChange-unchanged : (P : Name → Type 0) (h : Heap) (g : Graph) → Follows P h g → IsChange P unchanged g
IsChange-unchanged P h g t = grind arith

-- the objects of heaps are others of the same names and shapes, or left out
pub record Leaves (h k : Heap) : Type 0 where
  pub beside : SameHeapBeside h k
  pub objects : HeapChanges unchanged h k

-- WHAT IS LEFT FOLLOWS.
pub Follows-left : (P : Name → Type 0) (h k : Heap) (g : Graph) → Leaves h k → Follows P h g → Follows P k g
Follows-left P h k g l t = grind (arith, Follows-changed, option_map-same, IsChange-unchanged)

-- natives that are the same but for their counts, or are left out
pub Leaves-uncounted : (h k : Heap) → ((u : HeapNative) → Among u (map uncounted k.natives) → Among u (map uncounted h.natives)) → SameBeside h k → Leaves h k
Leaves-uncounted h k natives b = record {
  beside = record {
    native_registers = b.native_registers;
    script_registers = b.script_registers;
    entries = b.entries;
    natives_made = b.natives_made;
    scripts_made = b.scripts_made;
    limits = b.limits;
  };
  objects = record {
    natives = λ n i.
        let m = Among-map_cases uncounted h.natives (uncounted n) (natives (uncounted n) (Among-map uncounted n k.natives i)) in
        (m.0, m.1, ap (λ (u : HeapNative). u.number) m.2, ap shape_of_held_native (sym m.2), ap (λ (u : HeapNative). u.unlinked) m.2);
    scripts = λ o i. (o, subst (Among o) b.scripts i, refl, refl);
  };
}

-- Registers

-- REGISTERS WRITTEN ALIKE, with that of which `P` holds.
pub Follows-registers : (P : Name → Type 0) (h : Heap) (g : Graph) (ns ss ms ts : Slots) → ns ≡ ms → ss ≡ ts →
    ((x : Name) → Among x (contents ms) → P x) → ((x : Name) → Among x (contents ts) → P x) →
    Follows P h g → Follows P (record h { native_registers = ns; script_registers = ss }) (with_registers g ms ts)
Follows-registers P h g ns ss ms ts a b natives scripts t = grind (arith, AreObjects-changed, option_map-same)

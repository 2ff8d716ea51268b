-- AN OBJECT MADE ALIKE in heaps and in the graph that they follow: it holds nothing, and no entry is of it.
use Rattle.std.proofs.Common.{arith, ◌≡◌, ◌≢◌, ℕ, true, false, List, Some, None, option_map, sym, ◌∙◌, ap, subst, inl, inr, ◌⊎◌, ⊎_elim}
use Rattle.std.specs.Prelude.{IsTrue}
use Rattle.std.proofs.lemmas.Bool.{true≢false, false≢true, cases_Bool}
use Rattle.cc_lists.specs.Members.{Among}
use Rattle.cc_names.specs.declared.name.Name.{Name}
use Rattle.cc_names.specs.Names.{native, reflector, same_name, is_script}
use Rattle.cc_names.proofs.NameTests.{same_name-true, same_name-refl}
use Rattle.cc_model.specs.Slots.{Slots, contents, empty_slots, reflector_slots}
use Rattle.cc_model.specs.Entries.{Entry, value_in}
use Rattle.cc_model.specs.Graph.{Graph}
use Rattle.cc_model.specs.Heap.{Heap, HeapNative, HeapScript}
use Rattle.cc_model.specs.StandsFor.{Shape, shape_in, shape_of_native, shape_of_held_native, shape_of_held_script}
use Rattle.cc_laws_heap.proofs.EntryLists.{found-among}
use Rattle.cc_laws_heap.proofs.Shapes.{edges_of_shape, IsOfNone}
use Rattle.cc_laws_heap.proofs.ReachedAlike.{ArePart-among}
use Rattle.cc_laws_heap.proofs.Following.{AgreesBeside, AreObjects, AreEntries, IsBlank, Follows, shape_in-reflector}

-- object x is made, of shape s, or may have been in the graph, but for the heaps
pub record IsMade (P : Name → Type 0) (h k : Heap) (g e : Graph) (x : Name) (s : Shape) : Type 0 where
  pub natives : (n : HeapNative) → Among n k.natives → Among n h.natives ⊎ ((native n.number ≡ x) × (shape_of_held_native n ≡ s) × (n.unlinked ≡ false))
  pub scripts : (o : HeapScript) → Among o k.scripts → Among o h.scripts ⊎ ((o.name ≡ x) × (shape_of_held_script o ≡ s) × IsTrue (is_script x))
  pub others : (z : Name) → z ≢ x → shape_in e z ≡ shape_in g z
  pub made : shape_in e x ≡ Some s
  pub before : (t : Shape) → shape_in g x ≡ Some t → (t ≡ s) × IsTrue (is_script x)
  pub targets : (y : Name) → Among y (edges_of_shape x s) → P y
  pub no_entry : (d : Entry) → Among d g.entries → (d.the_map ≢ x) × (d.key ≢ x) × (d.delegate ≢ Some x)
  pub no_delegate : IsOfNone g x
  pub blank : (j : ℕ) → x ≡ reflector j → s.slots ≡ Some (empty_slots reflector_slots)
  -- where it has a reflector for a delegate, that is preserved
  pub delegate : (j : ℕ) (a : Shape) → s.delegate ≡ Some (reflector j) → shape_in g (native j) ≡ Some a → a.preserved ≡ true
  -- nothing else changes
  pub beside : AgreesBeside k e
  pub heap_entries : k.entries ≡ h.entries
  pub graph_entries : e.entries ≡ g.entries
  pub native_registers : e.native_registers ≡ g.native_registers
  pub script_registers : e.script_registers ≡ g.script_registers

-- a map and a key without an entry have no value
value_in-none : (es : List Entry) (m k : Name) → ((e : Entry) → Among e es → e.the_map ≡ m → e.key ≡ k → ⊥) → value_in es m k ≡ None
value_in-none es m k none = grind (arith, found-among)

module _ (P : Name → Type 0) (h k : Heap) (g e : Graph) (x : Name) (s : Shape) (c : IsMade P h k g e x s) (t : Follows P h g) where
  -- what had a shape has it still
  stays : (z : Name) (r : Shape) → shape_in g z ≡ Some r → shape_in e z ≡ Some r
  stays z r i = grind (arith, same_name-true, same_name-refl)

  -- and what has a shape had it, or was made
  had : (z : Name) (r : Shape) → shape_in e z ≡ Some r → (shape_in g z ≡ Some r) ⊎ ((z ≡ x) × (r ≡ s))
  had z r i = ⊎_elim
      (λ n.
      let same : z ≡ x = same_name-true z x n in
      let both : Some r ≡ Some s = sym i ∙ (ap (shape_in e) same ∙ c.made) in
      inr (same, cc))
      (λ n. inl (sym (c.others z (λ q. true≢false (sym (ap (λ y. same_name y x) q ∙ same_name-refl x) ∙ n))) ∙ i))
      (cases_Bool (same_name z x))

  -- the objects of the heaps are in the graph with one more
  objects-made : AreObjects (λ z. P z ⊎ (x ≡ z)) k e
  objects-made = record {
    natives = λ n i. ⊎_elim
        (λ l. let b = t.objects.natives n l in (b.0, stays (native n.number) b.0 b.1, b.2))
        (λ r. (s, ap (shape_in e) r.0 ∙ c.made, inl r.1))
        (c.natives n i);
    living = λ n i u. ⊎_elim (λ l. inl (t.objects.living n l u)) (λ r. inr (sym r.0)) (c.natives n i);
    spent = λ n i u p. ⊎_elim
        (λ l. ⊎_elim (t.objects.spent n l u) (made-none n l) p)
        (λ r. true≢false (sym u ∙ r.2))
        (c.natives n i);
    alike = λ n i p. ⊎_elim
        (λ l. ⊎_elim
        (λ q. stays (native n.number) (shape_of_held_native n) (t.objects.alike n l q))
        (λ q. absurd (made-none n l q)) p)
        (λ r. ap (shape_in e) r.0 ∙ (c.made ∙ ap (λ (v : Shape). Some v) (sym r.1)))
        (c.natives n i);
    scripts = λ o i. ⊎_elim
        (λ l. stays o.name (shape_of_held_script o) (t.objects.scripts o l))
        (λ r. ap (shape_in e) r.0 ∙ (c.made ∙ ap (λ (v : Shape). Some v) (sym r.1)))
        (c.scripts o i);
    named = λ o i. ⊎_elim (λ l. t.objects.named o l) (λ r. subst (λ z. IsTrue (is_script z)) (sym r.0) r.2) (c.scripts o i);
  }
    where
      -- what is made is no native that was there
      made-none : (n : HeapNative) → Among n h.natives → ¬ (x ≡ native n.number)
      made-none n l q = let b = t.objects.natives n l in false≢true (subst (λ z. IsTrue (is_script z)) q (c.before b.0 (ap (shape_in g) q ∙ b.1)).1)

  -- a map or a key that was made has no value
  entries-made : AreEntries (λ z. P z ⊎ (x ≡ z)) k.entries e.entries
  entries-made = subst (λ es. AreEntries (λ z. P z ⊎ (x ≡ z)) es e.entries) (sym c.heap_entries) (subst (λ es. AreEntries (λ z. P z ⊎ (x ≡ z)) h.entries es) (sym c.graph_entries)
      (record {
        values = λ a b p q. ⊎_elim
            (λ l. ⊎_elim
            (λ r. t.entries.values a b l r)
            (λ r. none a b (λ d i m n. (c.no_entry d i).1 (n ∙ sym r))) q)
            (λ l. none a b (λ d i m n. (c.no_entry d i).0 (m ∙ sym l))) p;
        part = t.entries.part;
      }))
    where
      none : (a b : Name) → ((d : Entry) → Among d g.entries → d.the_map ≡ a → d.key ≡ b → ⊥) → value_in h.entries a b ≡ value_in g.entries a b
      none a b f = value_in-none h.entries a b (λ d i. f d (ArePart-among h.entries g.entries d t.entries.part i)) ∙ sym (value_in-none g.entries a b f)

  -- reflectors that are not preserved are blank
  blank-made : IsBlank e
  blank-made j a b i p f = ⊎_elim
      (λ old. ⊎_elim
      (λ q. let r = t.blank j a b old p q in (r.0, (λ d m. r.1 d (subst (Among d) c.graph_entries m)), no_delegate j a old p r.2))
      (λ q. (
        ap (λ (v : Shape). v.slots) q.1 ∙ c.blank j (sym q.0),
        (λ d m n. (c.no_entry d (subst (Among d) c.graph_entries m)).1 (n ∙ q.0)),
        no_delegate j a old p (subst (IsOfNone g) (sym q.0) c.no_delegate),
      ))
      (had (reflector j) b f))
      (λ new. ⊎_elim
      (λ q.
      let n = shape_in-reflector g j b q in
      let made : shape_in g (native j) ≡ Some (shape_of_native n.0) = ap (option_map shape_of_native) n.2 in
      absurd (false≢true (subst (λ z. IsTrue (is_script z)) (sym new.0) (c.before (shape_of_native n.0) (ap (shape_in g) (sym new.0) ∙ made)).1)))
      (λ q. absurd (apart (new.0 ∙ sym q.0)))
      (had (reflector j) b f))
      (had (native j) a i)
    where
      apart : native j ≡ reflector j → ⊥
      apart q = cc

      no_delegate : (j : ℕ) (a : Shape) → shape_in g (native j) ≡ Some a → a.preserved ≡ false → IsOfNone g (reflector j) → IsOfNone e (reflector j)
      no_delegate j a i p none z r f q = ⊎_elim
          (λ l. none z r l q)
          (λ l. absurd (true≢false (sym (c.delegate j a (ap (λ (v : Shape). v.delegate) (sym l.1) ∙ q) i) ∙ p)))
          (had z r f)

  -- AN OBJECT MADE ALIKE.
  pub Follows-made : Follows (λ z. P z ⊎ (x ≡ z)) k e
  Follows-made = record {
    beside = c.beside;
    objects = objects-made;
    entries = entries-made;
    blank = blank-made;
    closed = record {
      native_registers = λ z i. inl (t.closed.native_registers z (subst (λ (l : Slots). Among z (contents l)) c.native_registers i));
      script_registers = λ z i. inl (t.closed.script_registers z (subst (λ (l : Slots). Among z (contents l)) c.script_registers i));
      edges = λ z y r p i m. ⊎_elim
          (λ old. ⊎_elim
          (λ q. inl (t.closed.edges z y r q old m))
          (λ q.
          let before = c.before r (ap (shape_in g) q ∙ old) in
          inl (c.targets y (subst (λ v. Among y (edges_of_shape x v)) before.0 (subst (λ v. Among y (edges_of_shape v r)) (sym q) m)))) p)
          (λ new. inl (c.targets y (subst (λ v. Among y (edges_of_shape x v)) new.1 (subst (λ v. Among y (edges_of_shape v r)) new.0 m))))
          (had z r i);
      entries = λ d i p q.
          let there : Among d g.entries = subst (Among d) c.graph_entries i in
          ⊎_elim
          (λ a. ⊎_elim (λ b. inl (t.closed.entries d there a b)) (λ b. absurd ((c.no_entry d there).1 (sym b))) q)
          (λ a. absurd ((c.no_entry d there).0 (sym a))) p;
      keys = λ d y i r p q.
          let there : Among d g.entries = subst (Among d) c.graph_entries i in
          ⊎_elim
          (λ a. ⊎_elim (λ b. inl (t.closed.keys d y there r a b)) (λ b. absurd ((c.no_entry d there).2 (r ∙ ap (λ z. Some z) (sym b)))) q)
          (λ a. absurd ((c.no_entry d there).0 (sym a))) p;
    };
  }

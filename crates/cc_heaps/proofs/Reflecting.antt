-- THE REFLECTOR OF A REACHED NATIVE, as far as it is in the heaps: they follow the graph over what is given and the
-- reflector. Preserved it is given, and else it is blank.
use Rattle.cc_lists.proofs.Held.{option_and_then-found}
use Rattle.cc_laws_heap.proofs.Face.{Follows, Follows-made, IsIn, IsMade, IsOfNone, delegate_in-shape, shape_in-reflector, Made, MadeScript, OfSome, Reached-given, contents-empty_none, further_of, option_map-found, stands-follows}
use Rattle.std.proofs.Common.{arith, ◌≡◌, ℕ, true, false, [], ◌∷◌, Option, Some, None, refl, sym, ◌∙◌, ap, subst, inl, inr, ◌⊎◌, ⊎_elim}
use Rattle.std.proofs.lemmas.Bool.{cases_Bool}
use Rattle.cc_lists.specs.Members.{Among}
use Rattle.cc_lists.proofs.Members.{Among-map_cases, Among-right, Among-append}
use Rattle.cc_names.specs.declared.name.Name.{Name}
use Rattle.cc_names.specs.declared.name.Name.TheVariants as name
use Rattle.cc_names.specs.Names.{native, object, reflector}
use Rattle.cc_model.specs.Slots.{Slots, contents, empty_slots, reflector_slots}
use Rattle.cc_model.specs.Entries.{Entry}
use Rattle.cc_model.specs.Graph.{Graph}
use Rattle.cc_model.specs.Reached.{Reached}
use Rattle.cc_model.specs.Given.{Given}
use Rattle.cc_model.specs.WellMade.{IsWellMade}
use Rattle.cc_model.specs.Heap.{Heap, HeapScript}
use Rattle.cc_model.specs.WellFormed.{IsWellFormed, FitsName, script_names}
use Rattle.cc_model.specs.StandsFor.{Shape, shape_in, shape_of_held_script, script_shape, IsKept, StandsFor}

-- what has a shape in the graph was made
pub shape-made : (g : Graph) (x : Name) (s : Shape) → shape_in g x ≡ Some s → Made g x
shape-made g x s e = grind (arith, option_map-found, option_and_then-found)

shape-made_script : (g : Graph) (x : Name) (s : Shape) → ¬ ((k : ℕ) × (x ≡ native k)) → shape_in g x ≡ Some s → MadeScript g x
shape-made_script g (name.Native k) s other e = absurd (other (k.0, refl))
shape-made_script g x s other e = shape-made g x s e

-- A script object of the heaps was made in the graph.
pub there-made : (h : Heap) (g : Graph) (x : Name) → IsWellFormed h → StandsFor h g → Among x (script_names h) → MadeScript g x
there-made h g x w s m =
    let f = Among-map_cases (λ (o : HeapScript). o.name) h.scripts x m in
    subst (MadeScript g) f.2 (shape-made_script g f.0.name (shape_of_held_script f.0)
    (λ k. subst (λ y. FitsName y f.0.kind f.0.slots) k.1 (w.kinds f.0 f.1))
    (sym (s.scripts f.0 f.1).shape))

-- So was each that a register or a slot holds.
pub held-made : (h : Heap) (g : Graph) (x : Option Name) → IsWellFormed h → StandsFor h g → IsIn (script_names h) x → OfSome (MadeScript g) x
held-made h g None w s there = tt
held-made h g (Some x) w s there = there-made h g x w s (there x (inl refl))

-- the shape of a blank reflector
abbrev blank_shape : Shape
blank_shape = script_shape (Some (empty_slots reflector_slots)) None

module _ (h : Heap) (g : Graph) (k : ℕ) (w : IsWellFormed h) (m : IsWellMade g) (s : StandsFor h g) (there : Among (reflector k) (script_names h)) (d : Reached g (native k)) where
  -- the native is given
  native-given : Given h g (native k)
  native-given = Reached-given h g (native k) d

  -- the heaps follow the graph over what is given
  follows : Follows (Given h g) h g
  follows = stands-follows h g w s

  -- the native as it is in both
  kept : IsKept h g (native k)
  kept = s.given (native k) native-given

  -- the reflector as it is in the heaps
  own : (o : HeapScript) × Among o h.scripts × (o.name ≡ reflector k)
  own = Among-map_cases (λ (o : HeapScript). o.name) h.scripts (reflector k) there

  -- and so in the graph
  own-made : shape_in g (reflector k) ≡ Some (shape_of_held_script own.0)
  own-made = ap (shape_in g) (sym own.2) ∙ follows.objects.scripts own.0 own.1

  -- a preserved reflector is given
  preserved-given : kept.shape.preserved ≡ true → Given h g (reflector k)
  preserved-given p = follows.closed.edges (native k) (reflector k) kept.shape native-given kept.made
      (Among-right (reflector k) (contents (slots_of kept.shape.slots)) (further_of (native k) kept.shape)
      (subst (λ b. Among (reflector k) (elim b [ true ↦ reflector k ∷ [] | false ↦ [] ])) (sym p) (inl refl)))
    where
      slots_of : Option Slots → Slots
      slots_of None = []
      slots_of (Some l) = l

  -- one that is not preserved is blank, and no entry has it for a key, and no proxy for a delegate
  blank : kept.shape.preserved ≡ false → (shape_in g (reflector k) ≡ Some blank_shape) × ((e : Entry) → Among e g.entries → ¬ (e.key ≡ reflector k)) × IsOfNone g (reflector k)
  blank p =
      let b = follows.blank k kept.shape (shape_of_held_script own.0) kept.made p own-made in
      let f = shape_in-reflector g k (shape_of_held_script own.0) own-made in
      let its : Some f.1 ≡ (shape_of_held_script own.0).slots = ap (λ (s : Shape). s.slots) f.4 in
      (own-made ∙ (ap (λ (s : Shape). Some s) (sym f.4) ∙ ap (λ l. Some (script_shape l None)) (its ∙ b.0)), b.1, b.2)

  -- so it is the delegate of no entry
  not_delegate : kept.shape.preserved ≡ false → (e : Entry) → Among e g.entries → ¬ (e.delegate ≡ Some (reflector k))
  not_delegate p e i q =
      let f = option_and_then-found (λ (s : Shape). s.delegate) (shape_in g e.key) (reflector k) (sym (delegate_in-shape g e.key) ∙ (sym (m.entries e i).delegate ∙ q)) in
      (blank p).2 e.key f.0 f.1 f.2

  -- so it is as if it were made alike in both
  as_made : kept.shape.preserved ≡ false → IsMade (Given h g) h h g g (reflector k) blank_shape
  as_made p = record {
    natives = λ n i. inl i;
    scripts = λ o i. inl i;
    others = λ z q. refl;
    made = (blank p).0;
    before = λ t e. (same t (sym e ∙ (blank p).0), refl);
    targets = λ y i. ⊎_elim
        (λ a. absurd (contents-empty_none reflector_slots y a))
        (λ r. ⊎_elim (λ q. subst (Given h g) q native-given) (λ q. absurd q) r)
        (Among-append y (contents (empty_slots reflector_slots)) (native k ∷ []) i);
    no_entry = λ e i. (λ q. apart (sym (m.entries e i).the_map.1 ∙ q), (blank p).1 e i, not_delegate p e i);
    no_delegate = (blank p).2;
    blank = λ j e. refl;
    delegate = λ j a e q. absurd (cc);
    beside = follows.beside;
    heap_entries = refl;
    graph_entries = refl;
    native_registers = refl;
    script_registers = refl;
  }
    where
      same : (t : Shape) → Some t ≡ Some blank_shape → t ≡ blank_shape
      same t e = cc

      apart : {a b : ℕ} → object a ≡ reflector b → ⊥
      apart q = cc

  -- THE HEAPS FOLLOW THE GRAPH over the native and its reflector: whatever follows from that, follows.
  pub Follows-reflector : (Q : Type 0) → ((P : Name → Type 0) → P (native k) → P (reflector k) → Follows P h g → Q) → Q
  Follows-reflector Q f = ⊎_elim
      (λ p. f (Given h g) native-given (preserved-given p) follows)
      (λ p. f (λ z. Given h g z ⊎ (reflector k ≡ z)) (inl native-given) (inr refl)
      (Follows-made (Given h g) h h g g (reflector k) blank_shape (as_made p) follows))
      (cases_Bool kept.shape.preserved)

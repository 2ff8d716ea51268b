-- WELL FORMED HEAPS THAT FOLLOW A GRAPH STAND FOR IT: what is given is there, since what well formed heaps mention is there.
use Rattle.std.proofs.Common.{arith, ◌≡◌, ℕ, Bool, true, false, [], ◌∷◌, ◌++◌, Option, Some, None, is_some, option_map, refl, sym, ◌∙◌, ap, subst, ⊎_elim}
use Rattle.std.specs.Option.{option_and_then, option_to_list}
use Rattle.cc_lists.specs.Members.{Among}
use Rattle.cc_lists.proofs.Members.{Among-left, Among-right, Among-append, Among-map}
use Rattle.cc_names.specs.declared.name.Name.{Name}
use Rattle.cc_names.specs.declared.name.Name.TheVariants as name
use Rattle.cc_names.specs.declared.kind.Kind.{Kind}
use Rattle.cc_names.specs.declared.kind.Kind.TheVariants.{Map}
use Rattle.cc_names.specs.Names.{native, reflector}
use Rattle.cc_model.specs.Slots.{Slots, contents, empty_slots, reflector_slots}
use Rattle.cc_model.specs.Entries.{value_in}
use Rattle.cc_model.specs.Checks.{slots_or_none}
use Rattle.cc_model.specs.Graph.{Graph}
use Rattle.cc_model.specs.Reached.{Reached, roots_of}
use Rattle.cc_model.specs.Given.{given, given_edge, given_value, given_key, Given, living_names}
use Rattle.cc_model.specs.WellMade.{IsWellMade}
use Rattle.cc_model.specs.Heap.{Heap, HeapNative, HeapScript, slots_of_kind}
use Rattle.cc_model.specs.WellFormed.{IsWellFormed, FitsName, is_proxy_kind, native_names, script_names, names_there}
use Rattle.cc_model.specs.StandsFor.{Shape, shape_in, shape_at, shape_of_native, shape_of_held_native, shape_of_held_script, script_shape, shape_of_reflector, NativeStands, ScriptStands, IsKept, StandsFor}
use Rattle.cc_laws_heap.proofs.Given.{Reached-given, named-living}
use Rattle.cc_laws_heap.proofs.EntryLists.{found-among, found-only}
use Rattle.cc_laws_heap.proofs.Shapes.{edges_of_shape, further_of, kind_of_shape, kind_in-shape, no_delegate-from}
use Rattle.cc_laws_heap.proofs.HeapShapes.{shape_at-found, there-shape_at}
use Rattle.cc_laws_heap.proofs.ReachedAlike.{edges_of-made}
use Rattle.cc_laws_heap.proofs.Following.{NativeFollows, Follows, shape_in-native, given-within, stands-follows}

-- what an object of the heaps refers to is there
edges-there : (h : Heap) → IsWellFormed h → (x y : Name) (s : Shape) → shape_at h x ≡ Some s → Among y (edges_of_shape x s) → Among y (names_there h)
edges-there h w x y s e m = ⊎_elim
    (λ f. of_native f.0 f.1 (moved (native f.0.number) (shape_of_held_native f.0) f.2 f.3))
    (λ f. of_script f.0 f.1 f.0.name refl (w.kinds f.0 f.1) (moved f.0.name (shape_of_held_script f.0) f.2 f.3))
    (shape_at-found h x s e)
  where
    moved : (z : Name) (t : Shape) → z ≡ x → t ≡ s → Among y (edges_of_shape z t)
    moved z t p q = subst (λ v. Among y (edges_of_shape v t)) (sym p) (subst (λ v. Among y (edges_of_shape x v)) (sym q) m)

    script : Among y (script_names h) → Among y (names_there h)
    script i = Among-right y (native_names h) (script_names h) i

    of_native : (n : HeapNative) → Among n h.natives → Among y (edges_of_shape (native n.number) (shape_of_held_native n)) → Among y (names_there h)
    of_native n i j = ⊎_elim (w.native_contents n y i) (λ f. kept n.preserved refl f) (Among-append y (contents n.slots) (further_of (native n.number) (shape_of_held_native n)) j)
      where
        kept : (b : Bool) → n.preserved ≡ b → Among y (elim b [ true ↦ reflector n.number ∷ [] | false ↦ [] ]) → Among y (names_there h)
        kept true p f = ⊎_elim (λ e. subst (λ z. Among z (names_there h)) e (Among-right (reflector n.number) (native_names h) (script_names h) (w.preserved n i p))) (λ b. absurd b) f
        kept false p f = absurd f

    of_script : (o : HeapScript) → Among o h.scripts → (z : Name) → o.name ≡ z → FitsName z o.kind o.slots → Among y (edges_of_shape z (shape_of_held_script o)) → Among y (names_there h)
    of_script o i z e fits j = ⊎_elim (λ f. script (slots o.kind f)) (λ f. further z e f) (Among-append y (contents (slots_or_none (slots_of_kind o.kind o.slots))) (further_of z (shape_of_held_script o)) j)
      where
        slots : (kind : Kind) → Among y (contents (slots_or_none (slots_of_kind kind o.slots))) → Among y (script_names h)
        slots Map f = absurd f
        slots _ f = w.script_contents o y i f

        delegate : (d : Option Name) → o.delegate ≡ d → Among y (option_to_list d) → Among y (names_there h)
        delegate None p f = absurd f
        delegate (Some d) p f = script (⊎_elim (λ e. subst (λ z. Among z (script_names h)) e (w.delegate_there o d i p)) (λ b. absurd b) f)

        behind : (k : ℕ) → o.name ≡ reflector k → Among y (native k ∷ []) → Among y (names_there h)
        behind k p f = ⊎_elim
            (λ e. subst (λ z. Among z (names_there h)) e
            (Among-left (native k) (native_names h) (script_names h)
            (w.reflected k (subst (λ z. Among z (script_names h)) p (Among-map (λ (p : HeapScript). p.name) o h.scripts i)))))
            (λ b. absurd b) f

        further : (z : Name) → o.name ≡ z → Among y (further_of z (shape_of_held_script o)) → Among y (names_there h)
        further (name.Native k) p f = absurd f
        further (name.Script k) p f = delegate o.delegate refl f
        further (name.Reflector k) p f = ⊎_elim (λ l. delegate o.delegate refl l) (λ r. behind k.0 p r) (Among-append y (option_to_list o.delegate) (native k.0 ∷ []) f)

-- the kind of a script object of well formed heaps is that of its name, its slots and its delegate
kind-fits : (x : Name) (kind : Kind) (slots : Slots) (d : Option Name) → FitsName x kind slots → is_some d ≡ is_proxy_kind kind →
    kind_of_shape x (script_shape (slots_of_kind kind slots) d) ≡ Some kind
kind-fits x kind slots d f e = grind arith

module _ (P : Name → Type 0) (h : Heap) (g : Graph) (w : IsWellFormed h) (m : IsWellMade g) (f : Follows P h g) where
  -- `P` holds of what is given
  within : (x : Name) → Given h g x → P x
  within = given-within P h g f

  -- what is there is as it is in the graph, where `P` holds of it
  kept-there : (x : Name) → P x → Among x (names_there h) → IsKept h g x
  kept-there x p i = grind (arith, there-shape_at, shape_at-found)

  -- what the registers have, and what was not unlinked, is there
  start-there : (x : Name) → Among x (roots_of g ++ living_names h) → Among x (names_there h)
  start-there x m = ⊎_elim
      (λ r. ⊎_elim
      (λ l. Among-left x (native_names h) (script_names h) (w.native_registers x (subst (λ (b : Slots). Among x (contents b)) (sym f.beside.native_registers) l)))
      (λ l. Among-right x (native_names h) (script_names h) (w.script_registers x (subst (λ (b : Slots). Among x (contents b)) (sym f.beside.script_registers) l)))
      (Among-append x (contents g.native_registers) (contents g.script_registers) r))
      (λ l. let n = named-living h x l in
      Among-left x (native_names h) (script_names h) (subst (λ y. Among y (native_names h)) n.3 (Among-map (λ (n : HeapNative). native n.number) n.0 h.natives n.1)))
      (Among-append x (roots_of g) (living_names h) m)

  -- what is given is there
  given-kept : (x : Name) → Given h g x → IsKept h g x
  given-kept _ (given x m) = kept-there x (within x (given x m)) (start-there x m)
  given-kept _ (given_edge x y d i) =
      let k = given-kept x d in
      kept-there y (within y (given_edge x y d i)) (edges-there h w x y k.shape k.there (subst (Among y) (edges_of-made g x k.shape k.made) i))
  given-kept _ (given_value e i a b) =
      let p = within e.the_map a in
      let q = within e.key b in
      let c = found-among h.entries e.the_map e.key e.value (f.entries.values e.the_map e.key p q ∙ found-only g.entries e (m.one_entry e.the_map e.key) i) in
      kept-there e.value (within e.value (given_value e i a b))
      (Among-right e.value (native_names h) (script_names h) (subst (λ y. Among y (script_names h)) c.4 (w.entries c.0 c.1).value))
  given-kept _ (given_key e d i r a b) =
      let p = within e.the_map a in
      let q = within e.key (given_key e d i r a b) in
      let c = found-among h.entries e.the_map e.key e.value (f.entries.values e.the_map e.key p q ∙ found-only g.entries e (m.one_entry e.the_map e.key) i) in
      kept-there e.key q (Among-right e.key (native_names h) (script_names h) (subst (λ y. Among y (script_names h)) c.3 (w.entries c.0 c.1).key))

  -- a native that follows the graph stands in it
  native-stands : (n : HeapNative) → NativeFollows g n → NativeStands g n
  native-stands n t = grind (arith, shape_in-native)

  -- and a script object
  script-stands : (o : HeapScript) → Among o h.scripts → ScriptStands g o
  script-stands o i = record {
    kind = kind_in-shape g o.name
        ∙ (ap (option_and_then (kind_of_shape o.name)) (f.objects.scripts o i) ∙ kind-fits o.name o.kind o.slots o.delegate (w.kinds o i) (w.delegates o i));
    shape = sym (f.objects.scripts o i);
  }

  -- THEY STAND FOR IT.
  pub follows-stands : StandsFor h g
  follows-stands = record {
    native_registers = f.beside.native_registers;
    script_registers = f.beside.script_registers;
    limits = f.beside.limits;
    natives_made = f.beside.natives_made;
    scripts_made = f.beside.scripts_made;
    natives = λ n i. native-stands n (f.objects.natives n i);
    scripts = script-stands;
    given = given-kept;
    values = λ x k a b. f.entries.values x k (within x a) (within k b);
    spent = λ n i u d. f.objects.spent n i u (within (native n.number) d);
    entries = f.entries.part;
    blank = λ k n slots e p r.
        let made : shape_in g (native k) ≡ Some (shape_of_native n) = ap (option_map shape_of_native) e in
        let kept : shape_in g (reflector k) ≡ Some (script_shape (Some slots) None) = ap (option_and_then shape_of_reflector) e ∙ ap (option_map (λ l. script_shape (Some l) None)) r in
        let b = f.blank k (shape_of_native n) (script_shape (Some slots) None) made p kept in
        let same : slots ≡ empty_slots reflector_slots = some b.0 in
        (same, b.1, no_delegate-from g (reflector k) b.2);
  }
    where
      some : {a b : Slots} → Some a ≡ Some b → a ≡ b
      some e = cc

-- What stands for a graph

module _ (h : Heap) (g : Graph) (s : StandsFor h g) where
  -- WHAT IS REACHED IS THERE, as it is in the graph.
  pub stands-reached : (x : Name) → Reached g x → IsKept h g x
  stands-reached x d = s.given x (Reached-given h g x d)

  -- A REACHED MAP AND A REACHED KEY have the same entry in both, or none.
  pub stands-values : (x k : Name) → Reached g x → Reached g k → value_in h.entries x k ≡ value_in g.entries x k
  stands-values x k a b = s.values x k (Reached-given h g x a) (Reached-given h g k b)

-- A REFLECTOR OF A GIVEN NATIVE that does not preserve it is blank, where it is there.
pub stands-blank : (h : Heap) (g : Graph) → IsWellFormed h → StandsFor h g → (n : HeapNative) (o : HeapScript) → Among n h.natives → n.preserved ≡ false →
    Given h g (native n.number) → Among o h.scripts → o.name ≡ reflector n.number → o.slots ≡ empty_slots reflector_slots
stands-blank h g w s n o i e d j named =
    let f = stands-follows h g w s in
    slots o.kind (f.blank n.number (shape_of_held_native n) (shape_of_held_script o)
    (f.objects.alike n i d) e (ap (shape_in g) (sym named) ∙ f.objects.scripts o j)).0
  where
    slots : (kind : Kind) → slots_of_kind kind o.slots ≡ Some (empty_slots reflector_slots) → o.slots ≡ empty_slots reflector_slots
    slots Map s = absurd (cc)
    slots _ s = cc

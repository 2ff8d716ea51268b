-- WHAT MAY BE BACK LEADS IN THE HEAPS TO WHAT MAY BE BACK: what an object of the heaps holds it holds in the graph, and entries of the heaps are
-- entries of the graph.
use Rattle.std.specs.Prelude.{IsTrue}
use Rattle.std.proofs.Common.{length, ◌≡◌, ℕ, Bool, true, false, List, [], ◌∷◌, Some, None, option_map, refl, sym, ◌∙◌, ap, subst, inl, inr, ◌⊎◌, ⊎_elim}
use Rattle.cc_lists.specs.Members.{Among}
use Rattle.cc_lists.proofs.Members.{Among-append, Among-right}
use Rattle.cc_names.specs.declared.name.Name.{Name}
use Rattle.cc_names.specs.Names.{native, reflector, object}
use Rattle.cc_model.specs.Slots.{Slots, contents, reflector_slots}
use Rattle.cc_model.specs.Entries.{Entry, Joint, joints}
use Rattle.cc_model.proofs.Joints.{Gives, its_value, its_key, joint-cases}
use Rattle.cc_model.specs.Graph.{Graph, GraphNative, native_in}
use Rattle.cc_model.specs.Reached.{edges_of}
use Rattle.cc_model.specs.Given.{GivenFrom, given_edge}
use Rattle.cc_model.specs.WellMade.{IsWellMade, is_made_script}
use Rattle.cc_model.specs.WellFormed.{IsWellFormed}
use Rattle.cc_model.specs.Heap.{Heap, HeapNative}
use Rattle.cc_model.specs.View.{view}
use Rattle.cc_model.specs.StandsFor.{Shape, shape_in, shape_at, shape_of_native, shape_of_held_native, script_shape, IsEmptied, IsNoKey, IsNoDelegate, StandsFor}
use Rattle.cc_laws_heap.proofs.Shapes.{edges_of_shape, further_of}
use Rattle.cc_laws_heap.proofs.HeapShapes.{shape_at-found, edge-held}
use Rattle.cc_laws_heap.proofs.Following.{shape_in-reflector}
use Rattle.cc_laws_heap.proofs.ReachedAlike.{ArePart-among, edges_of-made}
use Rattle.cc_laws_heap.proofs.Making.{contents-empty_none}
use Rattle.cc_laws_heap.proofs.GraphParts.{is_some-found, reflector-made}
use Rattle.cc_laws_heap.proofs.GraphReads.{MadeScript-made}
use Rattle.cc_laws_run.specs.Returning.{MayBeBack}
use Rattle.cc_laws_run.proofs.GivenNames.{joint-given}
use Rattle.cc_laws_run.proofs.MissesLost.{delegate_in-proxy}

module _ (h : Heap) (g : Graph) (w : IsWellFormed h) (well : IsWellMade g) (stands : StandsFor h g) where
  -- a native that was emptied refers to nothing
  emptied-none : (n : HeapNative) (y : Name) → IsEmptied n → ¬ (Among y (edges_of_shape (native n.number) (shape_of_held_native n)))
  emptied-none n y e m = ⊎_elim
      (λ l. contents-empty_none (length n.slots) y (subst (λ s. Among y (contents s)) e.slots l))
      (λ r. subst (λ b. Among y (elim b [ true ↦ reflector n.number ∷ [] | false ↦ [] ])) e.preserved r)
      (Among-append y (contents n.slots) (further_of (native n.number) (shape_of_held_native n)) m)

  -- AN EDGE OF THE HEAPS IS ONE OF THE GRAPH.
  pub edge-made : (x y : Name) → Among (x, y) (view h).edges → Among y (edges_of g x)
  edge-made x y m =
      let e = edge-held h w x y m in
      ⊎_elim
      (λ f. of_native f.0 f.1 f.2 (subst (λ s. Among y (edges_of_shape x s)) (sym f.3) e.2))
      (λ f.
      let same : Some e.0 ≡ shape_in g x = ap (λ (s : Shape). Some s) (sym f.3) ∙ ((stands.scripts f.0 f.1).shape ∙ ap (shape_in g) f.2) in
      subst (Among y) (sym (edges_of-made g x e.0 (sym same))) e.2)
      (shape_at-found h x e.0 e.1)
    where
      of_native : (n : HeapNative) → Among n h.natives → native n.number ≡ x → Among y (edges_of_shape x (shape_of_held_native n)) → Among y (edges_of g x)
      of_native n there named i = ⊎_elim
          (λ s. subst (Among y) (sym (edges_of-made g x (shape_of_held_native n) (sym (s ∙ ap (shape_in g) named)))) i)
          (λ z. absurd (emptied-none n y z (subst (λ v. Among y (edges_of_shape v (shape_of_held_native n))) (sym named) i)))
          (stands.natives n there).shape

-- what is some is one thing
some : {n m : GraphNative} → Some n ≡ Some m → n ≡ m
some e = cc

module _ (h : Heap) (g : Graph) (w : IsWellFormed h) (well : IsWellMade g) (stands : StandsFor h g) (met : List Name) where
  -- the reflector of a native that is given: it is given, or it is blank, and no member of an entry
  record IsBlankBack (k : ℕ) : Type 0 where
    own : GraphNative
    made : native_in g k ≡ Some own
    blank : own.preserved ≡ false

  reflector-cases : (k : ℕ) → GivenFrom g met (native k) → (n : GraphNative) → native_in g k ≡ Some n → GivenFrom g met (reflector k) ⊎ IsBlankBack k
  reflector-cases k d n i = go n.preserved refl
    where
      shape : shape_in g (native k) ≡ Some (shape_of_native n)
      shape = ap (option_map shape_of_native) i

      go : (b : Bool) → n.preserved ≡ b → GivenFrom g met (reflector k) ⊎ IsBlankBack k
      go true p = inl (given_edge (native k) (reflector k) d (subst (Among (reflector k)) (sym (edges_of-made g (native k) (shape_of_native n) shape))
          (Among-right (reflector k) (contents n.slots) (further_of (native k) (shape_of_native n))
          (subst (λ b. Among (reflector k) (elim b [ true ↦ reflector k ∷ [] | false ↦ [] ])) (sym p) (inl refl)))))
      go false p = inr (record { own = n; made = i; blank = p })

  -- WHAT MAY BE BACK HOLDS only what may be back.
  pub edge-back : (x y : Name) → Among (x, y) (view h).edges → MayBeBack g met x → MayBeBack g met y
  edge-back x y m b = ⊎_elim
      (λ l. inl (given_edge x y l (edge-made h g w well stands x y m)))
      (λ r. of_reflector r.0 (subst (λ z. Among (z, y) (view h).edges) r.1 m) r.2) b
    where
      of_reflector : (k : ℕ) → Among (reflector k, y) (view h).edges → GivenFrom g met (native k) → MayBeBack g met y
      of_reflector k i d =
          let e = edge-held h w (reflector k) y i in
          let s : shape_in g (reflector k) ≡ Some e.0 = held-shape e.0 e.1 in
          let n = shape_in-reflector g k e.0 s in
          ⊎_elim
          (λ l. inl (given_edge (reflector k) y l (edge-made h g w well stands (reflector k) y i)))
          (λ c. blank-edge k d c n.0 n.1 n.2 n.3 (subst (λ t. Among y (edges_of_shape (reflector k) t)) (sym n.4) e.2))
          (reflector-cases k d n.0 n.2)
        where
          held-shape : (s : Shape) → shape_at h (reflector k) ≡ Some s → shape_in g (reflector k) ≡ Some s
          held-shape s q = ⊎_elim
              (λ f. absurd (cc))
              (λ f. sym (ap (λ (t : Shape). Some t) (sym f.3) ∙ ((stands.scripts f.0 f.1).shape ∙ ap (shape_in g) f.2)))
              (shape_at-found h (reflector k) s q)

          blank-edge : (k : ℕ) → GivenFrom g met (native k) → IsBlankBack k → (n : GraphNative) (slots : Slots) → native_in g k ≡ Some n → n.reflector ≡ Some slots →
              Among y (edges_of_shape (reflector k) (script_shape (Some slots) None)) → MayBeBack g met y
          blank-edge k d c n slots i r a =
              let same : n ≡ c.own = some (sym i ∙ c.made) in
              let empty = (stands.blank k n slots i (ap (λ (o : GraphNative). o.preserved) same ∙ c.blank) r).0 in
              ⊎_elim
              (λ l. absurd (contents-empty_none reflector_slots y (subst (λ s. Among y (contents s)) empty l)))
              (λ l. ⊎_elim (λ q. inl (subst (GivenFrom g met) q d)) (λ n. absurd n) l)
              (Among-append y (contents slots) (further_of (reflector k) (script_shape (Some slots) None)) a)

  -- a reflector that was made, and that is a key or a delegate, is given with its native
  reflector-given : (k : ℕ) → GivenFrom g met (native k) → IsTrue (is_made_script g (reflector k)) →
      (IsNoKey g (reflector k) → IsNoDelegate g (reflector k) → ⊥) → GivenFrom g met (reflector k)
  reflector-given k d made used =
      let n = reflector-made g k (MadeScript-made g (reflector k) made) in
      let slots = is_some-found n.0.reflector n.2 in
      ⊎_elim (λ l. l)
      (λ c.
      let same : n.0 ≡ c.own = some (sym n.1 ∙ c.made) in
      let none = stands.blank k n.0 slots.0 n.1 (ap (λ (o : GraphNative). o.preserved) same ∙ c.blank) slots.1 in
      absurd (used none.1 none.2))
      (reflector-cases k d n.0 n.1)

  -- a map that may be back is given
  map-given : (e : Entry) → Among e g.entries → MayBeBack g met e.the_map → GivenFrom g met e.the_map
  map-given e at b = ⊎_elim (λ l. l) (λ r. absurd (apart ((well.entries e at).the_map.0) r.0 (sym (well.entries e at).the_map.1 ∙ r.1))) b
    where
      apart : (j k : ℕ) → object j ≡ reflector k → ⊥
      apart j k q = cc

  -- a key that may be back is given, and so is the delegate of a key
  key-given : (e : Entry) → Among e g.entries → (j : Joint) → Gives e j → MayBeBack g met j.key → GivenFrom g met j.key
  key-given e at _ its_value b = ⊎_elim (λ l. l)
      (λ r. subst (GivenFrom g met) (sym r.1)
      (reflector-given r.0 r.2 (subst (λ z. IsTrue (is_made_script g z)) r.1 (well.entries e at).key) (λ no_key no_delegate. no_key e at r.1))) b
  key-given e at _ (its_key d is) b =
      let p = delegate_in-proxy g e.key d (sym (well.entries e at).delegate ∙ is) in
      ⊎_elim (λ l. l)
      (λ r. subst (GivenFrom g met) (sym r.1)
      (reflector-given r.0 r.2 (subst (λ z. IsTrue (is_made_script g z)) r.1 (well.delegates p.0 d p.1)) (λ no_key no_delegate. no_delegate p.0 d p.1 r.1))) b

  -- WHAT ENTRIES GIVE of what may be back may be back.
  pub joint-back : (j : Joint) → Among j (joints h.entries) → MayBeBack g met j.the_map → MayBeBack g met j.key → MayBeBack g met j.value
  joint-back j m a b =
      let f = joint-cases h.entries j m in
      let at : Among f.0 g.entries = ArePart-among h.entries g.entries f.0 stands.entries f.1 in
      inl (joint-given g met f.0 at j f.2 (subst (GivenFrom g met) (map-of f.0 j f.2) (map-given f.0 at (subst (MayBeBack g met) (sym (map-of f.0 j f.2)) a)))
      (key-given f.0 at j f.2 b))
    where
      map-of : (e : Entry) (j : Joint) → Gives e j → e.the_map ≡ j.the_map
      map-of e _ its_value = refl
      map-of e _ (its_key d is) = refl

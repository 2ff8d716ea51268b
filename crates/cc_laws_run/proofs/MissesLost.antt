-- WHAT IS LOST: garbage but for the reflectors of reached natives. A collection that dooms garbage dooms it.
use Rattle.std.proofs.Common.{arith, ◌≡◌, ℕ, Bool, true, false, ◌&&◌, List, [], ◌∷◌, map, Option, Some, None, option_map, refl, sym, ◌∙◌, ap, subst, inl, inr, ◌⊎◌, ⊎_elim, is_some}
use Rattle.std.specs.Prelude.{option_and_then}
use Rattle.std.specs.List.{list_all}
use Rattle.std.proofs.lemmas.Bool.{true≢false, and_parts, and_from}
use Rattle.cc_model.proofs.Places.{behind_edges, script_edges-split, script_place-cases}
use Rattle.cc_lists.specs.Members.{Among}
use Rattle.cc_lists.proofs.Members.{Among-map_cases, Among-left, Among-right, Among-append, Among-filter, Among-filtered, Among-passes}
use Rattle.cc_lists.proofs.Least.{derive-along}
use Rattle.cc_names.specs.declared.name.Name.{Name}
use Rattle.cc_names.specs.declared.name.Name.TheVariants as name
use Rattle.cc_names.specs.declared.kind.Kind.{Kind}
use Rattle.cc_names.specs.declared.kind.Kind.TheVariants.{Reflector}
use Rattle.cc_names.specs.Names.{native, reflector, is_native, behind}
use Rattle.cc_model.specs.Slots.{Slots, contents, from_to, empty_slots, reflector_slots}
use Rattle.cc_model.specs.Entries.{Entry, joints, rules_of, Joint}
use Rattle.cc_model.specs.Graph.{Graph, GraphNative, native_in, delegate_in, script_in, proxy, GraphScript, delegate_of_script, plain_object, weak_map}
use Rattle.cc_model.specs.WellMade.{IsWellMade}
use Rattle.cc_model.specs.Heap.{Heap, HeapNative, HeapScript}
use Rattle.cc_model.specs.View.{view, script_slot_edges, ReachedIn}
use Rattle.cc_model.specs.WellFormed.{FitsName, native_names, script_names, names_there, is_proxy_kind}
use Rattle.cc_model.specs.StandsFor.{Shape, shape_of_native, shape_of_held_native, kind_in, reflector_kind, IsNoKey, IsKept, StandsFor, IsNoDelegate}
use Rattle.cc_model.specs.Units.{begun, with_empty_buffer}
use Rattle.cc_model.specs.Suspected.{is_unreached}
use Rattle.cc_model.proofs.Joints.{Gives, its_key, joint-cases, its_value}
use Rattle.cc_model.specs.Places.{script_places_of}
use Rattle.cc_laws_heap.specs.Sound.{IsSound}
use Rattle.cc_laws_heap.proofs.Natives.{IsWellFormed-distinct, native_at-member, named-member}
use Rattle.cc_laws_heap.proofs.ReachedAlike.{ArePart-among, in-reached}
use Rattle.cc_laws_heap.proofs.Given.{Reached-given}
use Rattle.cc_laws_heap.proofs.Standing.{stands-reached, stands-blank}
use Rattle.cc_laws_heap.proofs.ViewEdges.{native_edges-are}
use Rattle.cc_laws_run.specs.Doomed.{IsDoomed, KeepsReflectors, garbage}
use Rattle.cc_model.specs.Reached.{Reached}
use Rattle.cc_model.specs.Given.{given}
use Rattle.cc_laws_run.specs.Returning.{MayBeBack, AreBeside}
use Rattle.cc_laws_run.specs.Missing.{lost}
use Rattle.cc_laws_snapshot.proofs.KindsLoyal.{reached_cases}
use Rattle.cc_laws_snapshot.proofs.ReachedStays.{native-edge}
use Rattle.cc_laws_snapshot.proofs.SoundView.{script-place, joint-there}
use Rattle.cc_laws_run.proofs.DoomedBegin.{out-unreached, garbage-there, garbage-is_there, garbage-out}
use Rattle.cc_laws_run.proofs.TouchedViews.{edge-cases}
use Rattle.cc_laws_snapshot.proofs.Edges.{native_edges-has}

-- what has a delegate in the graph is a proxy of it
pub delegate_in-proxy : (g : Graph) (x d : Name) → delegate_in g x ≡ Some d → (k : ℕ) × (script_in g k ≡ Some (proxy d))
delegate_in-proxy g (name.Native k) d e = absurd (cc)
delegate_in-proxy g (name.Reflector k) d e = absurd (cc)
delegate_in-proxy g (name.Script k) d e = (k.0, of (script_in g k.0) e)
  where
    of : (o : Option GraphScript) → option_and_then delegate_of_script o ≡ Some d → o ≡ Some (proxy d)
    of None f = absurd (cc)
    of (Some (plain_object slots)) f = absurd (cc)
    of (Some weak_map) f = absurd (cc)
    of (Some (proxy y)) f = cc

-- Lost and garbage

module _ (h : Heap) where
  -- no reached native is behind the name
  abbrev has_none_behind : Name → Bool
  has_none_behind x = list_all (λ k. is_unreached (view h) (native k)) (behind x)

  -- what is lost is garbage
  lost-garbage : (x : Name) → Among x (lost h) → Among x (garbage h)
  lost-garbage x m = Among-filtered has_none_behind x (garbage h) m

  -- EACH UNREACHED NATIVE IS LOST.
  pub native-lost : (k : ℕ) → Among (native k) (garbage h) → Among (native k) (lost h)
  native-lost k m = Among-filter has_none_behind (native k) (garbage h) m refl

  -- garbage is lost, or the reflector of a reached native
  garbage-cases : (x : Name) → Among x (garbage h) → Among x (lost h) ⊎ ((k : ℕ) × (x ≡ reflector k) × ReachedIn (view h) (native k))
  garbage-cases (name.Reflector k) m = ⊎_elim
      (λ r. inr (k.0, refl, r))
      (λ out. inl (Among-filter has_none_behind (reflector k.0) (garbage h) m
      (and_from (is_unreached (view h) (native k.0)) true (out-unreached h (native k.0) out) refl)))
      (reached_cases (view h) (native k.0))
  garbage-cases x m = inl (Among-filter has_none_behind x (garbage h) m refl)

  -- A REFLECTOR IS LOST ONLY WITH ITS NATIVE.
  pub lost-keeps : IsSound [] h → KeepsReflectors (lost h)
  lost-keeps sound k m =
      let b : Among (reflector k) (garbage h) = lost-garbage (reflector k) m in
      let passes : (is_unreached (view h) (native k) && true) ≡ true = Among-passes has_none_behind (reflector k) (garbage h) m in
      let place : Among (native k) (native_names h) =
      sound.well_formed.reflected k (script-place h (reflector k) refl (garbage-is_there h (reflector k) b)) in
      native-lost k (Among-filter (is_unreached (view h)) (native k) (names_there h)
      (Among-left (native k) (native_names h) (script_names h) place)
      (and_parts (is_unreached (view h) (native k)) true passes).0)

-- Reflectors of reached natives

module _ (h : Heap) (g : Graph) (sound : IsSound [] h) (well : IsWellMade g) (stands : StandsFor h g) where
  -- a reflector that its reached native does not preserve
  record IsSpare (x : Name) : Type 0 where
    own : HeapNative
    there : Among own h.natives
    named : x ≡ reflector own.number
    reached : ReachedIn (view h) (native own.number)
    blank : own.preserved ≡ false

  -- a reached native does not preserve an unreached reflector
  unpreserved : (n : HeapNative) → Among n h.natives → Among (reflector n.number) (garbage h) → ReachedIn (view h) (native n.number) → n.preserved ≡ false
  unpreserved n there b r = go n.preserved refl
    where
      go : (p : Bool) → n.preserved ≡ p → p ≡ false
      go true e =
          let edge : Among (native n.number, reflector n.number) (view h).edges =
          native-edge h n (native n.number) (reflector n.number) there (native_edges-has n (native n.number) (reflector n.number) refl (inr (e, refl))) in
          absurd (garbage-out h (reflector n.number) b
          (derive-along (view h).registers (view h).edges (rules_of (joints h.entries)) (native n.number) (reflector n.number) edge r))
      go false e = refl

  -- garbage is lost, or such a reflector
  lost-or_spare : (x : Name) → Among x (garbage h) → Among x (lost h) ⊎ IsSpare x
  lost-or_spare x b = ⊎_elim (λ l. inl l)
      (λ f.
      let c : Among (reflector f.0) (garbage h) = subst (λ z. Among z (garbage h)) f.1 b in
      let n = named-member h f.0 (sound.well_formed.reflected f.0 (script-place h (reflector f.0) refl (garbage-is_there h (reflector f.0) c))) in
      let reached : ReachedIn (view h) (native n.0.number) = subst (λ k. ReachedIn (view h) (native k)) (sym n.2) f.2 in
      inr (record {
        own = n.0;
        there = n.1;
        named = f.1 ∙ ap reflector (sym n.2);
        reached = reached;
        blank = unpreserved n.0 n.1 (subst (λ k. Among (reflector k) (garbage h)) (sym n.2) c) reached;
      }))
      (garbage-cases h x b)

  -- such a reflector holds no garbage
  spare-holds_none : (x y : Name) → Among (x, y) (view h).edges → Among y (garbage h) → IsSpare x → ⊥
  spare-holds_none x y e b s = ⊎_elim
      (λ f. true≢false (ap is_native ((native_edges-are f.0 x y f.2).0 ∙ s.named)))
      (λ f. ⊎_elim (slot f.0 f.1) (behind_it f.0)
      (Among-append (x, y) (script_slot_edges f.0) (behind_edges f.0.name) (subst (Among (x, y)) (script_edges-split f.0) f.2)))
      (edge-cases h x y e)
    where
      -- it has no delegate
      none_stood_for : (o : HeapScript) → Among o h.scripts → o.name ≡ reflector s.own.number → (d : Name) → o.delegate ≡ Some d → ⊥
      none_stood_for o there named d is =
          let fits : FitsName (reflector s.own.number) o.kind o.slots = subst (λ z. FitsName z o.kind o.slots) named (sound.well_formed.kinds o there) in
          reflects o.kind o.slots fits (sym (sound.well_formed.delegates o there) ∙ ap is_some is)
        where
          reflects : (kind : Kind) (slots : Slots) → FitsName (reflector s.own.number) kind slots → is_proxy_kind kind ≡ true → ⊥
          reflects kind slots f e = grind arith

      -- its slots are empty
      slot : (o : HeapScript) → Among o h.scripts → Among (x, y) (script_slot_edges o) → ⊥
      slot o there m =
          let c = Among-map_cases (from_to o.name) (contents (script_places_of o)) (x, y) m in
          let named : o.name ≡ x = ap (λ (p : Name × Name). p.0) c.2 in
          let blank : o.slots ≡ empty_slots reflector_slots =
          stands-blank h g sound.well_formed stands s.own o s.there s.blank
          (Reached-given h g (native s.own.number) (in-reached h g sound.well_formed well stands (native s.own.number) s.reached)) there (named ∙ s.named) in
          ⊎_elim
          (λ l. subst (λ (t : Slots). Among c.0 (contents t)) blank l)
          (λ d. none_stood_for o there (named ∙ s.named) c.0 d)
          (script_place-cases o c.0 c.1)

      -- and its native is reached
      behind_it : (o : HeapScript) → Among (x, y) (map (λ k. from_to o.name (native k)) (behind o.name)) → ⊥
      behind_it o m =
          let c = Among-map_cases (λ k. from_to o.name (native k)) (behind o.name) (x, y) m in
          let named : o.name ≡ reflector s.own.number = ap (λ (p : Name × Name). p.0) c.2 ∙ s.named in
          let own : Among c.0 (s.own.number ∷ []) = subst (λ z. Among c.0 (behind z)) named c.1 in
          let target : native c.0 ≡ y = ap (λ (p : Name × Name). p.1) c.2 in
          ⊎_elim (λ i. garbage-out h y b (subst (ReachedIn (view h)) (ap native i ∙ target) s.reached)) (λ n. n) own

  -- the graph has the native as it is there, with a reflector
  spare-blank : (x : Name) → Among x (garbage h) → (s : IsSpare x) → IsNoKey g (reflector s.own.number) × IsNoDelegate g (reflector s.own.number)
  spare-blank x b s = let k = stands.blank n.number m has.0 made.1 (ap (λ (t : Shape). t.preserved) same ∙ s.blank) has.1 in (k.1, k.2)
    where
      n : HeapNative
      n = s.own

      made : (m : GraphNative) × (native_in g n.number ≡ Some m)
      made = (stands.natives n s.there).made

      m : GraphNative
      m = made.0

      kept : IsKept h g (native n.number)
      kept = stands-reached h g stands (native n.number) (in-reached h g sound.well_formed well stands (native n.number) s.reached)

      same : shape_of_native m ≡ shape_of_held_native n
      same =
          let both : Some (shape_of_native m) ≡ Some (shape_of_held_native n) = sym (ap (option_map shape_of_native) made.1) ∙ (kept.made ∙ (sym kept.there ∙
          ap (option_map shape_of_held_native) (native_at-member h (IsWellFormed-distinct h sound.well_formed) n s.there))) in
          cc

      -- the reflector is there
      script : (o : HeapScript) × Among o h.scripts × (o.name ≡ reflector n.number)
      script =
          let c : Among (reflector n.number) (garbage h) = subst (λ z. Among z (garbage h)) s.named b in
          Among-map_cases (λ (o : HeapScript). o.name) h.scripts (reflector n.number)
          (script-place h (reflector n.number) refl (garbage-is_there h (reflector n.number) c))

      kind : reflector_kind m ≡ Some script.0.kind
      kind = sym (ap (option_and_then reflector_kind) made.1) ∙ subst (λ z. kind_in g z ≡ Some script.0.kind) script.2 (stands.scripts script.0 script.1).kind

      has : (slots : Slots) × (m.reflector ≡ Some slots)
      has = go m.reflector refl kind
        where
          go : (o : Option Slots) → m.reflector ≡ o → option_map (λ (slots : Slots). Reflector) o ≡ Some script.0.kind → (slots : Slots) × (m.reflector ≡ Some slots)
          go None e f = absurd (cc)
          go (Some slots) e f = (slots, e)

  -- a spare reflector is no map, no key and no delegate of an entry
  spare-no_map : (e : Entry) → Among e h.entries → (x : Name) → Among x (garbage h) → IsSpare x → ¬ (e.the_map ≡ x)
  spare-no_map e there x b s a =
      let o = (sound.well_formed.entries e there).the_map in
      subst (λ k. FitsName (reflector s.own.number) k o.0.slots) o.3
      (subst (λ z. FitsName z o.0.kind o.0.slots) (o.2 ∙ (a ∙ s.named)) (sound.well_formed.kinds o.0 o.1))

  spare-not_joined : (e : Entry) → Among e h.entries → (j : Joint) → Gives e j → (x : Name) → Among x (garbage h) → IsSpare x → ¬ (j.key ≡ x)
  spare-not_joined e there _ its_value x b s a =
      (spare-blank x b s).0 e (ArePart-among h.entries g.entries e stands.entries there) (a ∙ s.named)
  spare-not_joined e there _ (its_key d is) x b s a =
      let made = (well.entries e (ArePart-among h.entries g.entries e stands.entries there)).delegate in
      let p = delegate_in-proxy g e.key d (sym made ∙ is) in
      (spare-blank x b s).1 p.0 d p.1 (a ∙ s.named)

  -- a member of a joint that is garbage is lost
  member-lost : (j : Joint) → Among j (joints h.entries) → (x : Name) → (j.the_map ≡ x) ⊎ (j.key ≡ x) → Among x (garbage h) → Among x (lost h)
  member-lost j there x i b = let f = joint-cases h.entries j there in
      ⊎_elim (λ l. l) (λ s. absurd (⊎_elim (λ a. spare-no_map f.0 f.1 x b s (map-of f.0 j f.2 ∙ a)) (λ a. spare-not_joined f.0 f.1 j f.2 x b s a) i)) (lost-or_spare x b)
    where
      map-of : (e : Entry) (j : Joint) → Gives e j → e.the_map ≡ j.the_map
      map-of e _ its_value = refl
      map-of e _ (its_key d is) = refl

  -- WHERE A SNAPSHOT BEGUN DOOMS GARBAGE, IT DOOMS WHAT IS LOST.
  pub lost-doomed : IsDoomed (view (with_empty_buffer h)) (begun h) (garbage h) → IsDoomed (view (with_empty_buffer h)) (begun h) (lost h)
  lost-doomed d = record {
    natives = λ i b. d.natives i (lost-garbage h (native i) b);
    scripts = λ x b e. d.scripts x (lost-garbage h x b) e;
    unregistered = λ x b m. d.unregistered x (lost-garbage h x b) m;
    unbuffered = λ x b m. d.unbuffered x (lost-garbage h x b) m;
    unmarked = λ x b m. d.unmarked x (lost-garbage h x b) m;
    holder = λ x y e b.
        let c : Among y (garbage h) = lost-garbage h y b in
        ⊎_elim (λ l. l) (λ s. absurd (spare-holds_none x y e c s)) (lost-or_spare x (d.holder x y e c));
    joint = λ e m b. ⊎_elim
        (λ l. inl (member-lost e m e.the_map (inl refl) l))
        (λ r. inr (member-lost e m e.key (inr refl) r))
        (d.joint e m (lost-garbage h e.value b));
    noted_held = λ x y m b. absurd m;
    mapping_held = λ m i b. let e = d.mapping_held m i (lost-garbage h m.value b) in (
      e.0,
      e.1,
      record {
        value = e.2.value;
        the_map = λ l. e.2.the_map (lost-garbage h e.0.the_map l);
        key = λ l. e.2.key (lost-garbage h e.0.key l);
      },
    );
    covered = λ x b. d.covered x (lost-garbage h x b);
  }

  -- what together gives what is lost is lost, or reached
  lost-or_reached : (x : Name) → Among x (names_there h) → (Among x (garbage h) → Among x (lost h)) → Among x (lost h) ⊎ ReachedIn (view h) x
  lost-or_reached x there lost_then = ⊎_elim (λ r. inr r) (λ out. inl (lost_then (garbage-there h x there out))) (reached_cases (view h) x)

  -- WHAT IS BESIDE WHAT IS LOST is reached, so it is met.
  pub lost-beside : (met : List Name) → ((x : Name) → Reached g x → Among x met) → AreBeside g met (view h) (lost h)
  lost-beside met reached = record {
    the_map = λ e m i. back (lost-or_reached e.the_map
        (Among-right e.the_map (native_names h) (script_names h) (joint-there h sound.well_formed e m).the_map) (member-lost e m e.the_map (inl refl)));
    key = λ e m i. back (lost-or_reached e.key
        (Among-right e.key (native_names h) (script_names h) (joint-there h sound.well_formed e m).key) (member-lost e m e.key (inr refl)));
  }
    where
      back : {x : Name} → Among x (lost h) ⊎ ReachedIn (view h) x → Among x (lost h) ⊎ MayBeBack g met x
      back {x} c = ⊎_elim (λ l. inl l) (λ r. inr (inl (given x (reached x (in-reached h g sound.well_formed well stands x r))))) c

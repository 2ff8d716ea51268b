-- A REFLECTOR THAT NOTHING REACHES YET, of a native that is reached: it may be stored, and the heaps stand for the graph in which it is.
use Rattle.std.proofs.Common.{arith, ◌≡◌, ◌⊎◌, ℕ, ◌+◌, ◌<◌, ◌==◌, true, [], List, length, Option, Some, None, refl, sym, ◌∙◌, ap, subst, inl, inr, ⊎_elim, get_or, option_map}
use Rattle.std.specs.Prelude.{IsTrue}
use Rattle.std.proofs.lemmas.Bool.{and_parts, eq-eqb}
use Rattle.cc_lists.specs.Members.{Among}
use Rattle.cc_lists.proofs.Held.{of-one}
use Rattle.cc_lists.proofs.Least.{derive-along}
use Rattle.cc_lists.proofs.ListWrites.{changed_where}
use Rattle.cc_lists.proofs.Members.{Among-append, Among-map, Among-map_cases, Among-right}
use Rattle.cc_names.specs.declared.name.Name.{Name}
use Rattle.cc_names.specs.declared.number.SKey.{SKey}
use Rattle.cc_names.specs.declared.kind.Kind.TheVariants.{Proxy as proxy_kind}
use Rattle.cc_names.specs.Allowance.{Allowance}
use Rattle.cc_names.specs.declared.name.Name.TheVariants as name
use Rattle.cc_names.specs.Names.{native, number_of, object, reflector, is_script}
use Rattle.cc_model.specs.Graph as graph
use Rattle.cc_model.specs.Graph.{Graph, proxy, with_reflector_slot}
use Rattle.cc_model.specs.Reached.{Reached}
use Rattle.cc_model.specs.Given.{Given}
use Rattle.cc_model.specs.WellMade.{IsWellMade, was_made}
use Rattle.cc_model.specs.Heap.{Heap, HeapNative, native_at, preserve, set_slot}
use Rattle.cc_model.specs.Cascade.{take_up}
use Rattle.cc_model.specs.Entries.{joints, rules_of}
use Rattle.cc_model.specs.Effects.{make_proxy, with_object}
use Rattle.cc_model.specs.View.{view, slot_edges}
use Rattle.cc_model.proofs.Places.{native_edges-split, preserved_edge}
use Rattle.cc_laws_snapshot.proofs.Face.{native-edge, reached-there}
use Rattle.cc_model.specs.End.{slots_now}
use Rattle.cc_model.specs.WellFormed.{IsWellFormed, names_there, native_names, script_names}
use Rattle.cc_model.specs.StandsFor.{Shape, shape_in, shape_of_held_native, StandsFor}
use Rattle.cc_laws_heap.specs.Sound.{IsSound}
use Rattle.cc_laws_heap.proofs.Face.{Follows, Follows-left, Follows-preserved, Follows-slot, IsIn, IsPreserved, IsWellMade-change_native, IsWellMade-script_slot, KeepsNative-reflector_slot, KeepsNative-slot, KeepsReflector-slot, Leaves-let_go, Leaves-take_up, Made, OfSome, Reached-given, follows-stands, given-within, in-reached, make_proxy-sound, native-no_script, native-there, native_of-reached, option_map-found, proxy-well, stands-follows, stands-reached}
use Rattle.cc_script.specs.Objects.{is_there, name_at}
use Rattle.cc_heaps.specs.Keyed.{Keyed, IsInOrder}
use Rattle.cc_laws_heap.proofs.GraphCommands.{preserve-well, scripts-preserve}
use Rattle.cc_laws_heap.proofs.GraphReads.{MadeScript-made}
use Rattle.cc_laws_heap.proofs.NewObjects.{Follows-proxy, next_object}
use Rattle.cc_laws_heap.proofs.StepsAlike.{Follows-script_register, preserved-after}
use Rattle.cc_heaps.specs.Changes.{script_name, stored_in}
use Rattle.cc_heaps.proofs.Following.{name_at-there, script_name-there}
use Rattle.cc_heaps.proofs.ObjectsKept.{there-named}
use Rattle.cc_heaps.specs.Standing.{IsReached, IsReachedOrReflects, MayHold, StandsAfter}
use Rattle.cc_heaps.proofs.Reflecting.{Follows-reflector, held-made, there-made}
use Rattle.cc_heaps.proofs.ReflectingPreserved.{preserved-stands}
use Rattle.cc_heaps.proofs.ReflectingWritten.{handed-given, slot_written-sound}
use Rattle.cc_heaps.proofs.StandingAfter.{handed-made}

-- What is reached is one of these.
pub reached-or : (h : Heap) (x : Option Name) → IsReached h x → IsReachedOrReflects h x
reached-or h None r = tt
reached-or h (Some (name.Native k)) r = r
reached-or h (Some (name.Script k)) r = r
reached-or h (Some (name.Reflector k)) r = inl r

-- A native is one of them only where it is reached.
pub native-or : (h : Heap) (k : Option ℕ) → IsReachedOrReflects h (option_map native k) → IsReached h (option_map native k)
native-or h None r = tt
native-or h (Some k) r = r

-- Where what is reached stays reached, each of them stays one.
pub reflects-kept : (h k : Heap) → ((x : Option Name) → IsReached h x → IsReached k x) → (x : Option Name) → IsReachedOrReflects h x → IsReachedOrReflects k x
reflects-kept h k f None r = tt
reflects-kept h k f (Some (name.Native j)) r = f (Some (name.Native j)) r
reflects-kept h k f (Some (name.Script j)) r = f (Some (name.Script j)) r
reflects-kept h k f (Some (name.Reflector j)) r = ⊎_elim (λ l. inl (f (Some (name.Reflector j)) l)) (λ l. inr (f (Some (native j.0)) l)) r

-- a reflector that is there is a script object
reflector-there : (h : Heap) (k : ℕ) → Among (reflector k) (names_there h) → Among (reflector k) (script_names h)
reflector-there h k m = ⊎_elim
    (λ l. let f = Among-map_cases (λ (n : HeapNative). native n.number) h.natives (reflector k) l in absurd (other f.0.number f.2))
    (λ r. r)
    (Among-append (reflector k) (native_names h) (script_names h) m)
  where
    other : (j : ℕ) → native j ≡ reflector k → ⊥
    other j e = cc

module _ (h : Heap) (g : Graph) (w : IsWellFormed h) (m : IsWellMade g) (s : StandsFor h g) where
  -- THE HEAPS FOLLOW THE GRAPH over what is given and what is handed in.
  pub follows-handed : (y : Option Name) → IsIn (names_there h) y → IsReachedOrReflects h y → (Q : Type 0) →
      ((P : Name → Type 0) → ((x : Name) → Given h g x → P x) → OfSome P y → Follows P h g → Q) → Q
  follows-handed None there r Q f = f (Given h g) (λ x d. d) tt (stands-follows h g w s)
  follows-handed (Some (name.Native k)) there r Q f = f (Given h g) (λ x d. d) (handed-given h g (Some (name.Native k)) w m s r) (stands-follows h g w s)
  follows-handed (Some (name.Script k)) there r Q f = f (Given h g) (λ x d. d) (handed-given h g (Some (name.Script k)) w m s r) (stands-follows h g w s)
  follows-handed (Some (name.Reflector k)) there r Q f = ⊎_elim
      (λ a. f (Given h g) (λ x d. d) (handed-given h g (Some (name.Reflector k)) w m s a) (stands-follows h g w s))
      (λ a. Follows-reflector h g k.0 w m s (reflector-there h k.0 (there (reflector k.0) (inl refl))) (in-reached h g w m s (native k.0) a) Q
      (λ P p q t. f P (given-within P h g t) q t))
      r

  -- It was made.
  pub made-handed : (y : Option Name) → IsIn (names_there h) y → IsReachedOrReflects h y → OfSome (Made g) y
  made-handed None there r = tt
  made-handed (Some (name.Native k)) there r = handed-made h g w m s (Some (name.Native k)) r
  made-handed (Some (name.Script k)) there r = handed-made h g w m s (Some (name.Script k)) r
  made-handed (Some (name.Reflector k)) there r =
      (and_parts (is_script (reflector k.0)) (was_made g (reflector k.0)) (there-made h g (reflector k.0) w s (reflector-there h k.0 (there (reflector k.0) (inl refl))))).1

-- A SLOT OF A NATIVE WRITTEN with it.
pub stored_in-reflects : (h : Heap) (k i : ℕ) (x : Option Name) → IsWellFormed h → IsIn (names_there h) x → IsReached h (Some (native k)) → IsReachedOrReflects h x →
    IsWellFormed (stored_in h k i x).heap → StandsAfter h (stored_in h k i x).heap (λ g. graph.set_slot g (Some (native k)) i x)
stored_in-reflects h k i x w there held r late g m s =
    let well = IsWellMade-change_native g k (graph.with_slot i x) (λ n e. e) m (KeepsNative-slot g k i x (made-handed h g w m s x there r)) in (
      well,
      follows-handed h g w m s x there r (StandsFor (stored_in h k i x).heap (graph.set_slot g (Some (native k)) i x))
          (λ P given p t. follows-stands P (stored_in h k i x).heap (graph.set_slot g (Some (native k)) i x) late well
          (Follows-left P (set_slot (take_up h x) (Some (native k)) i x) (stored_in h k i x).heap (graph.set_slot g (Some (native k)) i x)
          (Leaves-let_go (set_slot (take_up h x) (Some (native k)) i x) (get_or (slots_now (native_at (take_up h x) k)) i None))
          (Follows-slot P (take_up h x) g (Some (native k)) i x (given (native k) (handed-given h g (Some (native k)) w m s held)) p
          (λ j a e. absurd (cc)) (Follows-left P h (take_up h x) g (Leaves-take_up h x) t)))),
    )

-- a graph with a slot of a script object written is well made
slot-well : (h : Heap) (g : Graph) (x : Name) (i : ℕ) (y : Option Name) → IsWellFormed h → IsWellMade g → StandsFor h g → Among x (script_names h) →
    IsIn (script_names h) y → IsWellMade (graph.set_slot g (Some x) i y)
slot-well h g (name.Native k) i y w m s at there = absurd (native-no_script h k.0 w at)
slot-well h g (name.Script k) i y w m s at there = IsWellMade-script_slot g k.0 i y m (held-made h g y w s there)
slot-well h g (name.Reflector k) i y w m s at there = IsWellMade-change_native g k.0 (with_reflector_slot i y)
    (λ n r. KeepsReflector-slot i y n.reflector r) m (KeepsNative-reflector_slot g k.0 i y (held-made h g y w s there))

-- a reflector that is reached and may hold something is preserved in the graph
preserved-in : (h : Heap) (g : Graph) (x : Name) → IsWellFormed h → IsWellMade g → StandsFor h g → Among x (script_names h) → Reached g x → MayHold h (Some x) → IsPreserved g x
preserved-in h g (name.Native k) w m s at d may = λ j t e i. absurd (cc)
preserved-in h g (name.Script k) w m s at d may = λ j t e i. absurd (cc)
preserved-in h g (name.Reflector k) w m s at d may = λ j t e i.
    let own = stands-reached h g s (native k.0) (native_of-reached g (Some (reflector k.0)) (there-made h g (reflector k.0) w s at) d) in
    let found = option_map-found shape_of_held_native (native_at h k.0) own.shape own.there in
    let kept : own.shape.preserved ≡ true = sym (ap (λ (v : Shape). v.preserved) found.2) ∙ may found.0 found.1 in
    let one : j ≡ k.0 = cc in
    let both : Some own.shape ≡ Some t = sym own.made ∙ (ap (λ a. shape_in g (native a)) (sym one) ∙ i) in
    let same : own.shape ≡ t = cc in
    sym (ap (λ (v : Shape). v.preserved) same) ∙ kept

-- what is a script object is there
script-in : (h : Heap) (y : Option Name) → IsIn (script_names h) y → IsIn (names_there h) y
script-in h y there x m = Among-right x (native_names h) (script_names h) (there x m)

-- A SLOT OF A SCRIPT OBJECT WRITTEN with it, where that object is reached and may hold something.
pub slot_written-reflects : {owned : List ℕ} (h : Heap) (x : Name) (i : ℕ) (y : Option Name) → IsSound owned h → Among x (script_names h) → IsIn (script_names h) y →
    IsReached h (Some x) → IsReachedOrReflects h y → MayHold h (Some x) → StandsAfter h (set_slot h (Some x) i y) (λ g. graph.set_slot g (Some x) i y)
slot_written-reflects h x i y s at there r q may g m t =
    let well = slot-well h g x i y s.well_formed m t at there in
    let d = in-reached h g s.well_formed m t x r in (
      well,
      follows-handed h g s.well_formed m t y (script-in h y there) q (StandsFor (set_slot h (Some x) i y) (graph.set_slot g (Some x) i y))
          (λ P given p f. follows-stands P (set_slot h (Some x) i y) (graph.set_slot g (Some x) i y) (slot_written-sound h x i y s at there).well_formed well
          (Follows-slot P h g (Some x) i y (given x (Reached-given h g x d)) p (preserved-in h g x s.well_formed m t at d may) f)),
    )

-- By its key.
pub script_slot-reflects : (v w : Keyed) → IsInOrder [] v → (key i : ℕ) (x : Option SKey) → IsTrue (is_there v.scripts key) →
    w.heap ≡ set_slot v.heap (name_at v.scripts key) i (script_name v x) → IsReached v.heap (name_at v.scripts key) → IsReachedOrReflects v.heap (script_name v x) →
    MayHold v.heap (name_at v.scripts key) → StandsAfter v.heap w.heap (λ g. graph.set_slot g (name_at v.scripts key) i (script_name v x))
script_slot-reflects v w o key i x live e =
    let n = there-named v.scripts key live in
    subst (λ k. IsReached v.heap (name_at v.scripts key) → IsReachedOrReflects v.heap (script_name v x) → MayHold v.heap (name_at v.scripts key) →
    StandsAfter v.heap k (λ g. graph.set_slot g (name_at v.scripts key) i (script_name v x))) (sym e)
    (subst (λ y. IsReached v.heap y → IsReachedOrReflects v.heap (script_name v x) → MayHold v.heap y →
    StandsAfter v.heap (set_slot v.heap y i (script_name v x)) (λ g. graph.set_slot g y i (script_name v x))) (sym n.1)
    (slot_written-reflects v.heap n.0 i (script_name v x) o.sound
    (subst (λ y. IsIn (script_names v.heap) y) n.1 (name_at-there [] v o key) n.0 (inl refl)) (script_name-there [] v o x)))

-- A REFLECTOR PRESERVED that is one of them: what is said where it is reached holds of it.
pub preserved-reflects : (h : Heap) (x : Option Name) → IsSound [] h → IsIn (script_names h) x → (IsReached h x → StandsAfter h (preserve h x) (λ g. graph.preserve g x)) →
    IsReachedOrReflects h x → StandsAfter h (preserve h x) (λ g. graph.preserve g x)
preserved-reflects h None s there f r = f tt
preserved-reflects h (Some (name.Native k)) s there f r = f r
preserved-reflects h (Some (name.Script k)) s there f r = f r
preserved-reflects h (Some (name.Reflector k)) s there f r = ⊎_elim f (λ l. preserved-stands h k.0 s (there (reflector k.0) (inl refl)) l) r

-- A PROXY MADE of the reflector of a native that is reached.
proxy-from : (h : Heap) (d k : ℕ) → IsSound [] h → h.scripts_made < h.limits.scripts → Among (reflector k) (script_names h) → IsReached h (Some (native k)) →
    StandsAfter h (make_proxy h d (Some (reflector k))) (λ g. graph.with_proxy g d (Some (reflector k)))
proxy-from h d k s allowed there r g m t =
    let made = there-made h g (reflector k) s.well_formed t there in
    let e = graph.preserve g (Some (reflector k)) in
    let same : e.scripts ≡ g.scripts = scripts-preserve g (Some (reflector k)) in
    let well : IsWellMade (graph.with_proxy g d (Some (reflector k))) =
    proxy-well g m d (Some (reflector k)) made (omega (arith, allowed, t.scripts_made, ap (λ (a : Allowance). a.scripts) t.limits)) in (
      well,
      Follows-reflector h g k s.well_formed m t there (in-reached h g s.well_formed m t (native k) r) (StandsFor (make_proxy h d (Some (reflector k))) (graph.with_proxy g d (Some (reflector k))))
          (λ P p q f.
          let u = Follows-preserved P h g k p q f in
          follows-stands (λ z. P z ⊎ (next_object e ≡ z)) (make_proxy h d (Some (reflector k))) (graph.with_proxy g d (Some (reflector k)))
          (make_proxy-sound [] h d (Some (reflector k)) (of-one (λ w. Among w (script_names h)) (reflector k) there) allowed s).well_formed well
          (Follows-script_register (λ z. P z ⊎ (next_object e ≡ z)) (with_object (preserve h (Some (reflector k))) proxy_kind 0 (Some (reflector k))) (graph.with_script e (proxy (reflector k))) d
          (Some (object (h.scripts_made + 1))) (Some (object (length g.scripts + 1)))
          (ap (λ j. Some (object (j + 1))) (u.beside.scripts_made ∙ ap length same)) (inr (ap (λ os. object (length os + 1)) same))
          (Follows-proxy P (preserve h (Some (reflector k))) e (reflector k) q (preserved-after g (reflector k))
          (preserve-well g m (Some (reflector k)) (MadeScript-made g (reflector k) made)) u))),
    )

-- Of one of them: what is said where it is reached holds of it.
pub proxy-reflects : (h : Heap) (d : ℕ) (x : Option Name) → IsSound [] h → h.scripts_made < h.limits.scripts → IsIn (script_names h) x →
    (IsReached h x → StandsAfter h (make_proxy h d x) (λ g. graph.with_proxy g d x)) → IsReachedOrReflects h x → StandsAfter h (make_proxy h d x) (λ g. graph.with_proxy g d x)
proxy-reflects h d None s allowed there f r = f tt
proxy-reflects h d (Some (name.Native k)) s allowed there f r = f r
proxy-reflects h d (Some (name.Script k)) s allowed there f r = f r
proxy-reflects h d (Some (name.Reflector k)) s allowed there f r = ⊎_elim f (λ l. proxy-from h d k.0 s allowed (there (reflector k.0) (inl refl)) l) r

-- It is reached then, since its native holds it.
pub preserved-held : (h : Heap) (x : Option Name) → IsSound [] h → IsIn (script_names h) x → IsReachedOrReflects h x →
    ((y : Option Name) → IsReached h y → IsReached (preserve h x) y) → IsReached (preserve h x) x
preserved-held h None s there r kept = tt
preserved-held h (Some (name.Native k)) s there r kept = kept (Some (name.Native k)) r
preserved-held h (Some (name.Script k)) s there r kept = kept (Some (name.Script k)) r
preserved-held h (Some (name.Reflector k)) s there r kept = ⊎_elim
    (λ l. kept (Some (name.Reflector k)) l)
    (λ l.
    let m = Among-map_cases (λ (n : HeapNative). native n.number) h.natives (native k.0)
    (native-there h k.0 s.well_formed (reached-there h s.well_formed (native k.0) l)) in
    let own : m.0.number ≡ k.0 = ap number_of m.2 in
    let flagged : HeapNative = record m.0 { preserved = true } in
    derive-along (view new).registers (view new).edges (rules_of (joints new.entries)) (native k.0) (reflector k.0)
    (native-edge new flagged (native k.0) (reflector k.0)
    (subst (λ n. Among n new.natives) (changed m.0 own) (Among-map (changed_where (λ n. n.number == k.0) (λ n. record n { preserved = true })) m.0 h.natives m.1))
    (subst (Among (native k.0, reflector k.0)) (sym (native_edges-split flagged))
    (Among-right (native k.0, reflector k.0) (slot_edges (native m.0.number) m.0.slots) (preserved_edge flagged)
    (inl (ap (λ j. (native j, reflector j)) own)))))
    (kept (Some (native k.0)) l))
    r
  where
    new : Heap
    new = preserve h (Some (name.Reflector k))

    changed : (n : HeapNative) → n.number ≡ k.0 → changed_where (λ n. n.number == k.0) (λ n. record n { preserved = true }) n ≡ record n { preserved = true }
    changed n e = rw (eq-eqb n.number k.0 e) refl

-- WHAT SCRIPT OBJECTS LEAD TO AFTER A CHANGE and did not before is what script registers held. Then what was scanned has given its mark on.
use Rattle.std.proofs.Common.{◌≡◌, ℕ, ◌+◌, Bool, true, false, List, [], ◌∷◌, ◌++◌, ◌&&◌, map, Option, Some, None, refl, sym, ap, subst, inl, inr, ◌⊎◌, ⊎_elim, option_to_list}
use Rattle.std.specs.List.{filter, flat_map}
use Rattle.std.specs.Prelude.{IsTrue}
use Rattle.std.proofs.lemmas.Bool.{and_from}
use Rattle.cc_lists.specs.Members.{Among, has}
use Rattle.cc_lists.specs.Least.{closure}
use Rattle.cc_lists.proofs.Members.{Among-map, Among-map_cases, Among-filter, Among-flat_map, Among-flat_map_cases, Among_or_not, has-there}
use Rattle.cc_lists.proofs.Least.{derive-along}
use Rattle.cc_lists.proofs.Closure.{derived-closure, closure-derived}
use Rattle.cc_lists.proofs.ListWrites.{Among-flat_map_set, changed_where, changed_where-either, each-map, each-push}
use Rattle.cc_names.specs.declared.name.Name.{Name}
use Rattle.cc_names.specs.declared.name.Name.TheVariants as name
use Rattle.cc_names.specs.declared.kind.Kind.{Kind}
use Rattle.cc_names.specs.declared.kind.Kind.TheVariants.{Plain, Reflector, Map, Proxy as proxy_kind}
use Rattle.cc_names.specs.Names.{object, reflector, same_name}
use Rattle.cc_names.proofs.NameTests.{same_name-exact}
use Rattle.cc_model.specs.declared.command.Command.{Command}
use Rattle.cc_model.specs.Deeds.{Deed, nothing_done, native_made, plain_made, map_made, proxy_made, native_held, script_held, script_copied, native_stored, slot_moved, script_stored, reflector_held, reflector_preserved, entry_written, object_exposed, weak_written, deed_of}
use Rattle.cc_model.specs.Slots.{reflector_slots, contents, from_to}
use Rattle.cc_model.specs.Ranges.{in_range}
use Rattle.cc_model.specs.Heap.{Heap, HeapScript, with_script_slot, objects_of, preserve, has_reflector, new_script}
use Rattle.cc_model.specs.View.{script_slot_edges}
use Rattle.cc_model.specs.Places.{script_places_of}
use Rattle.cc_model.proofs.Places.{slot-place, delegate-place, script_place-cases}
use Rattle.cc_model.specs.Exposure.{slots_of_scripts, exposed}
use Rattle.cc_model.specs.Effects.{done_in, effects, hold_native, store_native, move_slot, make_native, make_object, with_reflector, wrapped, put_in_script, set_entry, make_proxy}
use Rattle.cc_model.specs.WellFormed.{script_names}
use Rattle.cc_model.specs.Marking.{NewMarks, without_all, edges_unblack, exposure_rules_by_mark, exposed_marks, exposed_by, marking_after}
use Rattle.cc_laws_heap.specs.Sound.{IsSound}
use Rattle.cc_laws_heap.specs.UnderMarking.{IsUnderMarking, IsScannedSoFar}
use Rattle.cc_laws_heap.proofs.Owning.{IsIn}
use Rattle.cc_laws_heap.proofs.ScriptsKept.{has_name, preserve-scripts}
use Rattle.cc_laws_heap.proofs.Taken.{IsTaken}
use Rattle.cc_laws_heap.proofs.Resting.{RestsOn, rests_on}
use Rattle.cc_laws_heap.proofs.CommandsColours.{blank-holds}
use Rattle.cc_laws_heap.proofs.NativesKeepScripts.{hold_native-scripts, store_native-scripts, make_native-scripts}
use Rattle.cc_laws_heap.proofs.MayBeDone.{MayBeDone, may_be_done}
use Rattle.cc_laws_heap.proofs.Raising.{without_all-cases, without_all-in}
use Rattle.cc_laws_heap.proofs.CommandsMarking.{holdings, holdings-read, exposed-edges, move_slot-edges, done_in-holds}

-- script objects lead in the second heaps to what they led to in the first, or to what script registers held
abbrev EdgesBut : Heap → Heap → Type 0
EdgesBut h g = (x y : Name) → Among (x, y) (slots_of_scripts g) → Among (x, y) (slots_of_scripts h) ⊎ Among y (contents h.script_registers)

-- the same edges
EdgesBut-same : (h g : Heap) → slots_of_scripts g ≡ slots_of_scripts h → EdgesBut h g
EdgesBut-same h g e x y i = inl (subst (Among (x, y)) e i)

-- the same script objects
EdgesBut-scripts : (h g : Heap) → g.scripts ≡ h.scripts → EdgesBut h g
EdgesBut-scripts h g e = EdgesBut-same h g (ap (λ os. flat_map script_slot_edges os) e)

-- a script object is made, which leads to what script registers hold
EdgesBut-made : (h g : Heap) (x : Name) (kind : Kind) (n : ℕ) (d : Option Name) → g.scripts ≡ h.scripts ++ new_script x kind n d ∷ [] →
    IsIn (contents h.script_registers) d → EdgesBut h g
EdgesBut-made h g x kind n d scripts held a b i =
    let f = Among-flat_map_cases script_slot_edges (h.scripts ++ new_script x kind n d ∷ []) (a, b)
    (subst (λ (os : List HeapScript). Among (a, b) (flat_map script_slot_edges os)) scripts i) in
    each-push (λ o. Among (a, b) (script_slot_edges o) → Among (a, b) (slots_of_scripts h) ⊎ Among b (contents h.script_registers)) h.scripts (new_script x kind n d)
    (λ o j k. inl (Among-flat_map script_slot_edges o (a, b) h.scripts j k))
    (λ k. let p = Among-map_cases (from_to x) (contents (script_places_of (new_script x kind n d))) (a, b) k in
    let is : d ≡ Some p.0 = blank-holds x kind n d p.0 p.1 in
    inr (subst (λ z. Among z (contents h.script_registers)) (ap (λ (q : Name × Name). q.1) p.2)
    (held p.0 (subst (λ o. Among p.0 (option_to_list o)) (sym is) (inl refl)))))
    f.0 f.1 f.2

-- a slot of a script object written
EdgesBut-slot : (h g : Heap) (z : Name) (i : ℕ) (y : Option Name) → g.scripts ≡ map (changed_where (has_name z) (with_script_slot i y)) h.scripts →
    IsIn (contents h.script_registers) y → EdgesBut h g
EdgesBut-slot h g z i y scripts held a b m =
    let f = Among-flat_map_cases script_slot_edges (map (changed_where (has_name z) (with_script_slot i y)) h.scripts) (a, b)
    (subst (λ (os : List HeapScript). Among (a, b) (flat_map script_slot_edges os)) scripts m) in
    each-map (λ o. Among (a, b) (script_slot_edges o) → Among (a, b) (slots_of_scripts h) ⊎ Among b (contents h.script_registers))
    (changed_where (has_name z) (with_script_slot i y)) h.scripts
    (λ o j. changed_where-either (λ p. Among (a, b) (script_slot_edges p) → Among (a, b) (slots_of_scripts h) ⊎ Among b (contents h.script_registers))
    (has_name z) (with_script_slot i y) o
    (λ e k. written o j k)
    (λ k. inl (Among-flat_map script_slot_edges o (a, b) h.scripts j k)))
    f.0 f.1 f.2
  where
    edge : (o : HeapScript) (c : Name) → Among o h.scripts → Among c (contents (script_places_of o)) → from_to o.name c ≡ (a, b) → Among (a, b) (slots_of_scripts h)
    edge o c j k is = subst (λ e. Among e (slots_of_scripts h)) is
        (Among-flat_map script_slot_edges o (from_to o.name c) h.scripts j (Among-map (from_to o.name) c (contents (script_places_of o)) k))

    written : (o : HeapScript) → Among o h.scripts → Among (a, b) (script_slot_edges (with_script_slot i y o)) →
        Among (a, b) (slots_of_scripts h) ⊎ Among b (contents h.script_registers)
    written o j k =
        let p = Among-map_cases (from_to o.name) (contents (script_places_of (with_script_slot i y o))) (a, b) k in
        ⊎_elim
        (λ s. ⊎_elim
        (λ new. inr (subst (λ c. Among c (contents h.script_registers)) (ap (λ (q : Name × Name). q.1) p.2) (held p.0 new)))
        (λ old. inl (edge o p.0 j (slot-place o p.0 old) p.2))
        (Among-flat_map_set option_to_list o.slots i y p.0 s))
        (λ d. inl (edge o p.0 j (delegate-place o p.0 d) p.2))
        (script_place-cases (with_script_slot i y o) p.0 p.1)

-- Deeds

-- a proxy made
make_proxy-edges : (h : Heap) (d : ℕ) (x : Option Name) → IsIn (contents h.script_registers) x → EdgesBut h (make_proxy h d x)
make_proxy-edges h d None held = EdgesBut-scripts h h refl
make_proxy-edges h d (Some (name.Native k)) held = EdgesBut-made h (make_proxy h d (Some (name.Native k))) (object (h.scripts_made + 1)) proxy_kind 0 (Some (name.Native k)) refl held
make_proxy-edges h d (Some (name.Script k)) held = EdgesBut-made h (make_proxy h d (Some (name.Script k))) (object (h.scripts_made + 1)) proxy_kind 0 (Some (name.Script k)) refl held
make_proxy-edges h d (Some (name.Reflector k)) held = EdgesBut-made h (make_proxy h d (Some (name.Reflector k))) (object (h.scripts_made + 1)) proxy_kind 0 (Some (name.Reflector k)) refl held

-- a reflector exposed or made
wrapped-edges : (h : Heap) (x : Option Name) → EdgesBut h (wrapped h x)
wrapped-edges h (Some (name.Native k)) = go (has_reflector h k.0)
  where
    go : (b : Bool) → EdgesBut h (elim b [ true ↦ exposed h (Some (reflector k.0)) | false ↦ with_reflector h k.0 ])
    go true = EdgesBut-same h (exposed h (Some (reflector k.0))) (exposed-edges h (Some (reflector k.0)))
    go false = EdgesBut-made h (with_reflector h k.0) (reflector k.0) Reflector reflector_slots None refl (λ y i. absurd i)
wrapped-edges h None = EdgesBut-scripts h h refl
wrapped-edges h (Some (name.Script k)) = EdgesBut-scripts h h refl
wrapped-edges h (Some (name.Reflector k)) = EdgesBut-scripts h h refl

-- a slot of a script object written
put_in_script-edges : (h : Heap) (x : Option Name) (i : ℕ) (y : Option Name) → IsIn (contents h.script_registers) y → EdgesBut h (put_in_script h x i y)
put_in_script-edges h None i y held = EdgesBut-scripts h h refl
put_in_script-edges h (Some (name.Native k)) i y held = EdgesBut-scripts h (put_in_script h (Some (name.Native k)) i y) refl
put_in_script-edges h (Some (name.Script k)) i y held = EdgesBut-slot h (put_in_script h (Some (name.Script k)) i y) (object k.0) i y refl held
put_in_script-edges h (Some (name.Reflector k)) i y held = EdgesBut-slot h (put_in_script h (Some (name.Reflector k)) i y) (reflector k.0) i y refl held

-- an entry set or taken out
set_entry-edges : (h : Heap) (m k v : Option Name) → EdgesBut h (set_entry h m k v)
set_entry-edges h None k v = EdgesBut-scripts h h refl
set_entry-edges h (Some m) None v = EdgesBut-scripts h h refl
set_entry-edges h (Some m) (Some k) None = EdgesBut-scripts h (set_entry h (Some m) (Some k) None) refl
set_entry-edges h (Some m) (Some k) (Some v) = EdgesBut-scripts h (set_entry h (Some m) (Some k) (Some v)) (preserve-scripts h (Some k))

-- WHAT SCRIPT OBJECTS LEAD TO AFTER A DEED and did not before is what script registers held.
done_in-edges : {owned : List ℕ} (h : Heap) (d : Deed) → IsSound owned h → MayBeDone h d → RestsOn (holdings h) (objects_of h) d → EdgesBut h (done_in h d).heap
unfolding done_in
done_in-edges h nothing_done s m r = EdgesBut-scripts h h refl
done_in-edges h (native_made d n) s m r = EdgesBut-scripts h (make_native h d n).heap (make_native-scripts h d n).scripts
done_in-edges h (plain_made d n) s m r = EdgesBut-made h (make_object h d Plain n None) (object (h.scripts_made + 1)) Plain n None refl (λ y i. absurd i)
done_in-edges h (map_made d) s m r = EdgesBut-made h (make_object h d Map 0 None) (object (h.scripts_made + 1)) Map 0 None refl (λ y i. absurd i)
done_in-edges h (proxy_made d x) s m r = make_proxy-edges h d x r.0
done_in-edges h (native_held d x) s m r = EdgesBut-scripts h (hold_native h d x).heap (hold_native-scripts h d x).scripts
done_in-edges h (script_held d x) s m r = λ a b i. EdgesBut-same h (exposed h x) (exposed-edges h x) a b i
done_in-edges h (script_copied d x) s m r = λ a b i. inl i
done_in-edges {owned} h (native_stored d i x) s m r = EdgesBut-scripts h (store_native h d i x).heap (store_native-scripts owned h d i x m.0.there m.1 s).scripts
done_in-edges h (slot_moved d i q j) s m r = EdgesBut-same h (move_slot h d i q j).heap (move_slot-edges h d i q j s.well_formed m.0 m.1)
done_in-edges h (script_stored x i y) s m r = put_in_script-edges h x i y r.1
done_in-edges h (reflector_held d x) s m r = λ a b i. wrapped-edges h x a b i
done_in-edges h (reflector_preserved x) s m r = EdgesBut-scripts h (preserve h x) (preserve-scripts h x)
done_in-edges h (entry_written t k v) s m r = set_entry-edges h t k v
done_in-edges h (object_exposed x) s m r = EdgesBut-same h (exposed h x) (exposed-edges h x)
done_in-edges h (weak_written w x) s m r = EdgesBut-scripts h h refl

-- What was scanned

module _ (h g : Heap) (m : NewMarks) (u : IsUnderMarking h m) (there : (x : Name) → Among x (script_names h) → Among x (script_names g)) (c : EdgesBut h g) (s : IsScannedSoFar h m) where
  -- a change without an exposure
  scanned-none : IsScannedSoFar g m
  scanned-none = record {
    black_on = λ x y e a b d. ⊎_elim (λ old. s.black_on x y old a b d) (λ new. u.registers y new d) (c x y e);
    gray_on = λ x y e a b d f. ⊎_elim (λ old. s.gray_on x y old a b d f) (λ new. u.registers y new (u.within y f)) (c x y e);
    black_list = λ x i. let k = s.black_list x i in (there x k.0, k.1);
    gray_list = s.gray_list;
  }

  module _ (z : Name) where
    -- what an exposure of z makes black
    abbrev names : List Name
    names = closure same_name (exposure_rules_by_mark h m z)

    -- it goes on over edges between objects that were not black
    names-along : (x y : Name) → Among (x, y) (slots_of_scripts h) → Among x m.unblack → Among y m.unblack → Among x names → Among y names
    names-along x y e a b i = derived-closure same_name same_name-exact (exposure_rules_by_mark h m z) y
        (derive-along (filter (λ w. has same_name m.unblack w) (z ∷ [])) (edges_unblack m (slots_of_scripts h)) [] x y
        (Among-filter (λ (p : Name × Name). has same_name m.unblack p.0 && has same_name m.unblack p.1) (x, y) (slots_of_scripts h) e
        (and_from (has same_name m.unblack x) (has same_name m.unblack y) (has-there same_name same_name-exact m.unblack x a) (has-there same_name same_name-exact m.unblack y b)))
        (closure-derived same_name same_name-exact (exposure_rules_by_mark h m z) x i))

    -- a name of a list that is not left out of the rest is exposed
    left-out : (xs : List Name) (x : Name) → Among x xs → ¬ (Among x (without_all names xs)) → Among x names
    left-out xs x i d = ⊎_elim (λ e. e) (λ n. absurd (d (without_all-in names xs x i n))) (Among_or_not same_name same_name-exact names x)

    -- a change with an exposure
    scanned-some : IsScannedSoFar g (exposed_marks h (Some z) m)
    unfolding exposed_marks
    scanned-some = record {
      black_on = λ x y e a b d.
          let k = without_all-cases names m.unblack y d in
          ⊎_elim
          (λ old. ⊎_elim
          (λ unblack. k.1 (names-along x y old unblack k.0 (left-out m.unblack x unblack a)))
          (λ black. s.black_on x y old black b k.0)
          (Among_or_not same_name same_name-exact m.unblack x))
          (λ new. u.registers y new k.0)
          (c x y e);
      gray_on = λ x y e a b d f.
          let i = without_all-cases names m.unblack x a in
          let k = without_all-cases names m.unmarked y f in
          ⊎_elim
          (λ old. s.gray_on x y old i.0 (λ j. b (without_all-in names m.unmarked x j i.1)) (λ j. d (without_all-in names m.gray_list x j i.1)) k.0)
          (λ new. u.registers y new (u.within y k.0))
          (c x y e);
      black_list = λ x i. let k = s.black_list x i in (there x k.0, λ j. k.1 (without_all-cases names m.unblack x j).0);
      gray_list = λ x i.
          let k = without_all-cases names m.gray_list x i in
          let l = s.gray_list x k.0 in
          (without_all-in names m.unblack x l.0 k.1, λ j. l.1 (without_all-cases names m.unmarked x j).0);
    }

  -- a change with what it exposes keeps what was scanned
  scanned-then : (e : Option Name) → IsScannedSoFar g (exposed_marks h e m)
  unfolding exposed_marks
  scanned-then None = scanned-none
  scanned-then (Some z) = scanned-some z

-- A COMMAND THAT IS NOT REFUSED KEEPS WHAT WAS SCANNED.
pub effects-scanned : {owned : List ℕ} (h : Heap) (m : NewMarks) (c : Command) → IsSound owned h → IsUnderMarking h m → IsScannedSoFar h m → IsTrue (in_range c) →
    IsTaken (objects_of h) c → IsScannedSoFar (effects h c).heap (marking_after h (deed_of (objects_of h) c) m)
unfolding effects
effects-scanned h m c s u scanned r t =
    let d : Deed = deed_of (objects_of h) c in
    let may = may_be_done h c s r t in
    let rests = rests_on (holdings h) (objects_of h) (holdings-read h s.well_formed) c r t in
    scanned-then h (done_in h d).heap m u (done_in-holds h d s may rests).there (done_in-edges h d s may rests) scanned (exposed_by h d)

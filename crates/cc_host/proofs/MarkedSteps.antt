-- WHAT THE HEAPS' CALLS LEAD TO ANEW, by kind of change: what they write, where it is written.
use Rattle.std.proofs.Common.{arith, ◌≡◌, ℕ, ◌+◌, ◌≤◌, Bool, true, false, List, [], ◌∷◌, ◌++◌, map, set, Option, Some, None, refl, sym, ◌∙◌, ap, subst, inl, inr, ◌⊎◌, ⊎_elim, option_to_list}
use Rattle.std.specs.List.{flat_map}
use Rattle.cc_lists.specs.Members.{Among}
use Rattle.cc_lists.proofs.Members.{Among-left, Among-map, Among-map_cases, Among-flat_map, Among-flat_map_cases}
use Rattle.cc_lists.proofs.ListWrites.{Among-flat_map_set, changed_where, changed_where-either, each-map, each-push, map-kept}
use Rattle.cc_names.specs.declared.name.Name.{Name}
use Rattle.cc_names.specs.declared.name.Name.TheVariants as name
use Rattle.cc_names.specs.declared.kind.Kind.{Kind}
use Rattle.cc_names.specs.declared.kind.Kind.TheVariants.{Reflector, Proxy as proxy_kind}
use Rattle.cc_names.specs.Names.{native, object, reflector, same_name}
use Rattle.cc_model.specs.Slots.{Slots, contents, from_to, reflector_slots}
use Rattle.cc_model.specs.Heap.{Heap, HeapScript, change_script, has_reflector, new_script, preserve, set_slot, with_script_slot}
use Rattle.cc_model.specs.Cascade.{let_go, take_up}
use Rattle.cc_model.specs.Places.{script_places_of}
use Rattle.cc_model.proofs.Places.{slot-place, delegate-place, script_place-cases}
use Rattle.cc_model.specs.View.{script_slot_edges}
use Rattle.cc_model.specs.Exposure.{slots_of_scripts, exposed}
use Rattle.cc_model.specs.Effects.{hold_native, hold_script, make_native, make_object, make_proxy, set_entry, touched, with_reflector, with_script, wrapped}
use Rattle.cc_model.specs.WellFormed.{IsWellFormed, script_names}
use Rattle.cc_laws_heap.proofs.CommandsColours.{blank-holds}
use Rattle.cc_laws_heap.proofs.CommandsMarking.{exposed-edges}
use Rattle.cc_laws_heap.proofs.Face.{SameScripts, SameScripts-take_up, let_go-scripts, script_names-exposed}
use Rattle.cc_laws_heap.proofs.HoldsBut.{HeldOr}
use Rattle.cc_laws_heap.proofs.NativesHold.{HeldOr-add_ref, HeldOr-after, HeldOr-hold_native, HeldOr-let_go, HeldOr-make_native, HeldOr-preserve, HeldOr-same, HeldOr-slot, HeldOr-take_up, HeldOr-then}
use Rattle.cc_laws_heap.proofs.NativesKeepScripts.{hold_native-scripts, make_native-scripts}
use Rattle.cc_heaps.specs.Changes.{moved_in, slot_held, stored_in, taken_from, written_in}
use Rattle.cc_host.proofs.Exposed.{exposed-rest}
use Rattle.cc_host.proofs.Marked.{LeadsBut}

-- Natives

-- natives change alone
leads-natives : (more : List Name) (h g : Heap) → g.scripts ≡ h.scripts → g.script_registers ≡ h.script_registers → HeldOr more h g → LeadsBut more h g
leads-natives more h g scripts registers held = record {
  registers = λ x i. inl (subst (λ (rs : Slots). Among x (contents rs)) registers i);
  held = held;
  edges = λ x y i. inl (subst (λ (os : List HeapScript). Among (x, y) (flat_map script_slot_edges os)) scripts i);
  there = λ x i. subst (λ (os : List HeapScript). Among x (map (λ (o : HeapScript). o.name) os)) (sym scripts) i;
}

-- nothing changes
pub leads-same : (more : List Name) (h : Heap) → LeadsBut more h h
leads-same more h = leads-natives more h h refl refl (HeldOr-same more h h refl)

-- a native register written
pub leads-hold_native : (h : Heap) (r : ℕ) (x : Option Name) → LeadsBut [] h (hold_native h r x).heap
leads-hold_native h r x = let s = hold_native-scripts h r x in leads-natives [] h (hold_native h r x).heap s.scripts s.registers (HeldOr-hold_native h r x)

-- a native made
pub leads-make_native : (h : Heap) (r n : ℕ) → LeadsBut [] h (make_native h r n).heap
leads-make_native h r n = let s = make_native-scripts h r n in leads-natives [] h (make_native h r n).heap s.scripts s.registers (HeldOr-make_native h r n)

-- a slot of a native written, and what it held given up
module _ (h : Heap) (k i : ℕ) (x : Option Name) where
  abbrev given : Option Name
  given = slot_held h k i

  abbrev written : Heap
  written = set_slot h (Some (native k)) i x

  written-scripts : SameScripts h (written_in h k i x).heap
  written-scripts = let s = let_go-scripts written given in record { scripts = s.scripts; registers = s.registers }

  written-held : HeldOr (option_to_list x) h (written_in h k i x).heap
  written-held = HeldOr-then (option_to_list x) h written (let_go written given).heap
      (HeldOr-slot (option_to_list x) h k i x (λ y s m. m)) (HeldOr-let_go written given)

-- and with the reference taken first
pub leads-stored : (h : Heap) (k i : ℕ) (x : Option Name) → LeadsBut (option_to_list x) h (stored_in h k i x).heap
leads-stored h k i x =
    let s = SameScripts-take_up h x in
    let t = written-scripts (take_up h x) k i x in
    leads-natives (option_to_list x) h (stored_in h k i x).heap (t.scripts ∙ s.scripts) (t.registers ∙ s.registers)
    (HeldOr-after (option_to_list x) h (take_up h x) (stored_in h k i x).heap (HeldOr-take_up h x) (written-held (take_up h x) k i x))

-- Exposures

exposed-registers : (h : Heap) (x : Option Name) → (exposed h x).script_registers ≡ h.script_registers
exposed-registers h x = ap (λ (k : Heap). k.script_registers) (exposed-rest h x)

exposed-natives : (h : Heap) (x : Option Name) → (exposed h x).natives ≡ h.natives
exposed-natives h x = ap (λ (k : Heap). k.natives) (exposed-rest h x)

pub leads-exposed : (more : List Name) (h : Heap) (x : Option Name) → IsWellFormed h → LeadsBut more h (exposed h x)
leads-exposed more h x w = record {
  registers = λ y i. inl (subst (λ (rs : Slots). Among y (contents rs)) (exposed-registers h x) i);
  held = HeldOr-same more h (exposed h x) (exposed-natives h x);
  edges = λ y z i. inl (subst (Among (y, z)) (exposed-edges h x) i);
  there = λ y i. subst (Among y) (sym (script_names-exposed h x w)) i;
}

-- what is exposed comes into a script register
pub leads-hold_script : (h : Heap) (r : ℕ) (x : Option Name) → IsWellFormed h → LeadsBut (option_to_list x) h (hold_script h r x)
leads-hold_script h r x w =
    let e = leads-exposed (option_to_list x) h x w in
    record {
      registers = λ y i. ⊎_elim (λ new. inr (inl new)) (λ old. e.registers y old) (Among-flat_map_set option_to_list (exposed h x).script_registers r x y i);
      held = e.held;
      edges = e.edges;
      there = e.there;
    }

-- What a slot of a native holds is touched or exposed, and taken out, and moved
module _ (h : Heap) (w : IsWellFormed h) where
  touched-leads : (x : Option Name) → LeadsBut [] h (touched h x)
  touched-leads None = leads-same [] h
  touched-leads (Some (name.Native k)) = leads-natives [] h (touched h (Some (name.Native k))) refl refl (HeldOr-same [] h (touched h (Some (name.Native k))) refl)
  touched-leads (Some (name.Script k)) = leads-exposed [] h (Some (object k.0)) w
  touched-leads (Some (name.Reflector k)) = leads-exposed [] h (Some (reflector k.0)) w

  pub leads-moved : (k i m j : ℕ) → LeadsBut (option_to_list (slot_held h m j)) h (moved_in h k i m j).heap
  leads-moved k i m j =
      let x = slot_held h m j in
      let t = touched-leads x in
      let taken : Heap = taken_from h m j in
      let s = written-scripts taken k i x in
      let without : HeldOr [] (touched h x) taken = HeldOr-slot [] (touched h x) m j None (λ y t n. n) in
      record {
        registers = λ y n. ⊎_elim (λ old. inl old) (λ new. ⊎_elim (λ none. absurd none) (λ none. inr (inr none)) new)
            (t.registers y (subst (λ (rs : Slots). Among y (contents rs)) s.registers n));
        held = HeldOr-after (option_to_list x) h taken (moved_in h k i m j).heap (HeldOr-then [] h (touched h x) taken t.held without) (written-held taken k i x);
        edges = λ y z n. ⊎_elim (λ old. inl old) (λ none. absurd none)
            (t.edges y z (subst (λ (os : List HeapScript). Among (y, z) (flat_map script_slot_edges os)) s.scripts n));
        there = λ y n. subst (λ (os : List HeapScript). Among y (map (λ (o : HeapScript). o.name) os)) (sym s.scripts) (t.there y n);
      }

-- Script objects made

-- one goes last, which leads to its delegate alone
made-edges : (h g : Heap) (x : Name) (kind : Kind) (n : ℕ) (d : Option Name) → g.scripts ≡ h.scripts ++ new_script x kind n d ∷ [] →
    (a b : Name) → Among (a, b) (slots_of_scripts g) → Among (a, b) (slots_of_scripts h) ⊎ Among b (option_to_list d)
made-edges h g x kind n d scripts a b i =
    let f = Among-flat_map_cases script_slot_edges (h.scripts ++ new_script x kind n d ∷ []) (a, b)
    (subst (λ (os : List HeapScript). Among (a, b) (flat_map script_slot_edges os)) scripts i) in
    each-push (λ o. Among (a, b) (script_slot_edges o) → Among (a, b) (slots_of_scripts h) ⊎ Among b (option_to_list d)) h.scripts (new_script x kind n d)
    (λ o j k. inl (Among-flat_map script_slot_edges o (a, b) h.scripts j k))
    (λ k. let p = Among-map_cases (from_to x) (contents (script_places_of (new_script x kind n d))) (a, b) k in
    let is : d ≡ Some p.0 = blank-holds x kind n d p.0 p.1 in
    inr (subst (λ z. Among z (option_to_list d)) (ap (λ (q : Name × Name). q.1) p.2)
    (subst (λ o. Among p.0 (option_to_list o)) (sym is) (inl refl))))
    f.0 f.1 f.2

made-there : (h g : Heap) (o : HeapScript) → g.scripts ≡ h.scripts ++ o ∷ [] → (y : Name) → Among y (script_names h) → Among y (script_names g)
made-there h g o scripts y i =
    let f = Among-map_cases (λ (p : HeapScript). p.name) h.scripts y i in
    subst (λ (os : List HeapScript). Among y (map (λ (p : HeapScript). p.name) os)) (sym scripts)
    (subst (λ z. Among z (map (λ (p : HeapScript). p.name) (h.scripts ++ o ∷ []))) f.2
    (Among-map (λ (p : HeapScript). p.name) f.0 (h.scripts ++ o ∷ []) (Among-left f.0 h.scripts (o ∷ []) f.1)))

-- and a script register holds it
leads-made : (h g : Heap) (r : ℕ) (x : Name) (kind : Kind) (n : ℕ) (d : Option Name) → ¬ (Among x (script_names h)) →
    g.scripts ≡ h.scripts ++ new_script x kind n d ∷ [] → g.script_registers ≡ set h.script_registers r (Some x) → HeldOr (option_to_list d) h g →
    LeadsBut (option_to_list d) h g
leads-made h g r x kind n d unknown scripts registers held = record {
  registers = λ y i. ⊎_elim
      (λ new. inr (inr (λ m. unknown (⊎_elim (λ is. subst (λ z. Among z (script_names h)) (sym is) m) (λ t. absurd t) new))))
      (λ old. inl old)
      (Among-flat_map_set option_to_list h.script_registers r (Some x) y (subst (λ (rs : Slots). Among y (contents rs)) registers i));
  held = held;
  edges = made-edges h g x kind n d scripts;
  there = made-there h g (new_script x kind n d) scripts;
}

-- the next number is new
next-unknown : (h : Heap) → IsWellFormed h → ¬ (Among (object (h.scripts_made + 1)) (script_names h))
next-unknown h w m = let made : h.scripts_made + 1 ≤ h.scripts_made = (w.object_numbers (h.scripts_made + 1) m).1 in absurd (omega arith)

-- a plain object or a weak map
pub leads-make_object : (h : Heap) (r : ℕ) (kind : Kind) (n : ℕ) → IsWellFormed h → LeadsBut [] h (make_object h r kind n None)
leads-make_object h r kind n w = leads-made h (make_object h r kind n None) r (object (h.scripts_made + 1)) kind n None (next-unknown h w) refl refl
    (HeldOr-same [] h (make_object h r kind n None) refl)

-- a proxy
pub leads-make_proxy : (h : Heap) (r : ℕ) (x : Option Name) → IsWellFormed h → LeadsBut (option_to_list x) h (make_proxy h r x)
leads-make_proxy h r None w = leads-same [] h
leads-make_proxy h r (Some (name.Native k)) w = leads-made h (make_proxy h r (Some (name.Native k))) r (object (h.scripts_made + 1)) proxy_kind 0 (Some (name.Native k))
    (next-unknown h w) refl refl (HeldOr-same (native k.0 ∷ []) h (make_proxy h r (Some (name.Native k))) refl)
leads-make_proxy h r (Some (name.Script k)) w = leads-made h (make_proxy h r (Some (name.Script k))) r (object (h.scripts_made + 1)) proxy_kind 0 (Some (name.Script k))
    (next-unknown h w) refl refl (HeldOr-same (object k.0 ∷ []) h (make_proxy h r (Some (name.Script k))) refl)
leads-make_proxy h r (Some (name.Reflector k)) w = leads-made h (make_proxy h r (Some (name.Reflector k))) r (object (h.scripts_made + 1)) proxy_kind 0 (Some (name.Reflector k))
    (next-unknown h w) refl refl (HeldOr-preserve (reflector k.0 ∷ []) h (Some (name.Reflector k)) (λ y m. m))

-- a reflector, which no register holds; one that is there is exposed
pub leads-wrapped : (h : Heap) (k : ℕ) → IsWellFormed h → LeadsBut [] h (wrapped h (Some (native k)))
leads-wrapped h k w = go (has_reflector h k) refl
  where
    go : (b : Bool) → has_reflector h k ≡ b → LeadsBut [] h (elim b [ true ↦ exposed h (Some (reflector k)) | false ↦ with_reflector h k ])
    go true e = leads-exposed [] h (Some (reflector k)) w
    go false e = record {
      registers = λ x i. inl i;
      held = HeldOr-add_ref (with_script h (reflector k) Reflector reflector_slots None) k;
      edges = made-edges h (with_reflector h k) (reflector k) Reflector reflector_slots None refl;
      there = made-there h (with_reflector h k) (new_script (reflector k) Reflector reflector_slots None) refl;
    }

-- Reflectors preserved, slots of script objects, and entries

pub leads-preserve : (h : Heap) (x : Option Name) → LeadsBut (option_to_list x) h (preserve h x)
leads-preserve h None = leads-same [] h
leads-preserve h (Some (name.Native k)) = leads-same (native k.0 ∷ []) h
leads-preserve h (Some (name.Script k)) = leads-same (object k.0 ∷ []) h
leads-preserve h (Some (name.Reflector k)) = leads-natives (reflector k.0 ∷ []) h (preserve h (Some (name.Reflector k))) refl refl
    (HeldOr-preserve (reflector k.0 ∷ []) h (Some (name.Reflector k)) (λ y m. m))

-- a slot of a script object written
module _ (h : Heap) (z : Name) (i : ℕ) (y : Option Name) where
  abbrev changed : Heap
  changed = change_script h z (with_script_slot i y)

  abbrev new_slot : HeapScript → HeapScript
  new_slot = changed_where (λ (o : HeapScript). same_name o.name z) (with_script_slot i y)

  slot-edges : (a b : Name) → Among (a, b) (slots_of_scripts changed) → Among (a, b) (slots_of_scripts h) ⊎ Among b (option_to_list y)
  slot-edges a b m =
      let f = Among-flat_map_cases script_slot_edges (map new_slot h.scripts) (a, b) m in
      each-map (λ o. Among (a, b) (script_slot_edges o) → Among (a, b) (slots_of_scripts h) ⊎ Among b (option_to_list y)) new_slot h.scripts
      (λ o j. changed_where-either (λ p. Among (a, b) (script_slot_edges p) → Among (a, b) (slots_of_scripts h) ⊎ Among b (option_to_list y))
      (λ (p : HeapScript). same_name p.name z) (with_script_slot i y) o
      (λ e k. written o j k)
      (λ k. inl (Among-flat_map script_slot_edges o (a, b) h.scripts j k)))
      f.0 f.1 f.2
    where
      edge : (o : HeapScript) (c : Name) → Among o h.scripts → Among c (contents (script_places_of o)) → from_to o.name c ≡ (a, b) → Among (a, b) (slots_of_scripts h)
      edge o c j k is = subst (λ e. Among e (slots_of_scripts h)) is
          (Among-flat_map script_slot_edges o (from_to o.name c) h.scripts j (Among-map (from_to o.name) c (contents (script_places_of o)) k))

      written : (o : HeapScript) → Among o h.scripts → Among (a, b) (script_slot_edges (with_script_slot i y o)) →
          Among (a, b) (slots_of_scripts h) ⊎ Among b (option_to_list y)
      written o j k =
          let p = Among-map_cases (from_to o.name) (contents (script_places_of (with_script_slot i y o))) (a, b) k in
          ⊎_elim
          (λ s. ⊎_elim
          (λ new. inr (subst (λ c. Among c (option_to_list y)) (ap (λ (q : Name × Name). q.1) p.2) new))
          (λ old. inl (edge o p.0 j (slot-place o p.0 old) p.2))
          (Among-flat_map_set option_to_list o.slots i y p.0 s))
          (λ d. inl (edge o p.0 j (delegate-place o p.0 d) p.2))
          (script_place-cases (with_script_slot i y o) p.0 p.1)

  leads-script_slot : LeadsBut (option_to_list y) h changed
  leads-script_slot = record {
    registers = λ x m. inl m;
    held = HeldOr-same (option_to_list y) h changed refl;
    edges = slot-edges;
    there = λ x m. subst (Among x)
        (sym (map-kept (λ (o : HeapScript). o.name) new_slot h.scripts
        (λ o. changed_where-either (λ (p : HeapScript). p.name ≡ o.name) (λ (p : HeapScript). same_name p.name z) (with_script_slot i y) o (λ e. refl) refl))) m;
  }

pub leads-slot : (h : Heap) (x : Option Name) (i : ℕ) (y : Option Name) → LeadsBut (option_to_list y) h (set_slot h x i y)
leads-slot h None i y = leads-same (option_to_list y) h
leads-slot h (Some (name.Native k)) i y = leads-natives (option_to_list y) h (set_slot h (Some (name.Native k)) i y) refl refl
    (HeldOr-slot (option_to_list y) h k.0 i y (λ x s m. m))
leads-slot h (Some (name.Script k)) i y = leads-script_slot h (object k.0) i y
leads-slot h (Some (name.Reflector k)) i y = leads-script_slot h (reflector k.0) i y

-- an entry taken out
pub leads-unset : (h : Heap) (m k : Option Name) → LeadsBut [] h (set_entry h m k None)
leads-unset h None k = leads-same [] h
leads-unset h (Some m) None = leads-same [] h
leads-unset h (Some m) (Some k) = let c = leads-same [] h in record { registers = c.registers; held = c.held; edges = c.edges; there = c.there }

-- one set, its key preserved, or taken out
pub leads-entry : (h : Heap) (m k v : Option Name) → LeadsBut (option_to_list k) h (set_entry h m k v)
leads-entry h None k v = leads-same (option_to_list k) h
leads-entry h (Some m) None v = leads-same [] h
leads-entry h (Some m) (Some k) None = let c = leads-same (k ∷ []) h in record { registers = c.registers; held = c.held; edges = c.edges; there = c.there }
leads-entry h (Some m) (Some k) (Some v) = let c = leads-preserve h (Some k) in record { registers = c.registers; held = c.held; edges = c.edges; there = c.there }

-- HEAPS STAY WELL FORMED where natives are taken out and counts and the buffer change, if what is referred to and what
-- is buffered is still there.
use Rattle.std.proofs.Common.{◌≡◌, ℕ, ◌≤◌, Bool, true, List, map, length, refl, sym, ◌∙◌, ap, subst, ⊎_elim}
use Rattle.std.specs.List.{filter}
use Rattle.std.proofs.lemmas.Bool.{eq-eqb}
use Rattle.std.proofs.lemmas.Simd.{map-map}
use Rattle.cc_lists.specs.Members.{Among}
use Rattle.cc_lists.proofs.Members.{Among-map, Among-map_cases, Among-left, Among-right, Among-append, Among-filtered}
use Rattle.cc_lists.proofs.Counting.{count_by-some}
use Rattle.cc_names.specs.declared.name.Name.{Name}
use Rattle.cc_names.specs.Names.{native, reflector}
use Rattle.cc_names.specs.Sizes.{most_slots}
use Rattle.cc_model.specs.Slots.{contents}
use Rattle.cc_model.specs.Heap.{Heap, HeapNative, Buffered}
use Rattle.cc_model.specs.WellFormed.{IsRising, IsWellFormed, native_names, script_names, names_there}
use Rattle.cc_model.specs.Counts.{refs_to}
use Rattle.cc_laws_heap.specs.Freeing.{uncounted}
use Rattle.cc_lists.proofs.Searching.{filter-map}
use Rattle.cc_laws_heap.proofs.Rising.{IsRising-filter}
use Rattle.cc_laws_heap.proofs.References.{refs_to-register, refs_to-slot, refs_to-reflector}
use Rattle.cc_laws_heap.specs.Balance.{has_place, places}

-- `ns` are natives of `h`, those whose numbers pass a test, with other counts; with the buffer `bs` all that is
-- referred to, and all that is buffered, is there
pub record IsPart (h : Heap) (p : ℕ → Bool) (ns : List HeapNative) (bs : List Buffered) : Type 0 where
  pub natives : map uncounted ns ≡ filter (λ (u : HeapNative). p u.number) (map uncounted h.natives)
  pub referred : (k : ℕ) → 1 ≤ refs_to (record h { natives = ns; buffer = bs }) k → Among (native k) (native_names (record h { natives = ns; buffer = bs }))
  pub buffered : (k : ℕ) → 1 ≤ places k bs → Among (native k) (native_names (record h { natives = ns; buffer = bs }))
  pub buffered_once : (k : ℕ) → places k bs ≤ 1

module _ (h : Heap) (p : ℕ → Bool) (ns : List HeapNative) (bs : List Buffered) (part : IsPart h p ns bs) where
  -- a native of the part is one of the whole, but for its count
  whole : (n : HeapNative) → Among n ns → (m : HeapNative) × Among m h.natives × (uncounted m ≡ uncounted n)
  whole n there =
      let u : Among (uncounted n) (filter (λ (u : HeapNative). p u.number) (map uncounted h.natives)) = subst (Among (uncounted n)) part.natives (Among-map uncounted n ns there) in
      Among-map_cases uncounted h.natives (uncounted n) (Among-filtered (λ (u : HeapNative). p u.number) (uncounted n) (map uncounted h.natives) u)

  -- what holds for each native of the whole, and is not of counts, holds for each of the part
  each : (P : HeapNative → Type 0) → ((m : HeapNative) → Among m h.natives → P (uncounted m)) → (n : HeapNative) → Among n ns → P (uncounted n)
  each P all n there = let m = whole n there in subst P m.2 (all m.0 m.1)

  -- numbers that rise, rise in the part
  part-rises : IsRising (map (λ (n : HeapNative). n.number) h.natives) → IsRising (map (λ (n : HeapNative). n.number) ns)
  part-rises r = subst IsRising (sym same) (IsRising-filter p (map (λ (n : HeapNative). n.number) h.natives) r)
    where
      number : HeapNative → ℕ
      number u = u.number

      same : map (λ (n : HeapNative). n.number) ns ≡ filter p (map (λ (n : HeapNative). n.number) h.natives)
      same =
          sym (map-map number uncounted ns)
          ∙ (ap (map number) part.natives
          ∙ (sym (filter-map p number (map uncounted h.natives))
          ∙ ap (filter p) (map-map number uncounted h.natives)))

  -- a native that is referred to stays
  native-stays : (x : Name) → Among x (native_names h) → ((k : ℕ) → native k ≡ x → 1 ≤ refs_to (record h { natives = ns; buffer = bs }) k) →
      Among x (native_names (record h { natives = ns; buffer = bs }))
  native-stays x m refs =
      let f = Among-map_cases (λ (n : HeapNative). native n.number) h.natives x m in
      subst (λ y. Among y (native_names (record h { natives = ns; buffer = bs }))) f.2 (part.referred f.0.number (refs f.0.number f.2))

  -- and so does what a native holds
  content-stays : (n : HeapNative) (x : Name) → Among n ns → Among x (contents n.slots) → Among x (names_there h) →
      Among x (names_there (record h { natives = ns; buffer = bs }))
  content-stays n x there m named = ⊎_elim
      (λ l. Among-left x (native_names (record h { natives = ns; buffer = bs })) (script_names h)
      (native-stays x l (λ k e. refs_to-slot (record h { natives = ns; buffer = bs }) k n there (subst (λ y. Among y (contents n.slots)) (sym e) m))))
      (λ r. Among-right x (native_names (record h { natives = ns; buffer = bs })) (script_names h) r)
      (Among-append x (native_names h) (script_names h) named)

  -- THE PART IS WELL FORMED where the whole is.
  pub IsWellFormed-part : IsWellFormed h → IsWellFormed (record h { natives = ns; buffer = bs })
  IsWellFormed-part w = record {
    native_registers = λ x m. native-stays x (w.native_registers x m)
        (λ k e. refs_to-register (record h { natives = ns; buffer = bs }) k (subst (λ y. Among y (contents h.native_registers)) (sym e) m));
    script_registers = w.script_registers;
    registers = w.registers;
    rising = part-rises w.rising;
    native_numbers = each (λ u. (1 ≤ u.number) × (u.number ≤ h.natives_made)) w.native_numbers;
    native_slots = each (λ u. length u.slots ≤ most_slots) w.native_slots;
    native_contents = λ n x there m. content-stays n x there m
        (each (λ u. Among x (contents u.slots) → Among x (names_there h)) (λ o t. w.native_contents o x t) n there m);
    distinct = w.distinct;
    object_numbers = w.object_numbers;
    kinds = w.kinds;
    script_contents = w.script_contents;
    delegates = w.delegates;
    delegate_there = w.delegate_there;
    reflected = λ k m. part.referred k (refs_to-reflector (record h { natives = ns; buffer = bs }) k m);
    preserved = each (λ u. u.preserved ≡ true → Among (reflector u.number) (script_names h)) w.preserved;
    entries = λ e m. let t = w.entries e m in record { the_map = t.the_map; key = t.key; value = t.value; delegate = t.delegate };
    one_entry = w.one_entry;
    buffered = λ b m. part.buffered b.number (count_by-some (has_place b.number) b bs m (eq-eqb b.number b.number refl));
    buffered_once = part.buffered_once;
    natives_allowed = w.natives_allowed;
    scripts_allowed = w.scripts_allowed;
  }

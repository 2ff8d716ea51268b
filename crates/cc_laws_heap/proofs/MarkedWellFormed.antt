-- THE HEAPS WITHOUT WHAT IS NOT MARKED ARE WELL FORMED, where the marks are closed: what is left mentions nothing that was dropped.
use Rattle.std.proofs.Common.{◌≤◌, Bool, not, List, subst, ⊎_elim, arith, count_by}
use Rattle.std.specs.List.{filter}
use Rattle.std.proofs.lemmas.Bool.{not-true}
use Rattle.cc_lists.specs.Members.{Among, has}
use Rattle.cc_lists.proofs.Members.{Among-map, Among-map_cases, Among-left, Among-right, Among-append, Among-filter, Among-filtered, Among-passes}
use Rattle.cc_lists.proofs.Counting.{count_by-map}
use Rattle.cc_lists.proofs.Filtering.{count_by-filter-le}
use Rattle.cc_names.specs.declared.name.Name.{Name}
use Rattle.cc_names.specs.Names.{object, reflector, same_name}
use Rattle.cc_model.specs.Slots.{contents}
use Rattle.cc_model.specs.Entries.{Entry, is_entry_of}
use Rattle.cc_model.specs.Heap.{Heap, HeapNative, HeapScript}
use Rattle.cc_model.specs.Sweep.{unmarked, is_dead_entry}
use Rattle.cc_model.specs.WellFormed.{IsWellFormed, HasMembers, native_names, script_names, names_there}
use Rattle.cc_laws_heap.specs.Marks.{Stays, AreMarksClosed}
use Rattle.cc_laws_heap.proofs.ScriptNames.{script_names-named}
use Rattle.cc_laws_heap.proofs.NameLists.{is_not_among-from, is_not_among-apart}
use Rattle.cc_laws_heap.proofs.MarksClosed.{stays-slot, stays-delegate, stays-value, stays-native_slot, stays-preserved}

-- whether a script object is none of the dead
abbrev pub is_spared : List Name → HeapScript → Bool
is_spared dead o = not (has same_name dead o.name)

-- whether an entry has neither a dead map nor a dead key
abbrev pub is_spared_entry : List Name → Entry → Bool
is_spared_entry dead e = not (is_dead_entry dead e)

-- the heaps without the dead, and without the entries whose map or key is dead
abbrev pub spared : List Name → Heap → Heap
spared dead h = record h { scripts = filter (is_spared dead) h.scripts; entries = filter (is_spared_entry dead) h.entries }

module _ (h : Heap) (c : AreMarksClosed h) (w : IsWellFormed h) where
  -- a script object that stays is among those that are left
  spared-there : (x : Name) → Among x (script_names h) → Stays h x → Among x (script_names (spared (unmarked h) h))
  spared-there x m d = grind (arith, Among-map_cases, Among-map, Among-filter, is_not_among-from)

  -- a script object that is left was there, and stays
  spared-stays : (x : Name) → Among x (script_names (spared (unmarked h) h)) → Among x (script_names h) × Stays h x
  spared-stays x m = grind (arith, Among-map_cases, Among-map, Among-filtered, is_not_among-apart, Among-passes)

  -- an entry that stays has a map and a key that stay
  spared-entry : (e : Entry) → Among e (spared (unmarked h) h).entries → Among e h.entries × Stays h e.the_map × Stays h e.key
  spared-entry e m = grind (arith, not-true, Among-passes, Among-filtered, is_not_among-apart)

  -- an entry that stays is one of what stays
  spared-members : (e : Entry) → Among e (spared (unmarked h) h).entries → HasMembers (spared (unmarked h) h) e
  spared-members e m =
      let s = spared-entry e m in
      let k = w.entries e s.0 in
      let apart : Stays h k.the_map.0.name = λ i. s.1 (subst (λ y. Among y (unmarked h)) k.the_map.2 i) in
      record {
        the_map = (
          k.the_map.0,
          Among-filter (is_spared (unmarked h)) k.the_map.0 h.scripts k.the_map.1 (is_not_among-from (unmarked h) k.the_map.0.name apart),
          k.the_map.2,
          k.the_map.3,
        );
        key = spared-there e.key k.key s.2;
        value = spared-there e.value k.value (stays-value h c e s.0 s.1 s.2);
        delegate = λ o m is. k.delegate o (Among-filtered (is_spared (unmarked h)) o h.scripts m) is;
      }

  -- what a native has in a slot stays
  spared-content : (n : HeapNative) (x : Name) → Among n h.natives → Among x (contents n.slots) → Among x (names_there (spared (unmarked h) h))
  spared-content n x m i = ⊎_elim
      (λ l. Among-left x (native_names h) (script_names (spared (unmarked h) h)) l)
      (λ r. Among-right x (native_names h) (script_names (spared (unmarked h) h))
      (spared-there x r (stays-native_slot h c n x m i (script_names-named h w x r))))
      (Among-append x (native_names h) (script_names h) (w.native_contents n x m i))

  -- script objects that stay have distinct names
  spared-distinct : (x : Name) → count_by (same_name x) (script_names (spared (unmarked h) h)) ≤ 1
  spared-distinct x = omega (
    arith,
    w.distinct x,
    count_by-map (same_name x) (λ (o : HeapScript). o.name) h.scripts,
    count_by-map (same_name x) (λ (o : HeapScript). o.name) (filter (is_spared (unmarked h)) h.scripts),
    count_by-filter-le (λ (o : HeapScript). same_name x o.name) (is_spared (unmarked h)) h.scripts,
  )

  -- THE HEAPS WITHOUT WHAT IS NOT MARKED ARE WELL FORMED.
  pub IsWellFormed-spared : IsWellFormed (spared (unmarked h) h)
  IsWellFormed-spared = record {
    native_registers = w.native_registers;
    script_registers = λ x m. spared-there x (w.script_registers x m) (c.registers x m);
    registers = w.registers;
    rising = w.rising;
    native_numbers = w.native_numbers;
    native_slots = w.native_slots;
    native_contents = spared-content;
    distinct = spared-distinct;
    object_numbers = λ k m. w.object_numbers k (spared-stays (object k) m).0;
    kinds = λ o m. w.kinds o (Among-filtered (is_spared (unmarked h)) o h.scripts m);
    script_contents = λ o x m i.
        let there : Among o h.scripts = Among-filtered (is_spared (unmarked h)) o h.scripts m in
        let stays : Stays h o.name = (spared-stays o.name (Among-map (λ (p : HeapScript). p.name) o (filter (is_spared (unmarked h)) h.scripts) m)).1 in
        spared-there x (w.script_contents o x there i) (stays-slot h c o x there i stays);
    delegates = λ o m. w.delegates o (Among-filtered (is_spared (unmarked h)) o h.scripts m);
    delegate_there = λ o d m e.
        let there : Among o h.scripts = Among-filtered (is_spared (unmarked h)) o h.scripts m in
        let stays : Stays h o.name = (spared-stays o.name (Among-map (λ (p : HeapScript). p.name) o (filter (is_spared (unmarked h)) h.scripts) m)).1 in
        spared-there d (w.delegate_there o d there e) (stays-delegate h c o d there e stays);
    reflected = λ k m. w.reflected k (spared-stays (reflector k) m).0;
    preserved = λ n m e. spared-there (reflector n.number) (w.preserved n m e) (stays-preserved h c n m e);
    entries = spared-members;
    one_entry = λ m k. omega (arith, w.one_entry m k, count_by-filter-le (is_entry_of m k) (is_spared_entry (unmarked h)) h.entries);
    buffered = w.buffered;
    buffered_once = w.buffered_once;
    natives_allowed = w.natives_allowed;
    scripts_allowed = w.scripts_allowed;
  }

-- A SCRIPT COLLECTION SPARES WHAT IS REACHED.
use Rattle.std.proofs.Common.{◌≡◌, ℕ, true, List, ◌++◌, refl, sym, ◌∙◌, ap, subst, ⊎_elim}
use Rattle.std.specs.List.{filter, flat_map}
use Rattle.cc_lists.specs.Members.{Among}
use Rattle.cc_lists.proofs.Members.{Among-map, Among-map_cases, Among-left, Among-right, Among-append, Among-filter, Among-filtered, Among-flat_map_cases}
use Rattle.cc_names.specs.declared.name.Name.{Name}
use Rattle.cc_names.specs.Names.{native, is_script}
use Rattle.cc_model.specs.declared.item.Event.{Event}
use Rattle.cc_model.specs.declared.item.Event.TheVariants.{Unlinked, Freed}
use Rattle.cc_model.specs.Slots.{contents}
use Rattle.cc_model.specs.Entries.{value_in}
use Rattle.cc_model.specs.Heap.{Heap, HeapNative, HeapScript}
use Rattle.cc_model.specs.View.{view, native_edges, script_edges, ReachedIn}
use Rattle.cc_model.specs.WellFormed.{native_names, script_names, names_there}
use Rattle.cc_model.specs.Colours.{marked}
use Rattle.cc_model.specs.Sweep.{unmarked, sweep, collect_scripts}
use Rattle.cc_model.specs.StandsFor.{shape_at, shape_of_held_script}
use Rattle.cc_laws_heap.specs.Sound.{IsSound}
use Rattle.cc_laws_heap.specs.Rounds.{is_not_among, FreesNames}
use Rattle.cc_laws_heap.proofs.Face.{FreesNames-left, collect_scripts-frees, collect_scripts-sound, collecting-keeps, entry-named, is_entry_of-parts, is_not_among-from, is_spared_entry, left-stays, round-entries, round-frees, round-natives, round-scripts, round-sound, spared-from, value_in-filter}
use Rattle.cc_laws_snapshot.proofs.Face.{native-edge, native_edges-alike, reached-kept, reached-there, script-edge, script-place}
use Rattle.cc_laws_run.proofs.Face.{round-keeps}
use Rattle.cc_gc.specs.Sparing.{KeepsWhatIsReached, SparesWhatIsReached}
use Rattle.cc_gc.proofs.Sparing.{HoldsNoMore, no_more-reached, native-shape, script-shape, keeps-same, keeps-then, unreached-after}

-- A round

module _ {owned : List ℕ} (h : Heap) (s : IsSound owned h) where
  -- the heaps after a round
  abbrev next : Heap
  next = (sweep (marked h)).heap

  -- they are sound
  next-sound : IsSound owned next
  next-sound = round-sound h s

  -- they hold nothing more
  round-no_more : HoldsNoMore h next
  round-no_more = record {
    registers = λ x m. subst (λ xs. Among x xs) registers m;
    edges = λ x y e. ⊎_elim
        (λ l.
        let f = Among-flat_map_cases native_edges next.natives (x, y) l in
        let p = round-natives h s f.0 f.1 in
        native-edge h p.0 x y p.1 (subst (λ es. Among (x, y) es) (sym (native_edges-alike p.0 f.0 p.2)) f.2))
        (λ r.
        let f = Among-flat_map_cases script_edges next.scripts (x, y) r in
        let p = round-scripts h f.0 f.1 in
        let edges : script_edges p.0 ≡ script_edges f.0 = ap script_edges p.2 in
        script-edge h p.0 x y p.1 (subst (λ es. Among (x, y) es) (sym edges) f.2))
        (Among-append (x, y) (flat_map native_edges next.natives) (flat_map script_edges next.scripts) e);
    entries = λ e m. Among-filtered (is_spared_entry (unmarked (marked h))) e h.entries (subst (λ es. Among e es) (round-entries h s) m);
  }
    where
      registers : (view next).registers ≡ (view h).registers
      registers =
          let f = (round-frees h s).1 in
          ap (λ xs. contents xs ++ contents next.script_registers) f.native_registers ∙ ap (λ xs. contents h.native_registers ++ contents xs) f.script_registers

  -- what was reached is there
  round-there : (x : Name) → ReachedIn (view h) x → Among x (names_there next)
  round-there x r = reached-there next next-sound.well_formed x (reached-kept h next next-sound.well_formed (round-keeps h s) x r)

  -- a script object that is reached was marked
  reached-marked : (x : Name) → is_script x ≡ true → ReachedIn (view h) x → ¬ (Among x (unmarked (marked h)))
  reached-marked x script r = left-stays (marked h) x (script-place next x script (round-there x r))

  -- a native that is left has its shape
  left-native : (x : Name) → Among x (native_names next) → shape_at next x ≡ shape_at h x
  left-native x m =
      let f = Among-map_cases (λ (n : HeapNative). native n.number) next.natives x m in
      subst (λ z. shape_at next z ≡ shape_at h z) f.2
      (native-shape h next s.well_formed next-sound.well_formed f.0 f.1 (round-natives h s f.0 f.1))

  -- so has a script object
  left-script : (x : Name) → Among x (script_names next) → shape_at next x ≡ shape_at h x
  left-script x m =
      let f = Among-map_cases (λ (o : HeapScript). o.name) next.scripts x m in
      let p = round-scripts h f.0 f.1 in
      subst (λ z. shape_at next z ≡ shape_at h z) f.2
      (script-shape h next s.well_formed next-sound.well_formed p.0 f.0 p.1 f.1 (ap (λ (o : HeapScript). o.name) p.2) (ap shape_of_held_script p.2))

  -- A ROUND KEEPS WHAT IS REACHED.
  round-keeps_reached : KeepsWhatIsReached h (sweep (marked h)).heap
  round-keeps_reached = record {
    native_registers = (round-frees h s).1.native_registers;
    script_registers = (round-frees h s).1.script_registers;
    alike = λ x. (reached-kept h next next-sound.well_formed (round-keeps h s) x, no_more-reached h next round-no_more x);
    there = round-there;
    shape = λ x r. ⊎_elim (left-native x) (left-script x) (Among-append x (native_names next) (script_names next) (round-there x r));
    value = λ m k a b.
        ap (λ es. value_in es m k) (round-entries h s)
        ∙ value_in-filter (is_spared_entry (unmarked (marked h))) h.entries m k (λ e i is_it.
        let p = is_entry_of-parts m k e is_it in
        let named = entry-named h s.well_formed e i in
        spared-from (unmarked (marked h)) e
        (reached-marked e.the_map named.0 (subst (ReachedIn (view h)) (sym p.0) a))
        (reached-marked e.key named.1 (subst (ReachedIn (view h)) (sym p.1) b)));
  }

-- Rounds

module _ {owned : List ℕ} (h : Heap) (s : IsSound owned h) where
  -- A SCRIPT COLLECTION KEEPS WHAT IS REACHED,
  pub collect_scripts-keeps : KeepsWhatIsReached h (collect_scripts h).heap
  collect_scripts-keeps = collecting-keeps (λ o. KeepsWhatIsReached h o.heap)
      (λ o c k. keeps-then h o.heap (sweep (marked o.heap)).heap k (round-keeps_reached o.heap c)) h s (keeps-same h s.well_formed)

  -- and what it tells spares it.
  pub collect_scripts-spares : SparesWhatIsReached h (collect_scripts h).heap (collect_scripts h).events
  collect_scripts-spares = record {
    unlinked = λ x m. absurd (none (Unlinked x) x refl m);
    freed = λ x m. unreached-after h end collect_scripts-keeps x (λ r. (left x (reached-there end (collect_scripts-sound h s).well_formed x r)).1 (freed_of x m));
    left = λ x. (
      λ m. let l = left x m in (l.0, λ i. l.1 (freed_of x i)),
      λ p. ⊎_elim
          (λ l. Among-left x (native_names end) (script_names end) (subst (Among x) (sym f.natives) (still x (native_names h) l p.1)))
          (λ r. Among-right x (native_names end) (script_names end) (subst (Among x) (sym f.scripts) (still x (script_names h) r p.1)))
          (Among-append x (native_names h) (script_names h) p.0),
    );
  }
    where
      end : Heap
      end = (collect_scripts h).heap

      xs : List Name
      xs = (collect_scripts-frees h s).0

      f : FreesNames h xs (collect_scripts h)
      f = (collect_scripts-frees h s).1

      left : (x : Name) → Among x (names_there end) → Among x (names_there h) × (¬ (Among x xs))
      left x m = FreesNames-left h xs (collect_scripts h) f x m

      freed_of : (x : Name) → Among (Freed x) (collect_scripts h).events → Among x xs
      freed_of x m =
          let k = Among-map_cases Freed xs (Freed x) (subst (Among (Freed x)) f.told m) in
          let same : k.0 ≡ x = cc in
          subst (λ y. Among y xs) same k.1

      none : (e : Event) (x : Name) → e ≡ Unlinked x → ¬ (Among e (collect_scripts h).events)
      none e x u m = let k = Among-map_cases Freed xs e (subst (Among e) f.told m) in absurd (cc)

      still : (x : Name) (ys : List Name) → Among x ys → ¬ (Among (Freed x) (collect_scripts h).events) → Among x (filter (is_not_among xs) ys)
      still x ys m d = Among-filter (is_not_among xs) x ys m
          (is_not_among-from xs x (λ i. d (subst (Among (Freed x)) (sym f.told) (Among-map Freed x xs i))))

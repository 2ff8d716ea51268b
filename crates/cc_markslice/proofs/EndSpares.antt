-- THE END OF A MARKING SPARES what registers reach, and what script registers and natives lead to.
use Rattle.std.proofs.Common.{◌≡◌, ℕ, true, List, ◌++◌, refl, sym, ◌∙◌, ap, subst, ⊎_elim}
use Rattle.std.proofs.lemmas.Bool.{false≢true}
use Rattle.std.specs.List.{filter, flat_map}
use Rattle.cc_lists.specs.Members.{Among}
use Rattle.cc_lists.proofs.Members.{Among-map, Among-map_cases, Among-left, Among-right, Among-append, Among-filter, Among-filtered, Among-flat_map_cases}
use Rattle.cc_lists.proofs.Closure.{closure-derived}
use Rattle.cc_names.specs.declared.name.Name.{Name}
use Rattle.cc_names.specs.Names.{native, same_name, is_script}
use Rattle.cc_names.proofs.NameTests.{same_name-exact}
use Rattle.cc_model.specs.declared.item.Event.{Event}
use Rattle.cc_model.specs.declared.item.Event.TheVariants.{Unlinked, Freed}
use Rattle.cc_model.specs.Slots.{contents}
use Rattle.cc_model.specs.Entries.{joints, value_in}
use Rattle.cc_model.specs.Exposure.{slots_of_scripts}
use Rattle.cc_model.specs.Heap.{Heap, HeapNative, HeapScript, Outcome}
use Rattle.cc_model.specs.View.{view, native_edges, script_edges, ReachedIn}
use Rattle.cc_model.specs.WellFormed.{IsWellFormed, native_names, script_names, names_there}
use Rattle.cc_model.specs.Colours.{IsBlack, IsMarked, black_names, black_rules, coloured_by, scripts_held}
use Rattle.cc_model.specs.Sweep.{unmarked, sweep}
use Rattle.cc_model.specs.StandsFor.{shape_at, shape_of_held_script}
use Rattle.cc_model.specs.Marking.{NewMarks, blacks_by_mark, ended_marks, marks_by_mark}
use Rattle.cc_model.proofs.Joints.{derived-by_joints}
use Rattle.cc_laws_heap.specs.Sound.{IsSound}
use Rattle.cc_laws_heap.specs.Marks.{AreMarksClosed, Stays}
use Rattle.cc_laws_heap.specs.Rounds.{is_not_among, FreesNames}
use Rattle.cc_laws_heap.specs.UnderMarking.{IsUnderMarking}
use Rattle.cc_laws_heap.proofs.Face.{FreesNames-left, entry-named, is_entry_of-parts, is_not_among-from, is_spared, is_spared_entry, left-stays, scripts-sweep, spared-from, sweep-sound, value_in-filter}
use Rattle.cc_laws_heap.proofs.FreedNames.{FreesNames-alike}
use Rattle.cc_laws_heap.proofs.MarkingEnded.{AreMarksClosed-ended, by_new_marks, edges-kept}
use Rattle.cc_laws_heap.proofs.MarkingKeeps.{IsSound-coloured, as_coloured, script_names-coloured}
use Rattle.cc_laws_heap.proofs.RoundParts.{sweep-natives, sweep-scripts}
use Rattle.cc_laws_heap.proofs.Swept.{entries-sweep, sweep-frees, taken-sweep}
use Rattle.cc_laws_snapshot.proofs.Face.{native-edge, native_edges-alike, reached-kept, reached-there, script-edge, script-place}
use Rattle.cc_laws_snapshot.proofs.ReachedStays.{KeepsReached}
use Rattle.cc_laws_marking.proofs.Face.{edges-coloured}
use Rattle.cc_laws_run.proofs.QuietRounds.{sweep-keeps}
use Rattle.cc_gc.specs.Sparing.{KeepsWhatIsReached, SparesWhatIsReached}
use Rattle.cc_gc.proofs.Sparing.{HoldsNoMore, no_more-reached, native-shape, script-shape, unreached-after}
use Rattle.cc_markslice.specs.Stepping.{SparesWhatIsMarked}

-- Objects taken out

module _ (h : Heap) (xs : List Name) (o : Outcome) (f : FreesNames h xs o) where
  -- what is told as freed is among them
  freed_of : (x : Name) → Among (Freed x) o.events → Among x xs
  freed_of x m =
      let k = Among-map_cases Freed xs (Freed x) (subst (Among (Freed x)) f.told m) in
      let same : k.0 ≡ x = cc in
      subst (λ y. Among y xs) same k.1

  -- and nothing is told but that
  none : (e : Event) (x : Name) → e ≡ Unlinked x → ¬ (Among e o.events)
  none e x u m = let k = Among-map_cases Freed xs e (subst (Among e) f.told m) in absurd (cc)

  -- what is not told as freed is left
  still : (x : Name) (ys : List Name) → Among x ys → ¬ (Among (Freed x) o.events) → Among x (filter (is_not_among xs) ys)
  still x ys m d = Among-filter (is_not_among xs) x ys m
      (is_not_among-from xs x (λ i. d (subst (Among (Freed x)) (sym f.told) (Among-map Freed x xs i))))

  -- WHAT IS TOLD SPARES WHAT IS REACHED, where that stays.
  frees-spares : KeepsWhatIsReached h o.heap → IsWellFormed o.heap → SparesWhatIsReached h o.heap o.events
  frees-spares keeps w = record {
    unlinked = λ x m. absurd (none (Unlinked x) x refl m);
    freed = λ x m. unreached-after h o.heap keeps x (λ r. (FreesNames-left h xs o f x (reached-there o.heap w x r)).1 (freed_of x m));
    left = λ x. (
      λ m. let l = FreesNames-left h xs o f x m in (l.0, λ i. l.1 (freed_of x i)),
      λ p. ⊎_elim
          (λ l. Among-left x (native_names o.heap) (script_names o.heap) (subst (Among x) (sym f.natives) (still x (native_names h) l p.1)))
          (λ r. Among-right x (native_names o.heap) (script_names o.heap) (subst (Among x) (sym f.scripts) (still x (script_names h) r p.1)))
          (Among-append x (native_names h) (script_names h) p.0),
    );
  }

-- Heaps with other colours, of which the marks are closed, once they are swept

module _ {owned : List ℕ} (blacks marks : List Name) (h : Heap) (c : AreMarksClosed (coloured_by blacks marks h)) (s : IsSound owned h) where
  abbrev painted : Heap
  painted = coloured_by blacks marks h

  abbrev next : Heap
  next = (sweep painted).heap

  -- other colours keep the heaps sound
  painted-sound : IsSound owned painted
  painted-sound = IsSound-coloured blacks marks h s

  -- and a sweep of closed marks does
  next-sound : IsSound owned next
  next-sound = sweep-sound painted c painted-sound

  -- what is told is what is taken out
  painted-frees : FreesNames h (taken-sweep painted painted-sound).0 (sweep painted)
  painted-frees = FreesNames-alike h painted.scripts h.entries (taken-sweep painted painted-sound).0 (sweep painted)
      (script_names-coloured blacks marks h) (sweep-frees painted painted-sound)

  -- a script object that is left was there, but for its colour
  script-before : (o : HeapScript) → Among o next.scripts → (p : HeapScript) × Among p h.scripts × (as_coloured blacks marks p ≡ o)
  script-before o m = Among-map_cases (as_coloured blacks marks) h.scripts o (sweep-scripts painted o m)

  -- the heaps hold nothing more
  swept-no_more : HoldsNoMore h next
  swept-no_more = record {
    registers = λ x m. subst (λ xs. Among x xs) registers m;
    edges = λ x y e. ⊎_elim
        (λ l.
        let f = Among-flat_map_cases native_edges next.natives (x, y) l in
        let p = sweep-natives painted painted-sound f.0 f.1 in
        native-edge h p.0 x y p.1 (subst (λ es. Among (x, y) es) (sym (native_edges-alike p.0 f.0 p.2)) f.2))
        (λ r.
        let f = Among-flat_map_cases script_edges next.scripts (x, y) r in
        let p = script-before f.0 f.1 in
        let edges : script_edges p.0 ≡ script_edges f.0 = ap script_edges p.2 in
        script-edge h p.0 x y p.1 (subst (λ es. Among (x, y) es) (sym edges) f.2))
        (Among-append (x, y) (flat_map native_edges next.natives) (flat_map script_edges next.scripts) e);
    entries = λ e m. Among-filtered (is_spared_entry (unmarked painted)) e h.entries (subst (λ es. Among e es) (entries-sweep painted painted-sound) m);
  }
    where
      registers : (view next).registers ≡ (view h).registers
      registers =
          ap (λ xs. contents xs ++ contents next.script_registers) painted-frees.native_registers
          ∙ ap (λ xs. contents h.native_registers ++ contents xs) painted-frees.script_registers

  -- with other colours they hold what they held
  painted-holds : HoldsNoMore painted h
  painted-holds = record {
    registers = λ x m. m;
    edges = λ x y e. subst (λ es. Among (x, y) es) (sym (edges-coloured blacks marks h)) e;
    entries = λ e m. m;
  }

  -- a sweep of closed marks keeps what is reached
  swept-keeps : KeepsReached h next
  swept-keeps =
      let k = sweep-keeps painted c painted-sound in
      record {
        registers = k.registers;
        edges = λ x y r there e. k.edges x y (no_more-reached painted h painted-holds x r) there (subst (λ es. Among (x, y) es) (sym (edges-coloured blacks marks h)) e);
        joints = k.joints;
      }

  -- what was reached is there
  swept-there : (x : Name) → ReachedIn (view h) x → Among x (names_there next)
  swept-there x r = reached-there next next-sound.well_formed x (reached-kept h next next-sound.well_formed swept-keeps x r)

  -- a script object that is reached was marked
  reached-marked : (x : Name) → is_script x ≡ true → ReachedIn (view h) x → Stays painted x
  reached-marked x script r = left-stays painted x (script-place next x script (swept-there x r))

  -- a native that is left has its shape
  left-native : (x : Name) → Among x (native_names next) → shape_at next x ≡ shape_at h x
  left-native x m =
      let f = Among-map_cases (λ (n : HeapNative). native n.number) next.natives x m in
      subst (λ z. shape_at next z ≡ shape_at h z) f.2
      (native-shape h next s.well_formed next-sound.well_formed f.0 f.1 (sweep-natives painted painted-sound f.0 f.1))

  -- so has a script object
  left-script : (x : Name) → Among x (script_names next) → shape_at next x ≡ shape_at h x
  left-script x m =
      let f = Among-map_cases (λ (o : HeapScript). o.name) next.scripts x m in
      let p = script-before f.0 f.1 in
      subst (λ z. shape_at next z ≡ shape_at h z) f.2
      (script-shape h next s.well_formed next-sound.well_formed p.0 f.0 p.1 f.1 (ap (λ (o : HeapScript). o.name) p.2) (ap shape_of_held_script p.2))

  -- WHAT IS REACHED STAYS AS IT WAS.
  swept-keeps_reached : KeepsWhatIsReached h (sweep (coloured_by blacks marks h)).heap
  swept-keeps_reached = record {
    native_registers = painted-frees.native_registers;
    script_registers = painted-frees.script_registers;
    alike = λ x. (reached-kept h next next-sound.well_formed swept-keeps x, no_more-reached h next swept-no_more x);
    there = swept-there;
    shape = λ x r. ⊎_elim (left-native x) (left-script x) (Among-append x (native_names next) (script_names next) (swept-there x r));
    value = λ m k a b.
        ap (λ es. value_in es m k) (entries-sweep painted painted-sound)
        ∙ value_in-filter (is_spared_entry (unmarked painted)) h.entries m k (λ e i is_it.
        let p = is_entry_of-parts m k e is_it in
        let named = entry-named h s.well_formed e i in
        spared-from (unmarked painted) e
        (reached-marked e.the_map named.0 (subst (ReachedIn (view h)) (sym p.0) a))
        (reached-marked e.key named.1 (subst (ReachedIn (view h)) (sym p.1) b)));
  }

  -- A script object that stays is left,
  script-left : (x : Name) → Among x (script_names h) → Stays painted x → Among x (script_names next)
  script-left x m stays =
      let f = Among-map_cases (λ (o : HeapScript). o.name) painted.scripts x (subst (Among x) (sym (script_names-coloured blacks marks h)) m) in
      let left : Among f.0 next.scripts = subst (Among f.0) (sym (scripts-sweep painted)) (Among-filter (is_spared (unmarked painted)) f.0 painted.scripts f.1
      (is_not_among-from (unmarked painted) f.0.name (λ i. stays (subst (λ y. Among y (unmarked painted)) f.2 i)))) in
      subst (λ y. Among y (script_names next)) f.2 (Among-map (λ (o : HeapScript). o.name) f.0 next.scripts left)

  -- what is told spares what is reached,
  swept-spares : SparesWhatIsReached h (sweep (coloured_by blacks marks h)).heap (sweep (coloured_by blacks marks h)).events
  swept-spares = frees-spares h (taken-sweep painted painted-sound).0 (sweep painted) painted-frees swept-keeps_reached next-sound.well_formed

  -- and each script object that stays
  stays-spared : (x : Name) → is_script x ≡ true → Stays painted x → ¬ (Among (Freed x) (sweep (coloured_by blacks marks h)).events)
  stays-spared x script stays i = ⊎_elim
      (λ l. let f = Among-map_cases (λ (n : HeapNative). native n.number) h.natives x l in false≢true (subst (λ y. is_script y ≡ true) (sym f.2) script))
      (λ r. ((swept-spares.left x).0 (Among-right x (native_names next) (script_names next) (script-left x r stays))).1 i)
      (Among-append x (native_names h) (script_names h)
      (painted-frees.were_there x (freed_of h (taken-sweep painted painted-sound).0 (sweep painted) painted-frees x i)))

-- The end

module _ {owned : List ℕ} (h : Heap) (m : NewMarks) (s : IsSound owned h) (u : IsUnderMarking h m) where
  closed : AreMarksClosed (coloured_by (blacks_by_mark h m) (marks_by_mark h m) h)
  closed = AreMarksClosed-ended h m s u

  -- AN END KEEPS WHAT IS REACHED,
  pub ended-keeps : KeepsWhatIsReached h (ended_marks h m).heap
  unfolding ended_marks
  ended-keeps = swept-keeps_reached (blacks_by_mark h m) (marks_by_mark h m) h closed s

  -- AND WHAT IT TELLS SPARES IT.
  pub ended-spares : SparesWhatIsReached h (ended_marks h m).heap (ended_marks h m).events
  unfolding ended_marks
  ended-spares = swept-spares (blacks_by_mark h m) (marks_by_mark h m) h closed s

  -- what something that stays holds stays
  edge-stays : (x y : Name) → Among (x, y) (slots_of_scripts h) → Stays (by_new_marks h m) x → Stays (by_new_marks h m) y
  edge-stays x y e = closed.edges x y (subst (Among (x, y)) (sym (edges-kept h m)) e)

  -- what is black by the least sets stays
  black-stays : (x : Name) → IsBlack h x → Stays (by_new_marks h m) x
  black-stays = derived-by_joints (contents h.script_registers) (slots_of_scripts h) (joints h.entries) (Stays (by_new_marks h m)) closed.registers edge-stays closed.joints

  -- what is marked by the least sets stays
  marked-stays : (x : Name) → IsMarked h x → Stays (by_new_marks h m) x
  marked-stays = derived-by_joints (black_names h ++ scripts_held h) (slots_of_scripts h) (joints h.entries) (Stays (by_new_marks h m))
      (λ x i. ⊎_elim
      (λ black. black-stays x (closure-derived same_name same_name-exact (black_rules h) x black))
      (λ held. closed.held x held)
      (Among-append x (black_names h) (scripts_held h) i))
      edge-stays closed.joints

  -- WHAT SCRIPT REGISTERS AND NATIVES LEAD TO IS NOT FREED.
  pub ended-spares_marked : SparesWhatIsMarked h (ended_marks h m).events
  unfolding ended_marks
  ended-spares_marked x script d = stays-spared (blacks_by_mark h m) (marks_by_mark h m) h closed s x script (marked-stays x d)

  -- what is left was there
  pub ended-natives : (x : Name) → Among x (native_names (ended_marks h m).heap) → Among x (native_names h)
  unfolding ended_marks
  ended-natives x i =
      let f = painted-frees (blacks_by_mark h m) (marks_by_mark h m) h closed s in
      Among-filtered (is_not_among (taken-sweep (by_new_marks h m) (painted-sound (blacks_by_mark h m) (marks_by_mark h m) h closed s)).0) x (native_names h)
      (subst (Among x) f.natives i)

  pub ended-scripts : (x : Name) → Among x (script_names (ended_marks h m).heap) → Among x (script_names h)
  unfolding ended_marks
  ended-scripts x i =
      let f = painted-frees (blacks_by_mark h m) (marks_by_mark h m) h closed s in
      Among-filtered (is_not_among (taken-sweep (by_new_marks h m) (painted-sound (blacks_by_mark h m) (marks_by_mark h m) h closed s)).0) x (script_names h)
      (subst (Among x) f.scripts i)

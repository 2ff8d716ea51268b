-- WHAT THE END OF A MARKING SPARES: what is marked by the least sets, so what script registers and natives lead to.
use Rattle.std.proofs.Common.{◌≡◌, true, [], ◌++◌, sym, subst, ⊎_elim}
use Rattle.std.proofs.lemmas.Bool.{false≢true}
use Rattle.cc_lists.specs.Members.{Among}
use Rattle.cc_lists.proofs.Members.{Among-map, Among-map_cases, Among-right, Among-append, Among-filter, Among-flat_map}
use Rattle.cc_lists.proofs.Least.{derive-root}
use Rattle.cc_lists.proofs.Closure.{closure-derived}
use Rattle.cc_names.specs.declared.name.Name.{Name}
use Rattle.cc_names.specs.Names.{native, same_name, is_script}
use Rattle.cc_names.proofs.NameTests.{same_name-exact}
use Rattle.cc_model.specs.declared.item.Event.TheVariants.{Freed}
use Rattle.cc_model.specs.Slots.{contents}
use Rattle.cc_model.specs.Entries.{joints, rules_of}
use Rattle.cc_model.proofs.Joints.{derived-by_joints}
use Rattle.cc_model.specs.Heap.{Heap, HeapNative, HeapScript}
use Rattle.cc_model.specs.Places.{places_of_native}
use Rattle.cc_model.specs.Exposure.{slots_of_scripts}
use Rattle.cc_model.specs.Colours.{black_rules, IsBlack, black_names, scripts_held, scripts_held_by, IsMarked}
use Rattle.cc_model.specs.Sweep.{sweep, unmarked}
use Rattle.cc_model.specs.WellFormed.{native_names, script_names, names_there}
use Rattle.cc_model.specs.Marking.{NewMarks, blacks_by_mark, marks_by_mark, ended_marks}
use Rattle.cc_laws_heap.specs.Sound.{IsSound}
use Rattle.cc_laws_heap.specs.Marks.{Stays, AreMarksClosed}
use Rattle.cc_laws_heap.specs.UnderMarking.{IsUnderMarking}
use Rattle.cc_laws_heap.proofs.NameLists.{is_not_among-from}
use Rattle.cc_laws_heap.proofs.MarkedWellFormed.{is_spared}
use Rattle.cc_laws_heap.proofs.MarkingKeeps.{IsSound-coloured}
use Rattle.cc_laws_heap.proofs.Swept.{scripts-sweep, taken-sweep, sweep-frees}
use Rattle.cc_laws_heap.proofs.RoundsStand.{freed-left}
use Rattle.cc_laws_heap.proofs.MarkingEnded.{by_new_marks, edges-kept, AreMarksClosed-ended}

-- A sweep

-- what a sweep frees was there
freed-there : (h : Heap) → IsSound [] h → (x : Name) → Among (Freed x) (sweep h).events → Among x (names_there h)
freed-there h s x i =
    let f = sweep-frees h s in
    let k = Among-map_cases Freed (taken-sweep h s).0 (Freed x) (subst (Among (Freed x)) f.told i) in
    let same : k.0 ≡ x = cc in
    subst (λ y. Among y (names_there h)) same (f.were_there k.0 k.1)

-- a script object that is spared is there after a sweep
spared-there : (h : Heap) → IsSound [] h → (x : Name) → Among x (script_names h) → Stays h x → Among x (names_there (sweep h).heap)
spared-there h s x m stays =
    let f = Among-map_cases (λ (o : HeapScript). o.name) h.scripts x m in
    let left : Among f.0 (sweep h).heap.scripts = subst (Among f.0) (sym (scripts-sweep h)) (Among-filter (is_spared (unmarked h)) f.0 h.scripts f.1
    (is_not_among-from (unmarked h) f.0.name (λ i. stays (subst (λ y. Among y (unmarked h)) f.2 i)))) in
    Among-right x (native_names (sweep h).heap) (script_names (sweep h).heap)
    (subst (λ y. Among y (script_names (sweep h).heap)) f.2 (Among-map (λ (o : HeapScript). o.name) f.0 (sweep h).heap.scripts left))

-- A script object that a sweep frees is one that does not stay.
pub freed-not_stays : (h : Heap) → IsSound [] h → (x : Name) → is_script x ≡ true → Among (Freed x) (sweep h).events → ¬ (Stays h x)
freed-not_stays h s x script i stays = ⊎_elim
    (λ l. let f = Among-map_cases (λ (n : HeapNative). native n.number) h.natives x l in false≢true (subst (λ y. is_script y ≡ true) (sym f.2) script))
    (λ r. freed-left h (sweep h) (taken-sweep h s).0 (sweep-frees h s) x i (spared-there h s x r stays))
    (Among-append x (native_names h) (script_names h) (freed-there h s x i))

-- The end of a marking

module _ (h : Heap) (m : NewMarks) (s : IsSound [] h) (u : IsUnderMarking h m) where
  -- its marks are closed
  closed : AreMarksClosed (by_new_marks h m)
  closed = AreMarksClosed-ended h m s u

  -- what something that stays holds stays
  edge-stays : (x y : Name) → Among (x, y) (slots_of_scripts h) → Stays (by_new_marks h m) x → Stays (by_new_marks h m) y
  edge-stays x y e = closed.edges x y (subst (Among (x, y)) (sym (edges-kept h m)) e)

  -- what is black by the least sets stays
  black-stays : (x : Name) → IsBlack h x → Stays (by_new_marks h m) x
  black-stays = derived-by_joints (contents h.script_registers) (slots_of_scripts h) (joints h.entries) (Stays (by_new_marks h m)) closed.registers edge-stays closed.joints

  -- what is marked by the least sets stays
  marked-stays : (x : Name) → IsMarked h x → Stays (by_new_marks h m) x
  marked-stays = derived-by_joints (black_names h ++ scripts_held h) (slots_of_scripts h) (joints h.entries) (Stays (by_new_marks h m))
      (λ x i. ⊎_elim
      (λ black. black-stays x (closure-derived same_name same_name-exact (black_rules h) x black))
      (λ held. closed.held x held)
      (Among-append x (black_names h) (scripts_held h) i))
      edge-stays closed.joints

  -- WHAT AN END SWEEPS IS NOT MARKED by the least sets.
  pub ended-not_marked : (x : Name) → is_script x ≡ true → Among (Freed x) (ended_marks h m).events → ¬ (IsMarked h x)
  unfolding ended_marks
  ended-not_marked x script i d =
      freed-not_stays (by_new_marks h m) (IsSound-coloured (blacks_by_mark h m) (marks_by_mark h m) h s) x script i (marked-stays x d)

  -- AN END SWEEPS NOTHING THAT A NATIVE HOLDS.
  pub ended-held : (n : HeapNative) (x : Name) → Among n h.natives → is_script x ≡ true → Among x (contents (places_of_native n)) →
      ¬ (Among (Freed x) (ended_marks h m).events)
  ended-held n x there script held i = ended-not_marked x script i
      (derive-root (black_names h ++ scripts_held h) (slots_of_scripts h) (rules_of (joints h.entries)) x
      (Among-right x (black_names h) (scripts_held h)
      (Among-flat_map scripts_held_by n x h.natives there (Among-filter is_script x (contents (places_of_native n)) held script))))

-- WHAT A SCRIPT COLLECTION LEAVES has all that registers and holding natives have, and that edges and entries pass on.
use Rattle.std.proofs.Common.{◌≡◌, ◌≤◌, ℕ, List, [], ◌++◌, refl, sym, subst, arith, ⊎_elim, count_by}
use Rattle.std.proofs.lemmas.Bool.{cases_lt}
use Rattle.cc_model.specs.Places.{places_of_native}
use Rattle.cc_lists.specs.Members.{Among}
use Rattle.cc_lists.proofs.Members.{Among-map, Among-map_cases, Among-right, Among-append, Among-filtered, Among-flat_map_cases}
use Rattle.cc_lists.proofs.Counting.{counted_is}
use Rattle.cc_lists.proofs.Closure.{closure-derived}
use Rattle.cc_names.specs.declared.name.Name.{Name}
use Rattle.cc_names.specs.declared.name.Name.TheVariants as name
use Rattle.cc_names.specs.Names.{native, same_name, is_script}
use Rattle.cc_names.proofs.NameTests.{same_name-true, same_name-exact}
use Rattle.cc_model.specs.Slots.{contents, from_to}
use Rattle.cc_model.specs.Entries.{joints, Joint}
use Rattle.cc_model.specs.Heap.{Heap, HeapNative}
use Rattle.cc_model.specs.View.{view, counted, to}
use Rattle.cc_model.specs.WellFormed.{native_names, script_names, names_there}
use Rattle.cc_model.specs.Exposure.{slots_of_scripts}
use Rattle.cc_model.specs.Colours.{HasColours, IsBlack, IsMarked, black_rules, black_names, scripts_held_by, scripts_held}
use Rattle.cc_model.specs.Sweep.{unmarked, collect_scripts}
use Rattle.cc_model.proofs.Joints.{derived-by_joints}
use Rattle.cc_laws_heap.specs.Sound.{IsSound}
use Rattle.cc_laws_heap.proofs.MarkedKept.{marked-other}
use Rattle.cc_laws_heap.proofs.CollectedColours.{collect_scripts-sound, collect_scripts-colours, collect_scripts-unmarked}
use Rattle.cc_laws_snapshot.proofs.SoundView.{IsSound-view, script-place}
use Rattle.cc_laws_snapshot.proofs.ReachedStays.{native-edge}
use Rattle.cc_laws_run.proofs.DoomedBegin.{edge-there, slot-edge}

-- what registers have, and natives that hold something, is passed on over edges and entries
pub record PassesOn (h : Heap) (P : Name → Type 0) : Type 0 where
  pub registers : (x : Name) → Among x (view h).registers → P x
  pub holder : (k : ℕ) (y : Name) → Among (native k, y) (view h).edges → P (native k)
  pub edges : (x y : Name) → Among (x, y) (view h).edges → P x → P y
  pub joints : (j : Joint) → Among j (joints h.entries) → P j.the_map → P j.key → P j.value

module _ (h : Heap) (s : IsSound [] h) (c : HasColours h) (none : unmarked h ≡ []) (P : Name → Type 0) (p : PassesOn h P) where
  -- what is black has it
  black-has : (x : Name) → IsBlack h x → P x
  black-has = derived-by_joints (contents h.script_registers) (slots_of_scripts h) (joints h.entries) P
      (λ x m. p.registers x (Among-right x (contents h.native_registers) (contents h.script_registers) m))
      (λ x y e k. p.edges x y (slot-edge h x y e) k)
      p.joints

  -- what a native holds has it
  held-has : (y : Name) → Among y (scripts_held h) → P y
  held-has y m =
      let f = Among-flat_map_cases scripts_held_by h.natives y m in
      let places : List Name = contents (places_of_native f.0) in
      let edge : Among (native f.0.number, y) (view h).edges =
      native-edge h f.0 (native f.0.number) y f.1 (Among-map (from_to (native f.0.number)) y places (Among-filtered is_script y places f.2)) in
      p.edges (native f.0.number) y edge (p.holder f.0.number y edge)

  -- what is marked has it
  marked-has : (x : Name) → IsMarked h x → P x
  marked-has = derived-by_joints (black_names h ++ scripts_held h) (slots_of_scripts h) (joints h.entries) P
      (λ x m. ⊎_elim
      (λ b. black-has x (closure-derived same_name same_name-exact (black_rules h) x b))
      (λ l. held-has x l)
      (Among-append x (black_names h) (scripts_held h) m))
      (λ x y e k. p.edges x y (slot-edge h x y e) k)
      p.joints

  -- a script object has it
  script-has : (x : Name) → Among x (script_names h) → P x
  script-has x m = marked-has x (marked-other h c x m (λ u. subst (λ xs. Among x xs) none u))

  -- what holds something has it
  holder-has : (x y : Name) → Among (x, y) (view h).edges → P x
  holder-has (name.Native i) y e = p.holder i.0 y e
  holder-has x y e = script-has x (script-place h x refl (edge-there h x y e))

  -- a native has a reference, so it has it, too
  native-has : (n : HeapNative) → Among n h.natives → P (native n.number)
  native-has n m =
      let u : Name = native n.number in
      let l : Among (u, n.count) (view h).natives = Among-map counted n h.natives m in
      let counts = (IsSound-view h s).counts u n.count l in
      let some : 1 ≤ n.count = s.none_zero n m in
      ⊎_elim
      (λ r.
      let f = counted_is (same_name u) (view h).registers r in
      p.registers u (subst (λ x. Among x (view h).registers) (sym (same_name-true u f.0 f.2)) f.1))
      (λ r.
      let f = counted_is (to u) (view h).edges (omega (arith, counts, some, r)) in
      let target : f.0.1 ≡ u = same_name-true f.0.1 u f.2 in
      subst P target (p.edges f.0.0 f.0.1 f.1 (holder-has f.0.0 f.0.1 f.1)))
      (cases_lt 0 (count_by (same_name u) (view h).registers))

  -- All that is there has it.
  there-has : (x : Name) → Among x (names_there h) → P x
  there-has x m = ⊎_elim
      (λ l. let f = Among-map_cases (λ (n : HeapNative). native n.number) h.natives x l in subst P f.2 (native-has f.0 f.1))
      (λ r. script-has x r)
      (Among-append x (native_names h) (script_names h) m)

-- ALL THAT A SCRIPT COLLECTION LEAVES has what is passed on in the heaps that it leaves.
pub collected-has : (h : Heap) (P : Name → Type 0) → IsSound [] h → PassesOn (collect_scripts h).heap P →
    (x : Name) → Among x (names_there (collect_scripts h).heap) → P x
collected-has h P s p x m = there-has (collect_scripts h).heap (collect_scripts-sound h s) (collect_scripts-colours h) (collect_scripts-unmarked h) P p x m

-- WHAT THE REGISTERS AND NATIVES LEAD TO STAYS in a sweep, where the marks are closed.
use Rattle.std.proofs.Common.{◌≡◌, ℕ, true, ◌++◌, sym, subst, ⊎_elim}
use Rattle.std.specs.List.{flat_map}
use Rattle.std.proofs.lemmas.Bool.{false≢true}
use Rattle.cc_lists.specs.Members.{Among}
use Rattle.cc_lists.proofs.Members.{Among-map_cases, Among-append, Among-flat_map_cases}
use Rattle.cc_names.specs.declared.name.Name.{Name}
use Rattle.cc_names.specs.Names.{native, is_script}
use Rattle.cc_model.specs.Slots.{contents}
use Rattle.cc_model.specs.Entries.{joints}
use Rattle.cc_model.specs.Graph.{Graph}
use Rattle.cc_model.specs.Given.{Given, living_names}
use Rattle.cc_model.specs.WellMade.{IsWellMade}
use Rattle.cc_model.specs.Heap.{Heap, HeapNative, HeapScript}
use Rattle.cc_model.specs.View.{view, native_edges, script_edges, LedFrom}
use Rattle.cc_model.specs.Sweep.{unmarked}
use Rattle.cc_model.specs.WellFormed.{IsWellFormed}
use Rattle.cc_model.specs.StandsFor.{StandsFor}
use Rattle.cc_model.proofs.Joints.{derived-by_joints}
use Rattle.cc_laws_heap.specs.Marks.{Stays, AreMarksClosed}
use Rattle.cc_laws_heap.proofs.ViewEdges.{native_edges-are, script_edges-are}
use Rattle.cc_laws_heap.proofs.ScriptNames.{script-named}
use Rattle.cc_laws_heap.proofs.ReachedAlike.{given-in}
use Rattle.cc_laws_heap.proofs.Given.{named-living}
use Rattle.cc_laws_heap.proofs.Led.{unmarked-white}
use Rattle.cc_laws_heap.proofs.MarksClosed.{stays-place, stays-held}

module _ (h : Heap) (w : IsWellFormed h) where
  -- an unmarked name is that of a script object
  unmarked-script : (x : Name) → Among x (unmarked h) → is_script x ≡ true
  unmarked-script x m = let f = unmarked-white h x m in subst (λ y. is_script y ≡ true) f.3 (script-named h w f.0 f.1)

  -- a native stays
  native-stays : (k : ℕ) → Stays h (native k)
  native-stays k m = false≢true (unmarked-script (native k) m)

module _ (h : Heap) (c : AreMarksClosed h) (w : IsWellFormed h) where
  -- what a register holds stays
  register-stays : (x : Name) → Among x (view h).registers → Stays h x
  register-stays x m = ⊎_elim
      (λ l. let f = Among-map_cases (λ (n : HeapNative). native n.number) h.natives x (w.native_registers x l) in
      subst (Stays h) f.2 (native-stays h w f.0.number))
      (λ r. c.registers x r)
      (Among-append x (contents h.native_registers) (contents h.script_registers) m)

  -- what a native refers to stays
  native_edge-stays : (n : HeapNative) (x y : Name) → Among n h.natives → Among (x, y) (native_edges n) → Stays h y
  native_edge-stays n x y m e i =
      stays-held h c n y m (subst (λ z. Among (z, y) (native_edges n)) (sym (native_edges-are n x y e).0) e) (unmarked-script h w y i) i

  -- what a script object that stays refers to stays
  script_edge-stays : (o : HeapScript) (x y : Name) → Among o h.scripts → Among (x, y) (script_edges o) → Stays h x → Stays h y
  script_edge-stays o x y m e d =
      let f = script_edges-are o x y e in
      ⊎_elim
      (λ i. stays-place h c o y m i (subst (Stays h) (sym f.0) d))
      (λ k. subst (Stays h) k.2 (native-stays h w k.0))
      f.1

  -- what something that stays refers to stays
  edge-stays : (x y : Name) → Among (x, y) (view h).edges → Stays h x → Stays h y
  edge-stays x y m d = ⊎_elim
      (λ l. let f = Among-flat_map_cases native_edges h.natives (x, y) l in native_edge-stays f.0 x y f.1 f.2)
      (λ r. let f = Among-flat_map_cases script_edges h.scripts (x, y) r in script_edge-stays f.0 x y f.1 f.2 d)
      (Among-append (x, y) (flat_map native_edges h.natives) (flat_map script_edges h.scripts) m)

  -- What the registers and natives lead to stays.
  given-stays : (x : Name) → LedFrom (view h) ((view h).registers ++ living_names h) x → Stays h x
  given-stays = derived-by_joints ((view h).registers ++ living_names h) (view h).edges (joints h.entries) (Stays h) start-stays edge-stays c.joints
    where
      start-stays : (x : Name) → Among x ((view h).registers ++ living_names h) → Stays h x
      start-stays x m = ⊎_elim (register-stays x)
          (λ l. let n = named-living h x l in subst (Stays h) n.3 (native-stays h w n.0.number))
          (Among-append x (view h).registers (living_names h) m)

-- WHAT IS GIVEN STAYS, where the heaps stand for the graph.
pub given-not_unmarked : (h : Heap) (g : Graph) → AreMarksClosed h → IsWellFormed h → IsWellMade g → StandsFor h g → (x : Name) → Given h g x → Stays h x
given-not_unmarked h g c w m s x d = given-stays h c w x (given-in h g w m s x d)

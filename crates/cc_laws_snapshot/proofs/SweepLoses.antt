-- A SWEEP LOSES, AND A SCRIPT COLLECTION DOES: each native that a swept reflector gave up is purple or gone.
use Rattle.std.proofs.Common.{arith, ◌≡◌, ℕ, not, List, [], ◌∷◌, ◌++◌, refl, sym, ◌∙◌, ap, inl, inr, ◌⊎◌, ⊎_elim}
use Rattle.std.specs.List.{flat_map}
use Rattle.std.proofs.lemmas.Bool.{cases_Bool}
use Rattle.cc_lists.specs.Members.{Among}
use Rattle.cc_lists.proofs.Members.{Among-left, Among-right, Among-append, Among-filter, Among-flat_map, Among-flat_map_cases}
use Rattle.cc_names.specs.declared.name.Name.{Name}
use Rattle.cc_names.specs.Names.{native, object, reflector, same_name, number_of}
use Rattle.cc_names.proofs.NameTests.{same_name-true}
use Rattle.cc_model.specs.declared.item.Event.{Event}
use Rattle.cc_model.specs.Entries.{Entry}
use Rattle.cc_model.specs.Heap.{Heap, HeapScript}
use Rattle.cc_model.specs.View.{view, native_edges, script_edges}
use Rattle.cc_model.specs.Colours.{marked}
use Rattle.cc_model.specs.Sweep.{unmarked, without_dead_entries, without_script, sweep, collect_scripts}
use Rattle.cc_model.specs.Suspected.{IsSuspected}
use Rattle.cc_laws_heap.specs.Sound.{IsSound}
use Rattle.cc_laws_heap.specs.Marks.{AreMarksClosed}
use Rattle.cc_laws_heap.specs.Stages.{Stage, stage, HoldNoNatives, Sweeping}
use Rattle.cc_laws_heap.specs.Stages.Sweeping.{swept_object, swept_reflector}
use Rattle.cc_lists.proofs.ListWrites.{flat_map-kept}
use Rattle.cc_laws_heap.proofs.Marking.{as_marked}
use Rattle.cc_laws_heap.proofs.MarkingKeeps.{IsSound-marked}
use Rattle.cc_laws_heap.proofs.Folding.{done-keeps}
use Rattle.cc_laws_heap.proofs.Swept.{taken-sweep, sweep-sound}
use Rattle.cc_laws_heap.proofs.CollectedColours.{collecting-keeps, collect_scripts-sound}
use Rattle.cc_laws_heap.proofs.ViewEdges.{script_edges-are}
use Rattle.cc_laws_snapshot.proofs.LoyalSuspected.{loyal-suspected, loses-loyal}
use Rattle.cc_laws_snapshot.proofs.LosesTo.{IsLost, LosesTo, LosesTo-refl, LosesTo-trans, LosesTo-loses}
use Rattle.cc_laws_snapshot.proofs.CascadeLoses.{LosesIn, losing-kept}

-- Marking changes no edge.
pub edges-marked : (h : Heap) → (view (marked h)).edges ≡ (view h).edges
unfolding marked
edges-marked h = ap (λ es. flat_map native_edges h.natives ++ es) (flat_map-kept script_edges (as_marked h) h.scripts (λ o. refl))

-- marking loses nothing
marked-loses : (h : Heap) → LosesTo (stage [] [] h) (stage [] [] (marked h))
unfolding marked
marked-loses h = grind (arith, edges-marked)

-- nothing is lost where entries change
entries-lose : (h : Heap) (es : List Entry) → LosesTo (stage [] [] h) (stage [] [] (record h { entries = es }))
entries-lose h es = record { lost = λ i p. p; edge = λ x i m. inl m; register = λ i m. inl m; buffer = λ i m. inl m; living = λ x l. l }

-- a script object taken out loses what it refers to as a reflector, which is in hand
swept-loses : (hand : List ℕ) (h : Heap) (x : Name) → HoldNoNatives h → ((i : ℕ) → x ≡ reflector i → Among i hand) →
    LosesTo (stage [] [] h) (stage hand [] (without_script h x))
swept-loses hand h x bare given = record {
  lost = λ i p. ⊎_elim (λ q. inl q) (λ q. ⊎_elim (λ w. absurd w) (λ m. absurd m) q) p;
  edge = λ y i m. ⊎_elim
      (λ l. inl (Among-left (y, native i) (flat_map native_edges h.natives) (flat_map script_edges end.heap.scripts) l))
      (λ r. let f = Among-flat_map_cases script_edges h.scripts (y, native i) r in of_script y i f.0 f.1 f.2)
      (Among-append (y, native i) (flat_map native_edges h.natives) (flat_map script_edges h.scripts) m);
  register = λ i m. inl m;
  buffer = λ i m. inl m;
  living = λ y l. l;
}
  where
    end : Stage
    end = stage hand [] (without_script h x)

    of_script : (y : Name) (i : ℕ) (o : HeapScript) → Among o h.scripts → Among (y, native i) (script_edges o) → Among (y, native i) (view end.heap).edges ⊎ IsLost end i
    of_script y i o m e = ⊎_elim
        (λ t. ⊎_elim
        (λ slot. absurd (bare o i m slot))
        (λ p. inr (inr (inr (given i (sym (same_name-true o.name x t) ∙ (p.1 ∙ ap (λ z. reflector (number_of z)) p.2))))))
        (script_edges-are o y (native i) e).1)
        (λ t. inl (Among-right (y, native i) (flat_map native_edges h.natives) (flat_map script_edges end.heap.scripts)
        (Among-flat_map script_edges o (y, native i) end.heap.scripts (Among-filter (λ p. not (same_name p.name x)) o h.scripts m (ap not t)) e)))
        (cases_Bool (same_name o.name x))

-- WHAT A SWEEP DOES ONLY LOSES, kind by kind.
sweeping-loses : (s : Stage) (es : List Event) (t : Stage) → Sweeping s es t → LosesTo s t
sweeping-loses _ _ _ (swept_object h k bare) = swept-loses [] h (object k) bare (λ i e. absurd (cc))
sweeping-loses _ _ _ (swept_reflector h k bare) = swept-loses (k ∷ []) h (reflector k) bare (λ i e. inl (ap number_of e))

-- A sweep loses.
sweep-loses : {owned : List ℕ} (h : Heap) → IsSound owned h → LosesTo (stage [] [] h) (stage [] [] (sweep h).heap)
sweep-loses h s =
    let g : Heap = without_dead_entries (unmarked h) h in
    let end : Stage = stage [] [] (sweep h).heap in
    LosesTo-trans (stage [] [] h) (stage [] [] g) end (entries-lose h g.entries)
    (done-keeps LosesIn Sweeping losing-kept sweeping-loses (stage [] [] g) (sweep h).events end (taken-sweep h s).3)

-- A SWEEP OF CLOSED MARKS KEEPS EVERY UNREACHED NATIVE SUSPECTED, where no collection runs.
pub sweep-suspected : {owned : List ℕ} (h : Heap) → AreMarksClosed h → IsSound owned h → IsSuspected (view h) [] → IsSuspected (view (sweep h).heap) []
sweep-suspected h c s suspected =
    let end : Heap = (sweep h).heap in
    let later = (sweep-sound h c s).well_formed in
    loyal-suspected h end [] s.well_formed later (loses-loyal (view h) (view end) (LosesTo-loses [] h end later (sweep-loses h s))) suspected

-- Rounds

-- A round loses.
round-loses : {owned : List ℕ} (h : Heap) → IsSound owned h → LosesTo (stage [] [] h) (stage [] [] (sweep (marked h)).heap)
round-loses {owned} h s = LosesTo-trans (stage [] [] h) (stage [] [] (marked h)) (stage [] [] (sweep (marked h)).heap) (marked-loses h)
    (sweep-loses (marked h) (IsSound-marked owned h s))

-- A script collection loses.
collect_scripts-loses : {owned : List ℕ} (h : Heap) → IsSound owned h → LosesTo (stage [] [] h) (stage [] [] (collect_scripts h).heap)
collect_scripts-loses h s = collecting-keeps (λ o. LosesTo (stage [] [] h) (stage [] [] o.heap))
    (λ o c l. LosesTo-trans (stage [] [] h) (stage [] [] o.heap) (stage [] [] (sweep (marked o.heap)).heap) l (round-loses o.heap c))
    h s (LosesTo-refl (stage [] [] h))

-- A SCRIPT COLLECTION KEEPS EVERY UNREACHED NATIVE SUSPECTED.
pub collect_scripts-suspected : {owned : List ℕ} (h : Heap) → IsSound owned h → IsSuspected (view h) [] → IsSuspected (view (collect_scripts h).heap) []
collect_scripts-suspected h s suspected =
    let end : Heap = (collect_scripts h).heap in
    let later = (collect_scripts-sound h s).well_formed in
    loyal-suspected h end [] s.well_formed later (loses-loyal (view h) (view end) (LosesTo-loses [] h end later (collect_scripts-loses h s))) suspected

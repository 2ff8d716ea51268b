-- A SCRIPT COLLECTION TAKES AWAY WHAT IS SPENT, and so does the end of a marking with some of it.
use Rattle.std.proofs.Common.{◌≡◌, List, [], ◌++◌, sym, ◌∙◌, ap, subst, arith, ⊎_elim}
use Rattle.cc_lists.specs.Members.{Among}
use Rattle.cc_lists.proofs.Members.{Among-map_cases, Among-filtered}
use Rattle.cc_names.specs.declared.name.Name.{Name}
use Rattle.cc_model.specs.Slots.{contents}
use Rattle.cc_model.specs.Heap.{Heap, HeapScript}
use Rattle.cc_model.specs.View.{view, script_edges}
use Rattle.cc_model.specs.WellFormed.{names_there}
use Rattle.cc_model.specs.Colours.{black_names, marked_names, coloured_by, marked}
use Rattle.cc_model.specs.Marking.{NewMarks, blacks_by_mark, marks_by_mark, ended_marks}
use Rattle.cc_model.specs.Sweep.{unmarked, sweep, collect_scripts}
use Rattle.cc_laws_heap.specs.Sound.{IsSound}
use Rattle.cc_laws_heap.specs.Rounds.{FreesNames}
use Rattle.cc_laws_heap.proofs.MarkedWellFormed.{is_spared_entry}
use Rattle.cc_laws_heap.proofs.MarkingKeeps.{as_coloured, IsSound-coloured}
use Rattle.cc_laws_heap.proofs.RoundParts.{sweep-natives, sweep-scripts}
use Rattle.cc_laws_heap.proofs.Swept.{taken-sweep, sweep-frees, entries-sweep}
use Rattle.cc_laws_heap.proofs.CollectedColours.{collecting-keeps}
use Rattle.cc_laws_run.specs.Spent.{IsSpent}
use Rattle.cc_laws_run.proofs.LeftThere.{collected-has}
use Rattle.cc_laws_run.proofs.SpentViews.{WasIn-alike, IsLess, IsLess-refl, IsLess-trans, spent-less}
use Rattle.cc_laws_snapshot.proofs.ReachedStays.{native-edge, script-edge, native_edges-alike}
use Rattle.cc_laws_run.proofs.TouchedViews.{edge-cases}
use Rattle.cc_laws_run.proofs.JointLists.{joints-within}

-- A SWEEP OVER OTHER COLOURS only takes away.
swept-less : (blacks marks : List Name) (h : Heap) → IsSound [] h → IsLess h (sweep (coloured_by blacks marks h)).heap
swept-less blacks marks h s = record {
  natives_made = omega (arith, f.natives_made);
  scripts_made = omega (arith, f.scripts_made);
  registers = λ x m. subst (λ xs. Among x xs) same m;
  edges = λ x y e. ⊎_elim
      (λ f. let p = sweep-natives c sound f.0 f.1 in native-edge h p.0 x y p.1 (subst (λ es. Among (x, y) es) (sym (native_edges-alike p.0 f.0 p.2)) f.2))
      (λ f. let p = left-scripts f.0 f.1 in script-edge h p.0 x y p.1 (subst (λ es. Among (x, y) es) (sym (ap script_edges p.2)) f.2))
      (edge-cases left x y e);
  joints = joints-within left.entries h.entries
      (λ e m. Among-filtered (is_spared_entry (unmarked c)) e h.entries (subst (λ es. Among e es) (entries-sweep c sound) m));
  unlinked = λ n m. WasIn-alike h n (sweep-natives c sound n m);
}
  where
    c : Heap
    c = coloured_by blacks marks h

    left : Heap
    left = (sweep c).heap

    sound : IsSound [] c
    sound = IsSound-coloured blacks marks h s

    f : FreesNames c (taken-sweep c sound).0 (sweep c)
    f = sweep-frees c sound

    -- a script object that is left was there, but for its colour
    left-scripts : (o : HeapScript) → Among o left.scripts → (p : HeapScript) × Among p h.scripts × (as_coloured blacks marks p ≡ o)
    left-scripts o m = Among-map_cases (as_coloured blacks marks) h.scripts o (sweep-scripts c o m)

    same : (view left).registers ≡ (view h).registers
    same = ap (λ xs. contents xs ++ contents left.script_registers) f.native_registers ∙ ap (λ xs. contents h.native_registers ++ contents xs) f.script_registers

-- A round only takes away.
round-less : (h : Heap) → IsSound [] h → IsLess h (sweep (marked h)).heap
unfolding marked
round-less h s = swept-less (black_names h) (marked_names h) h s

-- THE END OF A MARKING only takes away.
pub ended-less : (h : Heap) (marks : NewMarks) → IsSound [] h → IsLess h (ended_marks h marks).heap
unfolding ended_marks
ended-less h marks s = swept-less (blacks_by_mark h marks) (marks_by_mark h marks) h s

-- A script collection only takes away.
pub collect_scripts-less : (h : Heap) → IsSound [] h → IsLess h (collect_scripts h).heap
collect_scripts-less h s = collecting-keeps (λ o. IsLess h o.heap) (λ o c l. IsLess-trans h o.heap (sweep (marked o.heap)).heap l (round-less o.heap c)) h s (IsLess-refl h)

-- What is left

-- A SCRIPT COLLECTION LEAVES NOTHING THAT IS SPENT.
pub collected-gone : (ds : List Name) (h : Heap) → IsSound [] h → IsSpent h ds → (x : Name) → Among x ds → ¬ (Among x (names_there (collect_scripts h).heap))
collected-gone ds h s d x i m =
    let k : Heap = (collect_scripts h).heap in
    let spent : IsSpent k ds = spent-less ds h k (collect_scripts-less h s) d in
    collected-has h (λ x. ¬ (Among x ds)) s (record {
      registers = λ x m i. spent.unregistered x i m;
      holder = λ j y e i. spent.empty j y i e;
      edges = λ x y e out i. out (spent.holder x y e i);
      joints = λ j m a b i. ⊎_elim a b (spent.joint j m i);
    }) x m i

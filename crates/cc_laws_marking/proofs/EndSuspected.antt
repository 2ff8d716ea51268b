-- THE END OF A MARKING KEEPS EVERY UNREACHED NATIVE SUSPECTED, where no collection runs.
use Rattle.std.proofs.Common.{arith, ◌≡◌, ℕ, List, [], ◌++◌, refl, ap}
use Rattle.std.specs.List.{flat_map}
use Rattle.cc_lists.proofs.ListWrites.{flat_map-kept}
use Rattle.cc_names.specs.declared.name.Name.{Name}
use Rattle.cc_model.specs.Heap.{Heap}
use Rattle.cc_model.specs.View.{view, native_edges, script_edges}
use Rattle.cc_model.specs.Colours.{coloured_by}
use Rattle.cc_model.specs.Suspected.{IsSuspected}
use Rattle.cc_model.specs.Marking.{NewMarks, blacks_by_mark, marks_by_mark, ended_marks}
use Rattle.cc_laws_heap.specs.Sound.{IsSound}
use Rattle.cc_laws_heap.specs.Stages.{stage}
use Rattle.cc_laws_heap.specs.UnderMarking.{IsUnderMarking}
use Rattle.cc_laws_heap.proofs.MarkingKeeps.{as_coloured, IsSound-coloured}
use Rattle.cc_laws_heap.proofs.MarkingEnded.{by_new_marks, AreMarksClosed-ended}
use Rattle.cc_laws_snapshot.proofs.LoyalSuspected.{loyal-suspected, loses-loyal}
use Rattle.cc_laws_snapshot.proofs.LosesTo.{LosesTo, LosesTo-loses}
use Rattle.cc_laws_snapshot.proofs.SweepLoses.{sweep-suspected}

module _ (blacks marks : List Name) (h : Heap) where
  -- other colours change no edge
  pub edges-coloured : (view (coloured_by blacks marks h)).edges ≡ (view h).edges
  edges-coloured = ap (λ es. flat_map native_edges h.natives ++ es) (flat_map-kept script_edges (as_coloured blacks marks) h.scripts (λ o. refl))

  -- nothing is lost by other colours
  coloured-loses : LosesTo (stage [] [] h) (stage [] [] (coloured_by blacks marks h))
  coloured-loses = grind (arith, edges-coloured)

  -- OTHER COLOURS KEEP EVERY UNREACHED NATIVE SUSPECTED.
  coloured-suspected : {owned : List ℕ} → IsSound owned h → IsSuspected (view h) [] → IsSuspected (view (coloured_by blacks marks h)) []
  coloured-suspected s suspected =
      let k : Heap = coloured_by blacks marks h in
      let later = (IsSound-coloured blacks marks h s).well_formed in
      loyal-suspected h k [] s.well_formed later (loses-loyal (view h) (view k) (LosesTo-loses [] h k later coloured-loses)) suspected

-- THE END OF A MARKING FORGETS NOTHING.
pub ended-suspected : {owned : List ℕ} (h : Heap) (m : NewMarks) → IsSound owned h → IsUnderMarking h m → IsSuspected (view h) [] →
    IsSuspected (view (ended_marks h m).heap) []
unfolding ended_marks
ended-suspected h m s u suspected = sweep-suspected (by_new_marks h m) (AreMarksClosed-ended h m s u)
    (IsSound-coloured (blacks_by_mark h m) (marks_by_mark h m) h s)
    (coloured-suspected (blacks_by_mark h m) (marks_by_mark h m) h s suspected)

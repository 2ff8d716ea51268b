-- A MARKING GOES ON AS IT SHOULD from its begin on, whatever comes between, as long as its marks are those that they should be.
use Rattle.std.specs.Prelude.{IsTrue}
use Rattle.std.proofs.Common.{◌≡◌, ℕ, List, None, Some, sym, ◌∙◌, ap, subst}
use Rattle.std.specs.Prelude.{option_map}
use Rattle.cc_model.specs.declared.command.Command.{Command}
use Rattle.cc_model.specs.Ranges.{in_range}
use Rattle.cc_model.specs.Checks.{refusal_of}
use Rattle.cc_model.specs.Deeds.{deed_of}
use Rattle.cc_model.specs.Heap.{Heap, objects_of}
use Rattle.cc_model.specs.Effects.{effects}
use Rattle.cc_model.specs.Marking.{NewMarks, begun_marks, scanned, marking_after}
use Rattle.cc_laws_heap.specs.Sound.{IsSound}
use Rattle.cc_laws_heap.specs.UnderMarking.{IsUnderMarking, IsScannedSoFar}
use Rattle.cc_laws_heap.proofs.CommandsMarking.{effects-marking}
use Rattle.cc_laws_heap.proofs.EdgesBut.{effects-scanned}
use Rattle.cc_laws_heap.proofs.Face.{IsTaken-from}
use Rattle.cc_laws_heap.proofs.MarkingBegun.{IsUnderMarking-begun, IsScannedSoFar-begun}
use Rattle.cc_laws_heap.proofs.Raising.{Raises-scanned, IsUnderMarking-raised}
use Rattle.cc_laws_heap.proofs.ScanningOn.{IsScannedSoFar-scanned}
use Rattle.cc_laws_marking.specs.Between.{KeepsMarkings}
use Rattle.cc_heaps.specs.Keyed.{Keyed}
use Rattle.cc_heaps.specs.NewMarks.{AreListed, marks_of}
use Rattle.cc_markslice.specs.Going.{IsDoneUnderMarking, IsMarkingWell}

-- over these heaps, with these marks
well-over : (h : Heap) (m : NewMarks) (v : Keyed) → v.heap ≡ h → IsUnderMarking h m → IsScannedSoFar h m → marks_of v ≡ Some m → AreListed v → IsMarkingWell v
well-over h m v e u so_far has listed = record {
  marks = m;
  has_marks = has;
  under = subst (λ k. IsUnderMarking k m) (sym e) u;
  so_far = subst (λ k. IsScannedSoFar k m) (sym e) so_far;
  listed = listed;
}

-- A MARKING THAT BEGINS GOES ON AS IT SHOULD.
pub well-begun : {owned : List ℕ} (old new : Keyed) → IsSound owned old.heap → new.heap ≡ old.heap → marks_of new ≡ Some (begun_marks old.heap) → AreListed new →
    IsMarkingWell new
well-begun old new s e has listed = well-over old.heap (begun_marks old.heap) new e (IsUnderMarking-begun old.heap) (IsScannedSoFar-begun old.heap s) has listed

module _ (old : Keyed) (well : IsMarkingWell old) where
  -- the marks that some function makes of them
  pub marks-after : (f : NewMarks → NewMarks) (new : Keyed) → marks_of new ≡ option_map f (marks_of old) → marks_of new ≡ Some (f well.marks)
  marks-after f new e = e ∙ ap (option_map f) well.has_marks

  -- A SCAN KEEPS IT SO,
  pub well-scanned : {owned : List ℕ} (new : Keyed) → IsSound owned old.heap → new.heap ≡ old.heap →
      marks_of new ≡ option_map (scanned old.heap) (marks_of old) → AreListed new → IsMarkingWell new
  well-scanned new s e has listed = well-over old.heap (scanned old.heap well.marks) new e
      (IsUnderMarking-raised old.heap well.marks (scanned old.heap well.marks) (Raises-scanned old.heap well.marks) well.under)
      (IsScannedSoFar-scanned old.heap well.marks s.well_formed well.under.within well.under.there well.so_far)
      (marks-after (scanned old.heap) new has) listed

  -- A COMMAND KEEPS IT SO,
  pub well-command : {owned : List ℕ} (new : Keyed) (c : Command) → IsSound owned old.heap → IsTrue (in_range c) → refusal_of (objects_of old.heap) c ≡ None →
      IsDoneUnderMarking c old new → IsMarkingWell new
  well-command new c s r e done =
      let t = IsTaken-from (objects_of old.heap) c e in
      well-over (effects old.heap c).heap (marking_after old.heap (deed_of (objects_of old.heap) c) well.marks) new done.heap
      (effects-marking old.heap well.marks c s well.under r t) (effects-scanned old.heap well.marks c s well.under well.so_far r t)
      (marks-after (marking_after old.heap (deed_of (objects_of old.heap) c)) new done.marks) done.listed

  -- AND SO DOES WHAT LEAVES EVERY MARKING AS IT IS.
  pub well-beside : (new : Keyed) → KeepsMarkings old.heap new.heap → marks_of new ≡ marks_of old → AreListed new → IsMarkingWell new
  well-beside new k e listed = record {
    marks = well.marks;
    has_marks = e ∙ well.has_marks;
    under = k.under well.marks well.under;
    so_far = k.so_far well.marks well.so_far;
    listed = listed;
  }

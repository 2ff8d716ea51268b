-- A UNIT OF A MARKING THAT GOES ON AS IT SHOULD takes it on or ends it.
use Rattle.std.proofs.Common.{◌≡◌, Bool, true, false, List, [], Option, Some, None}
use Rattle.cc_model.specs.declared.item.Event.{Event}
use Rattle.cc_model.specs.Marking.{NewMarks, begun_marks, is_scanned, scanned, ended_marks}
use Rattle.cc_model.specs.End.{went_on, at_end}
use Rattle.cc_model.specs.Collecting.{Machine, UnitsDone, units_came, with_outcome, without_marking, one_marked}
use Rattle.cc_laws_heap.specs.Sound.{IsSound}
use Rattle.cc_laws_heap.proofs.MarkingBegun.{IsUnderMarking-begun, IsScannedSoFar-begun}
use Rattle.cc_laws_run.specs.Running.{IsMarking, IsMarkingNow}
use Rattle.cc_laws_run.proofs.Finishing.{scanned-on}
use Rattle.cc_laws_run.proofs.MarkedUnits.{marked_by, marked_from}

-- a marking goes on as it should, where one goes on
abbrev pub IsMarkingOn : UnitsDone → Type 0
IsMarkingOn d = IsMarkingNow d.machine.heap d.machine.marking d.machine.snapshot

-- Whatever holds where a marking goes on as it should, with any marks, and of the end of one, holds of a unit, where no collection runs.
pub one_marked-going : (m : Machine) (es : List Event) (P : UnitsDone → Type 0) → IsSound [] m.heap → IsMarkingNow m.heap m.marking m.snapshot → m.snapshot ≡ None →
    ((marks : NewMarks) → IsMarking m.heap marks m.snapshot → P (units_came (record m { marking = Some marks }) es went_on)) →
    ((marks : NewMarks) → IsMarking m.heap marks m.snapshot → P (with_outcome (units_came (without_marking m) es at_end) (ended_marks m.heap marks))) →
    P (one_marked m es)
one_marked-going m es P sound t alone on ended = by_marking m.marking t
  where
    by_scanned : (marks : NewMarks) → IsMarking m.heap marks m.snapshot → (b : Bool) → P (marked_by m es marks b)
    by_scanned marks t true = ended marks t
    by_scanned marks t false = on (scanned m.heap marks) (scanned-on m.heap m.snapshot sound marks t)

    by_marking : (o : Option NewMarks) → IsMarkingNow m.heap o m.snapshot → P (marked_from m es o)
    by_marking None t = on (begun_marks m.heap) (record { under = IsUnderMarking-begun m.heap; so_far = IsScannedSoFar-begun m.heap sound; alone = alone })
    by_marking (Some marks) t = by_scanned marks t (is_scanned marks)

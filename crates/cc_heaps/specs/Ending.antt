-- THE END OF A MARKING IN SLICES: when it may come, and which colours it gives.
use Rattle.std.specs.Prelude.{◌≡◌, true}
use Rattle.cc_model.specs.Heap.{Heap}
use Rattle.cc_model.specs.Marking.{NewMarks, is_scanned, blacks_by_mark, marks_by_mark}
use Rattle.cc_model.specs.Colours.{coloured_by}
use Rattle.cc_laws_heap.specs.UnderMarking.{IsUnderMarking, IsScannedSoFar}

-- A MARKING MAY END: its new marks are as they should be, what was scanned has given them on, and nothing is left to scan
pub record IsToEnd (h : Heap) (m : NewMarks) : Type 0 where
  pub under : IsUnderMarking h m
  pub so_far : IsScannedSoFar h m
  pub scanned : is_scanned m ≡ true

-- the heaps with the colours that its end gives, before the sweep
abbrev pub coloured_by_marks : Heap → NewMarks → Heap
coloured_by_marks h m = coloured_by (blacks_by_mark h m) (marks_by_mark h m) h

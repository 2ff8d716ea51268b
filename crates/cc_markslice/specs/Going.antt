-- A MARKING IN SLICES THAT GOES ON AS IT SHOULD, and what a command owes it that comes between two steps.
use Rattle.std.specs.Prelude.{◌≡◌, ℕ, None, Some, option_map}
use Rattle.cc_model.specs.declared.command.Command.{Command}
use Rattle.cc_model.specs.Deeds.{deed_of}
use Rattle.cc_model.specs.Heap.{objects_of}
use Rattle.cc_model.specs.Effects.{effects}
use Rattle.cc_model.specs.Marking.{NewMarks, marking_after, scans_left}
use Rattle.cc_laws_heap.specs.UnderMarking.{IsUnderMarking, IsScannedSoFar}
use Rattle.cc_heaps.specs.Keyed.{Keyed}
use Rattle.cc_heaps.specs.NewMarks.{AreListed, marks_of}

-- A MARKING GOES ON, AS IT SHOULD
pub record IsMarkingWell (v : Keyed) : Type 0 where
  -- with these new marks
  pub marks : NewMarks
  pub has_marks : marks_of v ≡ Some marks
  -- script registers hold what is black by them, and natives what is marked
  pub under : IsUnderMarking v.heap marks
  -- what was scanned has given its mark on
  pub so_far : IsScannedSoFar v.heap marks
  -- what is to be scanned is well listed
  pub listed : AreListed v

-- how many scans are left at most; none where no marking goes on
abbrev pub scans_left_in : Keyed → ℕ
scans_left_in v = elim (marks_of v) [ None ↦ 0 | Some m ↦ scans_left m ]

-- WHAT A COMMAND OWES a marking that goes on: its new marks are those after what the command exposes, and its lists stay right
pub record IsDoneUnderMarking (c : Command) (old new : Keyed) : Type 0 where
  pub heap : new.heap ≡ (effects old.heap c).heap
  pub marks : marks_of new ≡ option_map (marking_after old.heap (deed_of (objects_of old.heap) c)) (marks_of old)
  pub listed : AreListed new

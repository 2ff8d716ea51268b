-- A MARKING THAT GOES ON: what its new marks keep to from one step to the next, whatever commands come between.
use Rattle.cc_lists.specs.Members.{Among}
use Rattle.cc_names.specs.declared.name.Name.{Name}
use Rattle.cc_model.specs.Slots.{contents}
use Rattle.cc_model.specs.Heap.{Heap}
use Rattle.cc_model.specs.WellFormed.{script_names}
use Rattle.cc_model.specs.Exposure.{slots_of_scripts}
use Rattle.cc_model.specs.Colours.{scripts_held}
use Rattle.cc_model.specs.Marking.{NewMarks}

-- what is not marked is not black either
abbrev pub IsWithin : NewMarks → Type 0
IsWithin m = (x : Name) → Among x m.unmarked → Among x m.unblack

-- THE HEAPS ARE UNDER MARKING: what script registers hold is black by the new marks, and what natives hold is marked by them; what is
-- not black by the new marks is there
pub record IsUnderMarking (h : Heap) (m : NewMarks) : Type 0 where
  pub registers : (x : Name) → Among x (contents h.script_registers) → ¬ (Among x m.unblack)
  pub held : (x : Name) → Among x (scripts_held h) → ¬ (Among x m.unmarked)
  pub within : IsWithin m
  pub there : (x : Name) → Among x m.unblack → Among x (script_names h)

-- WHAT WAS SCANNED HAS GIVEN ITS MARK ON: over a slot or to its delegate a black object leads to what is black and a gray one to what is
-- marked, once they have left their lists; and the lists have black objects that are there, and gray ones
pub record IsScannedSoFar (h : Heap) (m : NewMarks) : Type 0 where
  pub black_on : (x y : Name) → Among (x, y) (slots_of_scripts h) → ¬ (Among x m.unblack) → ¬ (Among x m.black_list) → ¬ (Among y m.unblack)
  pub gray_on : (x y : Name) → Among (x, y) (slots_of_scripts h) → Among x m.unblack → ¬ (Among x m.unmarked) → ¬ (Among x m.gray_list) → ¬ (Among y m.unmarked)
  pub black_list : (x : Name) → Among x m.black_list → Among x (script_names h) × (¬ (Among x m.unblack))
  pub gray_list : (x : Name) → Among x m.gray_list → Among x m.unblack × (¬ (Among x m.unmarked))

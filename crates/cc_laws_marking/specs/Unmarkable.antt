-- WHAT A MARKING THAT GOES ON WILL NOT MARK ANY MORE, whatever commands come between: nothing that has a mark, or may get one, leads
-- there. A script object that is not reached may be answered again by one command alone: one that wraps its native.
use Rattle.std.specs.Prelude.{◌≡◌, ◌⊎◌, List, [], option_to_list}
use Rattle.cc_lists.specs.Members.{Among}
use Rattle.cc_names.specs.declared.name.Name.{Name}
use Rattle.cc_model.specs.Slots.{contents}
use Rattle.cc_model.specs.Entries.{Joint, joints}
use Rattle.cc_model.specs.Checks.{reflector_of}
use Rattle.cc_model.specs.Deeds.{Deed, reflector_held}
use Rattle.cc_model.specs.Heap.{Heap}
use Rattle.cc_model.specs.WellFormed.{script_names}
use Rattle.cc_model.specs.Exposure.{slots_of_scripts}
use Rattle.cc_model.specs.Colours.{scripts_held, marked_names}
use Rattle.cc_model.specs.Marking.{NewMarks, without_all}

-- SOME SCRIPT OBJECTS CAN'T BE MARKED: none has a new mark, no script register and no native holds one, whoever holds one in a slot
-- or as its delegate is one of them, and so is one of the two that together lead to one over an entry
pub record IsUnmarkable (h : Heap) (m : NewMarks) (them : List Name) : Type 0 where
  pub unmarked : (x : Name) → Among x them → Among x m.unmarked
  pub registers : (x : Name) → Among x them → ¬ (Among x (contents h.script_registers))
  pub held : (x : Name) → Among x them → ¬ (Among x (scripts_held h))
  pub holders : (x y : Name) → Among (x, y) (slots_of_scripts h) → Among y them → Among x them
  pub members : (j : Joint) → Among j (joints h.entries) → Among j.value them → Among j.the_map them ⊎ Among j.key them

-- the script objects that the least sets of the heaps do not mark: what script registers and natives do not lead to
abbrev pub not_marked : Heap → List Name
not_marked h = without_all (marked_names h) (script_names h)

-- the reflector that is answered where a native is wrapped
abbrev pub wrapped_by : Deed → List Name
wrapped_by (reflector_held d x) = option_to_list (reflector_of x)
wrapped_by _ = []

-- A SCRIPT OBJECT LEADS NOWHERE: it holds nothing, and is neither a map, nor a key, nor a delegate that an entry goes by. So it is
-- with a reflector that no script has touched since it was made
pub record LeadsNowhere (h : Heap) (x : Name) : Type 0 where
  pub edges : (y : Name) → ¬ (Among (x, y) (slots_of_scripts h))
  pub members : (j : Joint) → Among j (joints h.entries) → (¬ (j.the_map ≡ x)) × (¬ (j.key ≡ x))

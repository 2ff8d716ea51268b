-- SCRIPT MARKING IN SLICES: the new marks of script objects, which stand beside their colours, and the lists of those to scan.
use Rattle.std.specs.Prelude.{ℕ, ◌+◌, Bool, true, false, not, ◌&&◌, List, [], ◌∷◌, ◌++◌, length, filter, Option, Some, None, option_map, if◌then◌else◌}
use Rattle.cc_lists.specs.Members.{has, without, with_all_last}
use Rattle.cc_lists.specs.Least.{Rule, system, closure}
use Rattle.cc_names.specs.declared.name.Name.{Name}
use Rattle.cc_names.specs.declared.register.Reg.TheVariants.{N}
use Rattle.cc_names.specs.Names.{same_name}
use Rattle.cc_model.specs.Slots.{contents}
use Rattle.cc_model.specs.Entries.{joints, rules_of}
use Rattle.cc_model.specs.Checks.{slot_at, slots_or_none, reflector_of}
use Rattle.cc_model.specs.Deeds.{Deed, script_held, slot_moved, reflector_held, object_exposed}
use Rattle.cc_model.specs.Heap.{Heap, Outcome, objects_of, script_at}
use Rattle.cc_model.specs.Places.{script_places_of}
use Rattle.cc_model.specs.WellFormed.{script_names}
use Rattle.cc_model.specs.Exposure.{slots_of_scripts}
use Rattle.cc_model.specs.Colours.{coloured_by, scripts_held}
use Rattle.cc_model.specs.Sweep.{sweep}

-- An object that is made while a marking goes on is black by the new mark, so it is in neither of the first two lists, which only
-- become shorter; and it is on no list of those to scan.
pub record NewMarks : Type 0 where
  -- the script objects without a new mark, in order of making
  pub unmarked : List Name
  -- and those without one or with a gray one
  pub unblack : List Name
  -- the objects to scan, first in, first out: the black ones come first
  pub black_list : List Name
  pub gray_list : List Name

-- names that are not among others
abbrev pub without_all : List Name → List Name → List Name
without_all others names = filter (λ x. not (has same_name others x)) names

-- each name where it first comes
abbrev pub each_once : List Name → List Name
each_once names = with_all_last same_name [] names

-- BEGIN: what script registers hold is black, and what natives hold is gray where it is not

abbrev pub begun_with : Heap → List Name → List Name → NewMarks
begun_with h blacks grays = record {
  unmarked = without_all (blacks ++ grays) (script_names h);
  unblack = without_all blacks (script_names h);
  black_list = blacks;
  gray_list = grays;
}

-- what script registers hold, in their order
abbrev pub registered : Heap → List Name
registered h = each_once (contents h.script_registers)

unfoldable pub begun_marks : Heap → NewMarks
begun_marks h = begun_with h (registered h) (without_all (registered h) (each_once (scripts_held h)))

-- ONE OBJECT SCANNED: what it holds has its mark at least from then on

-- what an object's slots and its delegate hold
abbrev pub held_by_script : Heap → Name → List Name
held_by_script h x = contents (slots_or_none (option_map script_places_of (script_at h x)))

abbrev pub raised_black : NewMarks → Name → NewMarks
raised_black m y = elim (has same_name m.unblack y) [
  | true ↦ record {
    unmarked = without same_name y m.unmarked;
    unblack = without same_name y m.unblack;
    black_list = m.black_list ++ y ∷ [];
    gray_list = without same_name y m.gray_list;
  }
  | false ↦ m
]

abbrev pub raised_gray : NewMarks → Name → NewMarks
raised_gray m y = elim (has same_name m.unmarked y) [
  | true ↦ record m { unmarked = without same_name y m.unmarked; gray_list = m.gray_list ++ y ∷ [] }
  | false ↦ m
]

abbrev pub each_raised : (NewMarks → Name → NewMarks) → NewMarks → List Name → NewMarks
each_raised raise m [] = m
each_raised raise m (y ∷ ys) = each_raised raise (raise m y) ys

-- the first of the black list, or else of the gray one
unfoldable pub scanned : Heap → NewMarks → NewMarks
scanned h m = elim m.black_list [
  | x ∷ xs ↦ each_raised raised_black (record m { black_list = xs }) (held_by_script h x)
  | [] ↦ elim m.gray_list [
    | x ∷ xs ↦ each_raised raised_gray (record m { gray_list = xs }) (held_by_script h x)
    | [] ↦ m
  ]
]

abbrev pub is_none_of : List Name → Bool
is_none_of [] = true
is_none_of (x ∷ xs) = false

-- whether none is left to scan
abbrev pub is_scanned : NewMarks → Bool
is_scanned m = is_none_of m.black_list && is_none_of m.gray_list

-- how many scans are left at most: an object goes on a list where it gets a higher mark, so at most twice
abbrev pub scans_left : NewMarks → ℕ
scans_left m = length m.black_list + length m.gray_list + (length m.unblack + length m.unmarked)

-- AN EXPOSURE while a marking goes on: what it comes to over slots past objects that are black by the new mark becomes black so,
-- and leaves its list

abbrev pub edges_unblack : NewMarks → List (Name × Name) → List (Name × Name)
edges_unblack m edges = filter (λ e. has same_name m.unblack e.0 && has same_name m.unblack e.1) edges

abbrev pub exposure_rules_by_mark : Heap → NewMarks → Name → List (Rule Name)
exposure_rules_by_mark h m x = system (filter (λ y. has same_name m.unblack y) (x ∷ [])) (edges_unblack m (slots_of_scripts h)) []

abbrev pub blackened_by_mark : NewMarks → List Name → NewMarks
blackened_by_mark m names = record m {
  unmarked = without_all names m.unmarked;
  unblack = without_all names m.unblack;
  gray_list = without_all names m.gray_list;
}

unfoldable pub exposed_marks : Heap → Option Name → NewMarks → NewMarks
exposed_marks h None m = m
exposed_marks h (Some x) m = blackened_by_mark m (closure same_name (exposure_rules_by_mark h m x))

-- what a deed exposes, a native and what is made just now among it: that has no new mark to get
abbrev pub exposed_by : Heap → Deed → Option Name
exposed_by h (script_held d x) = x
exposed_by h (slot_moved d i s j) = slot_at (objects_of h) (N s) j
exposed_by h (reflector_held d x) = reflector_of x
exposed_by h (object_exposed x) = x
exposed_by h _ = None

-- THE NEW MARKS AFTER A DEED
abbrev pub marking_after : Heap → Deed → NewMarks → NewMarks
marking_after h d m = exposed_marks h (exposed_by h d) m

-- THE END: entries give their values by the new marks, with all that these hold; the new marks become the colours, and one sweep
-- follows

abbrev pub black_rules_by_mark : Heap → NewMarks → List (Rule Name)
black_rules_by_mark h m = system (without_all m.unblack (script_names h)) (slots_of_scripts h) (rules_of (joints h.entries))

abbrev pub blacks_by_mark : Heap → NewMarks → List Name
blacks_by_mark h m = closure same_name (black_rules_by_mark h m)

abbrev pub mark_rules_by_mark : Heap → NewMarks → List (Rule Name)
mark_rules_by_mark h m = system (blacks_by_mark h m ++ without_all m.unmarked (script_names h)) (slots_of_scripts h) (rules_of (joints h.entries))

abbrev pub marks_by_mark : Heap → NewMarks → List Name
marks_by_mark h m = closure same_name (mark_rules_by_mark h m)

unfoldable pub ended_marks : Heap → NewMarks → Outcome
ended_marks h m = sweep (coloured_by (blacks_by_mark h m) (marks_by_mark h m) h)

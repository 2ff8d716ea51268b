-- THE LISTS OF A MARKING: in which order they stand, and how often a name stands there.
use Rattle.std.specs.Prelude.{◌≡◌, ◌≤◌, List, filter, count_by}
use Rattle.cc_lists.specs.Members.{has}
use Rattle.cc_names.specs.declared.name.Name.{Name}
use Rattle.cc_names.specs.Names.{same_name}
use Rattle.cc_model.specs.Heap.{Heap}
use Rattle.cc_model.specs.WellFormed.{script_names}
use Rattle.cc_model.specs.Marking.{NewMarks}

-- the names that stand in the second list, as they stand in the first
abbrev pub AreInOrderOf : List Name → List Name → Type 0
AreInOrderOf names xs = xs ≡ filter (has same_name xs) names

-- what is not marked, and what is not black, stands in order of making; an object waits at most once on a list of those to scan
pub record HasListsInOrder (h : Heap) (m : NewMarks) : Type 0 where
  pub unmarked : AreInOrderOf (script_names h) m.unmarked
  pub unblack : AreInOrderOf (script_names h) m.unblack
  pub black_list : (x : Name) → count_by (same_name x) m.black_list ≤ 1
  pub gray_list : (x : Name) → count_by (same_name x) m.gray_list ≤ 1

-- A SCRIPT MARKING THROUGH CHANGES: each leaves it going on as it should.
use Rattle.std.specs.Prelude.{◌≡◌, Option, Some, option_to_list}
use Rattle.cc_lists.specs.Members.{Among}
use Rattle.cc_names.specs.declared.name.Name.{Name}
use Rattle.cc_model.specs.Marking.{NewMarks}
use Rattle.cc_heaps.specs.Keyed.{Keyed}
use Rattle.cc_heaps.specs.NewMarks.{marks_of}
use Rattle.cc_markslice.specs.Going.{IsMarkingWell}

-- black by the new mark, where a marking goes on
abbrev pub IsPast : Keyed → Name → Type 0
IsPast v x = (m : NewMarks) → marks_of v ≡ Some m → ¬ (Among x m.unblack)

-- what is to be stored is so, or nothing is
abbrev pub IsPastIfAny : Keyed → Option Name → Type 0
IsPastIfAny v x = (y : Name) → Among y (option_to_list x) → IsPast v y

-- IT GOES ON AS IT SHOULD, and what was black by the new mark is so still
pub record KeepsMarking (old new : Keyed) : Type 0 where
  pub well : IsMarkingWell old → IsMarkingWell new
  pub past : IsMarkingWell old → (x : Name) → IsPast old x → IsPast new x

-- THE STEPS THAT ARE NEEDED, as they are marked.
use Rattle.std.specs.Prelude.{◌≡◌, ℕ, Bool, false, List, Some, slice_get, slice_index_or}
use Rattle.cc_lists.specs.Members.{has}
use Rattle.cc_names.specs.declared.name.Name.{Name}
use Rattle.cc_names.specs.Names.{same_name}
use Rattle.cc_model.specs.Answers.{Step}

-- exactly the steps of these names are marked
abbrev pub AreWanted : List Step → List Bool → List Name → Type 0
AreWanted ss marks names = (i : ℕ) (s : Step) → slice_get ss i ≡ Some s → slice_index_or marks i false ≡ has same_name names s.0

-- NAMES THAT HAVE ENDED, and the tables by which they are found.
use Rattle.std.specs.Prelude.{◌≡◌, List, is_some}
use Rattle.cc_lists.specs.Members.{has}
use Rattle.cc_names.specs.declared.name.Name.{Name}
use Rattle.cc_names.specs.Names.{same_name}
use Rattle.cc_pages.specs.declared.by_name.ByName.{ByName}
use Rattle.cc_pages.specs.ByName.{place_of}

-- the tables have a place for each of these names, and for no other
abbrev pub HavePlaces : List Name → ByName → Type 0
HavePlaces names t = (x : Name) → is_some (place_of t x) ≡ has same_name names x

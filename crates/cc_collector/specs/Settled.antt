-- WHAT SETTLING COMES TO, and what it leaves.
use Rattle.std.specs.Prelude.{◌↔◌}
use Rattle.cc_lists.specs.Members.{Among}
use Rattle.cc_names.specs.declared.name.Name.{Name}
use Rattle.cc_model.specs.Telling.{Telling}
use Rattle.cc_model.specs.Heap.{Heap}
use Rattle.cc_model.specs.View.{view, ReachedIn}
use Rattle.cc_model.specs.WellFormed.{names_there}
use Rattle.cc_model.specs.End.{Progress, at_end, refused}
use Rattle.cc_model.specs.Collecting.{Machine}
use Rattle.cc_collector.specs.Collected.{IsCollected, IsSwept}

-- THE HEAPS HAVE EXACTLY WHAT THE REGISTERS REACH
abbrev pub HasWhatIsReached : Heap → Type 0
HasWhatIsReached h = (x : Name) → Among x (names_there h) ↔ ReachedIn (view h) x

-- `gc` led to one machine, and from there a collection to the next
pub record IsCollectedAfterGc (old new : Machine) (progress : Progress) (before after : Telling) : Type 0 where
  pub first : Machine
  pub told_first : Telling
  pub swept : IsSwept old first before told_first
  pub collected : IsCollected first new progress told_first after

-- SETTLING that was not refused: `gc`, a collection, and `gc`
pub record IsSettled (old new : Machine) (before after : Telling) : Type 0 where
  pub second : Machine
  pub told_second : Telling
  pub collected : IsCollectedAfterGc old second at_end before told_second
  pub swept : IsSwept second new told_second after

-- SETTLING that was refused memory: `gc`, and a collection that was refused
abbrev pub IsUnsettled : Machine → Machine → Telling → Telling → Type 0
IsUnsettled old new before after = IsCollectedAfterGc old new refused before after

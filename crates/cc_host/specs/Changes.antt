-- A CHANGE BY A HOST: one change of the heaps that may come at any time.
use Rattle.std.specs.Prelude.{◌≡◌, ◌⊎◌, [], Option, Some, None}
use Rattle.cc_lists.specs.Members.{Among}
use Rattle.cc_names.specs.declared.name.Name.{Name}
use Rattle.cc_names.specs.declared.register.Reg.TheVariants.{N}
use Rattle.cc_model.specs.Graph.{Graph}
use Rattle.cc_model.specs.Heap.{Heap, register}
use Rattle.cc_model.specs.WellFormed.{names_there}
use Rattle.cc_heaps.specs.Keyed.{Keyed, IsInOrder}
use Rattle.cc_heaps.specs.Keeping.{KeepsAll}
use Rattle.cc_heaps.specs.Standing.{StandsAfter, StillStands}
use Rattle.cc_counted.specs.declared.held.Held.{Held}
use Rattle.cc_heaps.specs.Changes.{IsThere, held_name}
use Rattle.cc_host.specs.Hosted.{spare}
use Rattle.cc_host.specs.Missing.{KeepsDoomed}

-- what the heaps are before it: in order, nothing owned, and the host's own register empty
pub record IsReady (v : Keyed) : Type 0 where
  pub order : IsInOrder [] v
  pub spared : register v.heap (N spare) ≡ None

-- IT KEEPS ALL, leaves the host's own register empty, and changes the graph so where the premise holds: that what is handed
-- in is reached. What is doomed it leaves doomed then
pub record IsChange (premise : Type 0) (change : Graph → Graph) (old new : Keyed) : Type 0 where
  pub kept : KeepsAll old new
  pub spared : register new.heap (N spare) ≡ None
  pub stands : premise → StandsAfter old.heap new.heap change
  pub doomed : premise → KeepsDoomed old.heap new.heap

-- IT WAS TRIED: the same, but that the graph stays as it is in any case
pub record IsTried (premise : Type 0) (old new : Keyed) : Type 0 where
  pub kept : KeepsAll old new
  pub spared : register new.heap (N spare) ≡ None
  pub stands : StillStands old.heap new.heap
  pub doomed : premise → KeepsDoomed old.heap new.heap

-- what is held is as it was: it is there, under its name
pub record StaysThere (old new : Keyed) : Type 0 where
  pub there : (x : Option Held) → IsThere old x → IsThere new x
  pub same : (x : Option Held) → IsThere old x → held_name new x ≡ held_name old x

-- NO OBJECT CAME but this one
abbrev pub OneCame : Option Name → Heap → Heap → Type 0
OneCame made old new = (x : Name) → Among x (names_there new) → Among x (names_there old) ⊎ (Some x ≡ made)

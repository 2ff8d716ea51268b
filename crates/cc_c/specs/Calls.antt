-- WHAT A CALL MAKES OF A COLLECTOR.
use Rattle.std.specs.Prelude.{◌≡◌, ℕ, List, Option, None, Some, IsSome}
use Rattle.cc_names.specs.declared.name.Name.{Name}
use Rattle.cc_host.specs.Hosts.{State}
use Rattle.cc_host.specs.Spots.{IsWritten, Spot, WritesOnly}

-- a closed one stays closed, and the call says so; an open one stays open
pub record Stays (old new : Option State) (result : ℕ) : Type 0 where
  pub closed : old ≡ None → (result ≡ 1) × (new ≡ None)
  pub kept_open : IsSome old → IsSome new

-- of an open one: what it was, and what it becomes
abbrev pub Open : Option State → Option State → (State → State → Type 0) → Type 0
Open old new R = (s t : State) → old ≡ Some s → new ≡ Some t → R s t

-- what it is
abbrev pub Reads : Option State → (State → Type 0) → Type 0
Reads now R = (s : State) → now ≡ Some s → R s

-- THESE SPOTS ALONE ARE WRITTEN
abbrev pub Writes : List Spot → State → State → Type 0
Writes spots s t = WritesOnly spots s.host.heaps.heap t.host.heaps.heap

-- and one of them holds this from then on
abbrev pub Wrote : Spot → Option Name → State → Type 0
Wrote spot x t = IsWritten spot x t.host.heaps.heap

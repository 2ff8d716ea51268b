-- A counted heap between two calls.
use Rattle.std.specs.Prelude.{◌≡◌, []}
use Rattle.cc_counted.specs.Counts.{Counts}
use Rattle.cc_counted.specs.Lists.{counts_of, IsPlaced}
use Rattle.cc_counted.specs.Stored.{Stored}

-- what the natives show
abbrev pub shows : Stored → Counts
shows s = counts_of s.lists

-- the lists fit together, and no native waits
pub record IsAtRest (s : Stored) : Type 0 where
  pub placed : IsPlaced s.lists
  pub emptied : s.lists.queue ≡ []

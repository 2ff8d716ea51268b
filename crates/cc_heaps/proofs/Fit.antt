-- THE FIELDS ARE IN ORDER, and they fit together.
use Rattle.std.specs.Prelude.{ℕ, List}
use Rattle.cc_heaps.specs.Keyed.{IsInOrder}
use Rattle.cc_heaps.specs.Fields.{keyed_of, IsLinked}
use Rattle.cc_heaps.specs.declared.heaps.Heaps.TheInside.{Inside}

-- where these references are owned besides
pub record IsFit (owned : List ℕ) (p : Inside) : Type 0 where
  pub order : IsInOrder owned (keyed_of p)
  pub linked : IsLinked p

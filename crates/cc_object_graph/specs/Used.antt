-- WHICH REGISTERS ARE IN USE: those before a number. From it on all are empty.
use Rattle.std.specs.Prelude.{ℕ, ◌≤◌, length}
use Rattle.cc_model.specs.Slots.{Slots}
use Rattle.cc_search.specs.Banks.{AreEmptyFrom}

pub record AreUsedBefore (slots : Slots) (n : ℕ) : Type 0 where
  pub within : n ≤ length slots
  pub empty : AreEmptyFrom slots n

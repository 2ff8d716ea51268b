-- WHAT A QUEUE KEEPS of what it was told.
use Rattle.std.specs.Prelude.{◌≡◌, ℕ, ◌≤◌, Bool, true, false, List, length, Some, None}
use Rattle.cc_model.specs.declared.item.Item.{Item}
use Rattle.cc_model.specs.Telling.{Telling}

-- the items that wait, in their order; how many it has room for; whether one was left out
pub record Queued : Type 0 where
  pub items : List Item
  pub room : ℕ
  pub broken : Bool

abbrev pub fault_of : Bool → ℕ
fault_of false = 0
fault_of true = 1

-- a queue as a receiver: its room is what no tell changes
abbrev pub telling_of : Queued → Telling
telling_of q = record { told = None; broken = q.broken; faults = fault_of q.broken; sink = q.room; sums = None; items = Some q.items }

-- NONE IS LEFT OUT while fewer wait than it has room for
abbrev pub LosesNone : Queued → Type 0
LosesNone q = q.broken ≡ true → q.room ≤ length q.items

-- WHAT A RECEIVER WAS TOLD that keeps every item, and was told these
abbrev pub told_all : List Item → Telling
told_all items = telling_of (record { items = items; room = 0; broken = false })

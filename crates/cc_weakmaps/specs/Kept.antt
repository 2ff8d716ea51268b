-- WHAT IS KEPT IN ALL: the entries, of how many objects by key a last place can be kept, and how much memory is there for
-- both and for the links.
use Rattle.std.specs.Prelude.{◌≡◌, ℕ, List}
use Rattle.cc_weakmaps.specs.Entries.{KeyedEntry}

pub record Kept : Type 0 where
  pub entries : List KeyedEntry
  pub known : ℕ
  pub room : ℕ

-- all lists have as much room as they had
pub record TakesNoMemory (old new : Kept) : Type 0 where
  pub known : new.known ≡ old.known
  pub room : new.room ≡ old.room

-- THE NATIVES AS THEY STAND IN MEMORY: their lists, and how many have room at their keys.
use Rattle.std.specs.Prelude.{◌≡◌, ◌≢◌, ℕ, ◌==◌, List, [], ◌∷◌, ◌++◌, Some, None, option_map, slice_set}
use Rattle.cc_lists.specs.Members.{without}
use Rattle.cc_walk.specs.Walks.{Walk}
use Rattle.cc_purple.specs.Marks.{Marked}
use Rattle.cc_counted.specs.Lists.{Placed, Lists, cell_at}

pub record Stored : Type 0 where
  pub lists : Lists
  pub capacity : ℕ

-- A CALL CHANGES ONE OF THE LISTS, and nothing else: the native at a key,
abbrev pub with_cell : ℕ → (Placed → Placed) → Stored → Stored
with_cell key change s = record s { lists = record s.lists { cells = slice_set s.lists.cells key (option_map change (cell_at s.lists.cells key)) } }

-- the queue,
abbrev pub with_queue : (List ℕ → List ℕ) → Stored → Stored
with_queue change s = record s { lists = record s.lists { queue = change s.lists.queue } }

-- the buffer,
abbrev pub with_marks : (List Marked → List Marked) → Stored → Stored
with_marks change s = record s { lists = record s.lists { marks = change s.lists.marks } }

-- or the walk
abbrev pub with_walk : (Walk → Walk) → Stored → Stored
with_walk change s = record s { lists = record s.lists { walk = change s.lists.walk } }

-- the native at a key leaves it and the order
abbrev pub without_cell : ℕ → Stored → Stored
without_cell key s = record s { lists = record s.lists { cells = slice_set s.lists.cells key None; order = without ◌==◌ key s.lists.order } }

-- a native came to stand at a key that held nothing, and last in the order
pub record Inserts (old new : Lists) (key : ℕ) (cell : Placed) : Type 0 where
  pub vacant : cell_at old.cells key ≡ None
  pub there : cell_at new.cells key ≡ Some cell
  pub others : (k : ℕ) → k ≢ key → cell_at new.cells k ≡ cell_at old.cells k
  pub lists : new ≡ record old { cells = new.cells; order = old.order ++ key ∷ [] }

-- HOW MUCH ROOM A GRAPH TAKES AND KEEPS: it comes and goes in blocks.
use Rattle.std.specs.Prelude.{ℕ, ◌+◌, ◌<◌, ◌≤◌, length, max}
use Rattle.cc_graph.specs.Shown.{Shown}

-- room for so many values in blocks of a size, and for less than a block more
pub record HasRoom (size count room : ℕ) : Type 0 where
  pub enough : count ≤ room
  pub given_back : room < count + size

-- room was taken for so many values in all, where there was less: no block more than they need, and none was given back
pub record TakesRoom (size count old new : ℕ) : Type 0 where
  pub kept : old ≤ new
  pub bounded : new < max (old + 1) (count + size)

-- an emptied graph has room for as many nodes, black ones and mappings as there were
pub record KeepsRoom (old new : Shown) : Type 0 where
  pub nodes : HasRoom 256 (length old.nodes) new.room.nodes
  pub blacks : HasRoom 256 (length old.blacks) new.room.blacks
  pub mappings : HasRoom 256 (length old.hyperedges) new.room.mappings

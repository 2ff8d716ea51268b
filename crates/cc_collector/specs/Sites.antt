-- WHERE COLLECTIONS STAND: the one that runs, and the room that the last one left.
use Rattle.std.specs.Prelude.{◌≡◌, ◌≤◌, length, min, Option, Some, None, IfSome}
use Rattle.cc_model.specs.End.{Progress, at_end, refused}
use Rattle.cc_graph.specs.Shown.{Shown, IsEmpty}
use Rattle.cc_builder.specs.Building.{Built}

-- the build that stands on a site, and the empty graph that waits there for the next one
pub record Place : Type 0 where
  pub running : Option Built
  pub room : Option Shown

-- what waits is empty, and nothing waits beside a build
pub record IsOneRoom (p : Place) : Type 0 where
  pub empty : IfSome p.room IsEmpty
  pub alone : IfSome p.running (λ b. p.room ≡ None)

-- a build stands in a room, where it has that room for references
abbrev pub StandsIn : Shown → Built → Type 0
StandsIn room b = b.graph.spare ≡ room.spare

-- a room is what a graph leaves: nothing is in it, and there is room for as many references as the graph had
pub record IsLeftBy (g room : Shown) : Type 0 where
  pub empty : IsEmpty room
  pub references : min (length g.edges) 4294967295 ≤ room.spare

-- and one is left, whatever may be
abbrev pub Leaves : Shown → Option Shown → Type 0
Leaves g None = ⊥
Leaves g (Some room) = IsLeftBy g room

-- A UNIT KEEPS THE ROOM: a build that begins stands in the room that waits, one that ends leaves its room, and where memory
-- was refused all of it is given back
pub record KeepsRoom (old new : Place) (progress : Progress) : Type 0 where
  pub begun : IfSome old.room (λ room. IfSome new.running (StandsIn room))
  pub ended : progress ≡ at_end → IfSome old.running (λ b. Leaves b.graph new.room)
  pub given_back : progress ≡ refused → new.room ≡ None

-- The parts of a script heap as they lie in memory, as the lists that they stand for; between two calls, and while they are marked.
use Rattle.std.specs.Prelude.{◌≡◌, List, [], length}
use Rattle.cc_names.specs.declared.kind.Colour.{Colour}
use Rattle.cc_chain.specs.Chains.{IsChain, walked}
use Rattle.cc_walk.specs.Walks.{Walk, split_at, states_of}
use Rattle.cc_walk.specs.WalkLists.{IsWalk}
use Rattle.cc_script.specs.declared.parts.ScriptParts.{ScriptParts}
use Rattle.cc_script.specs.Objects.{Object}
use Rattle.cc_script.specs.Lists.{Lists, objects_of, IsPlaced}
use Rattle.cc_script.specs.ColourOrder.{HasColourOrder}
use Rattle.cc_script.specs.Marking.{Marking, AreRaised}
use Rattle.cc_script.specs.Underway.{IsMarked}
use Rattle.cc_script.specs.Cells.{cells_of, links_in}
use Rattle.cc_script.specs.Threads.{of_order, of_waiting, of_walk}

-- the keys of the walk
abbrev pub walk_in : ScriptParts → Walk
walk_in p = split_at p.walk.next (walked (length p.cells.slots) (links_in of_walk p.cells.slots) p.walk.chain.first)

abbrev pub lists_of : ScriptParts → Lists
lists_of p = record {
  cells = cells_of p.cells.slots;
  order = walked (length p.cells.slots) (links_in of_order p.cells.slots) p.order.first;
  walks = states_of (walk_in p);
}

-- what the parts show
abbrev pub shows : ScriptParts → List Object
shows p = objects_of (lists_of p)

-- and while they are marked
abbrev pub marking_of : ScriptParts → Marking
marking_of p = record { objects = shows p; waiting = walked (length p.cells.slots) (links_in of_waiting p.cells.slots) p.waiting.first }

-- each chain is the list that is read from it, and the walk the set
pub record IsChained (p : ScriptParts) : Type 0 where
  pub order : IsChain (links_in of_order p.cells.slots) p.order (lists_of p).order
  pub waiting : IsChain (links_in of_waiting p.cells.slots) p.waiting (marking_of p).waiting
  pub walk : IsWalk (links_in of_walk p.cells.slots) p.walk (walk_in p)

-- the parts fit together, the colours are in order, and no object waits to be looked into
pub record IsAtRest (p : ScriptParts) : Type 0 where
  pub placed : IsPlaced (lists_of p)
  pub chained : IsChained p
  pub coloured : HasColourOrder (shows p)
  pub emptied : (marking_of p).waiting ≡ []

-- the parts fit together, and what waits to be looked into was raised
pub record IsUnderWay (to : Colour) (p : ScriptParts) : Type 0 where
  pub placed : IsPlaced (lists_of p)
  pub chained : IsChained p
  pub raised : AreRaised to (marking_of p)

-- a marking is under way, and the objects are marked in its colour
pub record IsBegun (to : Colour) (p : ScriptParts) : Type 0 where
  pub under_way : IsUnderWay to p
  pub marked : IsMarked to (marking_of p)

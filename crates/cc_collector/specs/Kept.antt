-- WHAT A COLLECTOR KEEPS between its calls: the running collection, and whether a script marking goes on; beside the heaps.
use Rattle.std.specs.Prelude.{◌≡◌, Bool, true, false, [], Option, None, IfSome, option_map}
use Rattle.cc_names.specs.Sizes.{weak_length}
use Rattle.cc_model.specs.Slots.{empty_slots}
use Rattle.cc_model.specs.View.{view}
use Rattle.cc_model.specs.Colours.{HasColourInvariant}
use Rattle.cc_model.specs.Snapshot.{Snapshot}
use Rattle.cc_model.specs.Collecting.{Machine}
use Rattle.cc_laws_snapshot.specs.Kinds.{IsFreshIn}
use Rattle.cc_laws_run.specs.Doomed.{IsSuspectedNow}
use Rattle.cc_graph.specs.Held.{AreHeld}
use Rattle.cc_heaps.specs.Keyed.{Keyed, IsInOrder}
use Rattle.cc_heaps.specs.HasKey.{HasKey}
use Rattle.cc_heaps.specs.NewMarks.{marks_of}
use Rattle.cc_heaps.specs.Changes.{KeepsKeys}
use Rattle.cc_heaps.specs.Standing.{KeepsFresh}
use Rattle.cc_builder.specs.Building.{Built, IsBuilt, snapshot_of}
use Rattle.cc_markslice.specs.Going.{IsMarkingWell}

-- the collection that runs, if any, and whether a marking goes on in the heaps
pub record Kept : Type 0 where
  pub running : Option Built
  pub marking : Bool

-- the snapshot of the running collection
abbrev pub running_snapshot : Option Built → Option Snapshot
running_snapshot c = option_map snapshot_of c

-- the heaps with a running collection, as the plain run has them
abbrev pub machine_with : Keyed → Option Built → Machine
machine_with v c = record { heap = v.heap; weak = empty_slots weak_length; marking = marks_of v; snapshot = running_snapshot c; memory = [] }

-- the heaps and what the collector keeps
abbrev pub machine_of : Keyed → Kept → Machine
machine_of v k = machine_with v k.running

-- NOTHING IS FORGOTTEN between these: if references led to each native that nothing reaches from a suspect, from a script
-- object that nothing reaches either, or from a candidate of the running collection, they do so now
abbrev pub ForgetsNothing : Machine → Machine → Type 0
ForgetsNothing old new = IsSuspectedNow old → IsSuspectedNow new

-- a build goes on over these heaps: its nodes stand for objects under their keys, and its snapshot is fresh
pub record GoesOn (v : Keyed) (b : Built) : Type 0 where
  pub built : IsBuilt b v
  pub held : AreHeld b.graph (HasKey v)
  pub fresh : IsFreshIn v.heap (snapshot_of b)

-- A MARKING GOES ON IN THE HEAPS exactly where the collector has one: it does so as it should, and no collection runs then
abbrev pub MarksIn : Keyed → Option Built → Bool → Type 0
MarksIn v c true = IsMarkingWell v × (c ≡ None)
MarksIn v c false = v.marking ≡ None

-- WHAT HOLDS BETWEEN THE CALLS: the heaps are in order and nothing is owned besides; no black script object has a gray one
-- in a slot, what script registers hold is black, nothing is white; the running collection goes on over them, or a marking does, or
-- neither
pub record RunsIn (v : Keyed) (k : Kept) : Type 0 where
  pub order : IsInOrder [] v
  pub colours : HasColourInvariant (view v.heap)
  pub goes_on : IfSome k.running (GoesOn v)
  pub marks : MarksIn v k.running k.marking

-- what holds between units of a collection, while no marking goes on
pub record RunsAlone (v : Keyed) (c : Option Built) : Type 0 where
  pub order : IsInOrder [] v
  pub colours : HasColourInvariant (view v.heap)
  pub goes_on : IfSome c (GoesOn v)
  pub unmarked : v.marking ≡ None

-- A CHANGE MAY COME BETWEEN UNITS where it keeps every snapshot fresh, and each object its key: so it takes no script object
-- that is a node, and brings back no native that is no more. And it leaves a marking going on as it should, and begins none
pub record MayComeBetween (old new : Keyed) : Type 0 where
  pub order : IsInOrder [] new
  pub colours : HasColourInvariant (view new.heap)
  pub fresh : KeepsFresh old.heap new.heap
  pub keys : KeepsKeys old new
  pub marks : IsMarkingWell old → IsMarkingWell new
  pub unmarked : old.marking ≡ None → new.marking ≡ None

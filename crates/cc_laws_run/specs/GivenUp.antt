-- A COLLECTION THAT IS GIVEN UP under an ask, since a unit of it was refused memory.
use Rattle.std.specs.Prelude.{◌≡◌, ◌⊎◌, List, [], ◌∷◌, ◌++◌, Option, Some, None}
use Rattle.cc_model.specs.declared.item.Event.{Event}
use Rattle.cc_model.specs.declared.item.Event.TheVariants.{Abandoned}
use Rattle.cc_model.specs.Heap.{Heap}
use Rattle.cc_model.specs.Snapshot.{Snapshot}
use Rattle.cc_model.specs.Units.{candidates_of, with_empty_buffer}
use Rattle.cc_model.specs.End.{give_back, refused}
use Rattle.cc_model.specs.Collecting.{Machine, UnitsDone, finish_marking, finish_running}

-- WHAT IS LEFT OF THE HEAPS, from the ask on, or from where it ended a marking. Where a collection ran, its candidates are purple in
-- the buffer again. Where it began under this ask, its begin was refused, which leaves the heaps; or a later unit: then the buffer has
-- what was purple in it, as candidates that came back, and nothing else.
abbrev pub IsGivenUp : Heap → Option Snapshot → Heap → Type 0
IsGivenUp h (Some s) k = k ≡ give_back s.candidates h
IsGivenUp h None k = (k ≡ h) ⊎ (k ≡ give_back (candidates_of h) (with_empty_buffer h))

-- units from a machine gave the collection up: no collection runs, and behind what was told before, one abandonment is told
pub record GivesUp (m : Machine) (before : List Event) (d : UnitsDone) : Type 0 where
  pub heap : IsGivenUp m.heap m.snapshot d.machine.heap
  pub snapshot : d.machine.snapshot ≡ None
  pub events : d.events ≡ before ++ Abandoned ∷ []

-- a whole collection of cycles gave one up: the collection that ran, or the one that it began where that had ended or none ran; and
-- this was told before
abbrev pub CyclesGiveUp : Machine → List Event → UnitsDone → Type 0
CyclesGiveUp m before d = GivesUp m before d
    ⊎ ((¬ ((finish_running m).progress ≡ refused)) × GivesUp (finish_running m).machine (before ++ (finish_running m).events) d)

-- `slice` gave the collection up, behind the end of a marking that went on, which stays
abbrev pub SliceGivesUp : Machine → UnitsDone → Type 0
SliceGivesUp m d = GivesUp (finish_marking m).machine (finish_marking m).events d

-- `collect` gave one up, behind that
abbrev pub CollectGivesUp : Machine → UnitsDone → Type 0
CollectGivesUp m d = CyclesGiveUp (finish_marking m).machine (finish_marking m).events d

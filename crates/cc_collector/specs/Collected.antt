-- WHAT UNITS, COLLECTIONS, `gc` AND MARKINGS COME TO, as the plain run does them for some answers of memory.
use Rattle.std.specs.Prelude.{◌≡◌, ℕ, zero, suc, ◌+◌, Bool, ◌⊎◌, List, Result, Ok, Err}
use Rattle.cc_lists.specs.Members.{Among}
use Rattle.cc_names.specs.declared.name.Name.{Name}
use Rattle.cc_names.specs.declared.no_memory.NoMemory.{NoMemory}
use Rattle.cc_model.specs.Telling.{Telling, TellsEvents}
use Rattle.cc_model.specs.declared.item.Event.{Event}
use Rattle.cc_model.specs.declared.item.Event.TheVariants.{Unlinked, Freed}
use Rattle.cc_model.specs.Graph.{Graph}
use Rattle.cc_model.specs.WellMade.{IsWellMade}
use Rattle.cc_model.specs.Reached.{Reached}
use Rattle.cc_model.specs.StandsFor.{StandsFor}
use Rattle.cc_model.specs.Heap.{Heap}
use Rattle.cc_model.specs.End.{Progress, went_on, at_end, refused}
use Rattle.cc_model.specs.Collecting.{Machine, UnitsDone, no_units, one_unit, one_marked, finish_running, finish_marking, starting_anew, slice, collect, gc, mark}
use Rattle.cc_laws_run.specs.GivenUp.{IsGivenUp}
use Rattle.cc_laws_run.specs.Memory.{SameMachine, with_memory}
use Rattle.cc_gc.specs.Sparing.{SparesWhatIsReached}
use Rattle.cc_collector.specs.declared.collector.Ended.{Ended}
use Rattle.cc_collector.specs.declared.collector.Ended.TheVariants.{Yes, No}

-- what a slice answers, as progress
abbrev pub progress_of : Result Ended NoMemory → Progress
progress_of (Ok Yes) = at_end
progress_of (Ok No) = went_on
progress_of (Err e) = refused

-- a unit counts where it was not refused
abbrev pub counted_one : Progress → ℕ
counted_one went_on = 1
counted_one at_end = 1
counted_one refused = 0

-- HOW MANY OF n UNITS COUNT: those that are done until one ends the collection or is refused
abbrev pub units_counted : ℕ → UnitsDone → ℕ
units_counted zero d = 0
units_counted (suc n) d = elim d.progress [
  | went_on ↦ let e = one_unit d.machine d.events in counted_one e.progress + units_counted n e
  | at_end ↦ 0
  | refused ↦ 0
]

-- what these events free or unlink is reached in no graph that the heaps stand for
abbrev pub SparesInEachGraph : Heap → List Event → Type 0
SparesInEachGraph h events = (g : Graph) (x : Name) → IsWellMade g → StandsFor h g →
    Among (Freed x) events ⊎ Among (Unlinked x) events → ¬ (Reached g x)

-- from a machine units led to another, with the progress of the last, and what they tell is told; they spare what is reached,
-- in each graph that the heaps stand for, and from the registers
pub record LedTo (d : UnitsDone) (old new : Machine) (progress : Progress) (before after : Telling) : Type 0 where
  pub same : SameMachine d.machine new
  pub came_to : d.progress ≡ progress
  pub told : TellsEvents before after d.events
  pub spares : SparesInEachGraph old.heap d.events
  pub unreached : SparesWhatIsReached old.heap new.heap d.events

-- A SLICE of so many units; the counter is raised by as many as count, those aside that end a marking
pub record IsSliced (units : ℕ) (old new : Machine) (progress : Progress) (steps steps_now : ℕ) (before after : Telling) : Type 0 where
  pub memory : List Bool
  pub led : LedTo (slice units (with_memory old memory)) old new progress before after
  pub counted : steps_now ≡ steps + units_counted units (no_units (finish_marking (with_memory old memory)).machine)

-- A COLLECTION, before which a marking or a running one was ended
pub record IsCollected (old new : Machine) (progress : Progress) (before after : Telling) : Type 0 where
  pub memory : List Bool
  pub led : LedTo (collect (with_memory old memory)) old new progress before after

-- what the collection left that was begun where the running one had ended, or where none ran, and that was given up
abbrev pub IsLaterGivenUp : UnitsDone → Heap → Type 0
IsLaterGivenUp ended h = (¬ (ended.progress ≡ refused)) × IsGivenUp ended.machine.heap ended.machine.snapshot h

-- A COLLECTION GIVEN UP left these heaps, behind the end of a marking that went on
abbrev pub IsSliceGivenUp : Machine → Heap → Type 0
IsSliceGivenUp old h = IsGivenUp (finish_marking old).machine.heap old.snapshot h

-- the one that ran, or that later one, for some answers of memory
abbrev pub IsCollectGivenUp : Machine → Heap → Type 0
IsCollectGivenUp old h = IsSliceGivenUp old h ⊎ ((memory : List Bool) × IsLaterGivenUp (finish_running (with_memory (finish_marking old).machine memory)) h)

-- how many of n units of a marking are done: until one ends it
abbrev pub marks_counted : ℕ → UnitsDone → ℕ
marks_counted zero d = 0
marks_counted (suc n) d = elim d.progress [
  | went_on ↦ suc (marks_counted n (one_marked d.machine d.events))
  | at_end ↦ 0
  | refused ↦ 0
]

-- UNITS OF A MARKING, so many at most, which ended a running collection first, whatever that came to; the counter is raised by as many
-- as were done
pub record IsMarkedOn (units : ℕ) (old new : Machine) (ended : Ended) (steps steps_now : ℕ) (before after : Telling) : Type 0 where
  pub memory : List Bool
  pub led : LedTo (mark units (with_memory old memory)) old new (progress_of (Ok ended)) before after
  pub counted : steps_now ≡ steps + marks_counted units (starting_anew (finish_running (with_memory old memory)))

-- `gc`, which dropped a marking and ended a running collection first, whatever that came to
pub record IsSwept (old new : Machine) (before after : Telling) : Type 0 where
  pub memory : List Bool
  pub led : LedTo (gc (with_memory old memory)) old new (gc (with_memory old memory)).progress before after

-- WHAT IS TOLD, without the definitions: no register reaches what is unlinked or freed, and what is freed is all that leaves
pub record TellsWhatLeaves (old new : Heap) (before after : Telling) : Type 0 where
  pub events : List Event
  pub told : TellsEvents before after events
  pub unreached : SparesWhatIsReached old new events

-- ONE UNIT, AND UNITS TO THE END, over the heaps with their keys.
use Rattle.std.specs.Prelude.{◌≡◌, ◌≢◌, ℕ, ◌+◌, ◌-◌, ◌<◌, Bool, true, false, List, [], ◌++◌, length, Option, Some, None, is_some, Ok}
use Rattle.cc_lists.specs.Members.{Among}
use Rattle.cc_names.specs.declared.name.Name.{Name}
use Rattle.cc_model.specs.Telling.{Telling, TellsEvents}
use Rattle.cc_model.specs.declared.item.Event.{Event}
use Rattle.cc_model.specs.WellFormed.{native_names, script_names}
use Rattle.cc_model.specs.End.{Progress, went_on, at_end, unit, unit_came}
use Rattle.cc_model.specs.Collecting.{Machine, no_units, units_done, units_came, one_marked, finish_marking}
use Rattle.cc_laws_run.specs.Memory.{with_memory}
use Rattle.cc_heaps.specs.Keyed.{Keyed}
use Rattle.cc_heaps.specs.Standing.{StillStands}
use Rattle.cc_heaps.specs.Keeping.{KeepsHeaps}
use Rattle.cc_builder.specs.Building.{Built}
use Rattle.cc_gc.specs.Sparing.{KeepsWhatIsReached, SparesWhatIsReached}
use Rattle.cc_collector.specs.declared.collector.Ended.{Ended}
use Rattle.cc_collector.specs.declared.collector.Ended.TheVariants.{Yes, No}
use Rattle.cc_collector.specs.Kept.{ForgetsNothing, RunsAlone, RunsIn, machine_with}
use Rattle.cc_collector.specs.Collected.{progress_of, units_counted}

-- ONE UNIT leads from one machine to another, for some answer of memory; it leaves what stands beside the heaps
pub record IsUnit (old new : Machine) (events : List Event) (progress : Progress) : Type 0 where
  pub memory : Bool
  pub is : unit old.heap old.snapshot memory ≡ unit_came new.heap new.snapshot events progress
  pub weak : new.weak ≡ old.weak
  pub marking : new.marking ≡ old.marking

-- SO MANY UNITS WENT ON: with any later answers of memory there are answers that lead here, and what follows follows
pub record HasGoneOn (so_far : ℕ) (before now : Machine) : Type 0 where
  pub memory : List Bool → List Bool
  pub later : (rest : List Bool) (n : ℕ) →
      units_done (so_far + n) (no_units (with_memory before (memory rest))) ≡ units_done n (no_units (with_memory now rest))
  pub counted : (rest : List Bool) (n : ℕ) →
      units_counted (so_far + n) (no_units (with_memory before (memory rest))) ≡ so_far + units_counted n (no_units (with_memory now rest))

-- so many units, the last of which ended the collection or was refused, with any later answers of memory
pub record HasStopped (before now : Machine) (events : List Event) (progress : Progress) : Type 0 where
  pub units : ℕ
  pub memory : List Bool → List Bool
  pub come : (rest : List Bool) →
      units_done units (no_units (with_memory before (memory rest))) ≡ units_came (with_memory now rest) events progress
  pub stopped : progress ≢ went_on

-- WHAT EACH UNIT KEEPS of the heaps and the running collection; it makes no object
pub record Keeps (v : Keyed) (c : Option Built) (w : Keyed) (d : Option Built) : Type 0 where
  pub runs : RunsAlone w d
  pub stands : StillStands v.heap w.heap
  pub suspected : ForgetsNothing (machine_with v c) (machine_with w d)
  pub natives_left : (x : Name) → Among x (native_names w.heap) → Among x (native_names v.heap)
  pub scripts_left : (x : Name) → Among x (script_names w.heap) → Among x (script_names v.heap)
  pub kept : KeepsHeaps [] [] v w

-- how many units can be left: begin, one for each object that was made, and end
abbrev pub units_left : Keyed → Option Built → ℕ
units_left v None = v.heap.natives_made + length v.heap.scripts + 2
units_left v (Some b) = v.heap.natives_made + length v.heap.scripts + 1 - b.next

-- A UNIT IS DONE, and told
pub record HasDoneUnit (v : Keyed) (c : Option Built) (w : Keyed) (d : Option Built) (progress : Progress) (before after : Telling) : Type 0 where
  pub events : List Event
  pub unit : IsUnit (machine_with v c) (machine_with w d) events progress
  pub told : TellsEvents before after events
  pub keeps : Keeps v c w d
  pub fewer : progress ≡ went_on → units_left w d < units_left v c
  pub over : progress ≢ went_on → d ≡ None

-- UNITS ARE DONE TO THE END, or until one was refused, and told
pub record HasDoneAll (v : Keyed) (c : Option Built) (w : Keyed) (progress : Progress) (before after : Telling) : Type 0 where
  pub events : List Event
  pub stopped : HasStopped (machine_with v c) (machine_with w None) events progress
  pub told : TellsEvents before after events
  pub keeps : Keeps v c w None

-- a running collection IS FINISHED; where none runs nothing is done
pub record HasFinished (v : Keyed) (c : Option Built) (w : Keyed) (before after : Telling) : Type 0 where
  pub idle : is_some c ≡ false → (w ≡ v) × (after ≡ before)
  pub ran : is_some c ≡ true → HasDoneAll v c w at_end before after

-- WHAT IS REACHED IS SPARED by what was done, which told these events; the heaps go on standing for the same graphs, nothing is forgotten,
-- and what stays keeps its key
pub record HasSpared (v : Keyed) (c : Option Built) (w : Keyed) (d : Option Built) (events : List Event) : Type 0 where
  pub keeps : KeepsWhatIsReached v.heap w.heap
  pub spares : SparesWhatIsReached v.heap w.heap events
  pub stands : StillStands v.heap w.heap
  pub suspected : ForgetsNothing (machine_with v c) (machine_with w d)
  pub kept : KeepsHeaps [] [] v w

-- A MARKING IS FINISHED, as the plain run does it whatever memory answers, and told; where none goes on nothing is done
pub record HasFinishedMarking (v : Keyed) (c : Option Built) (w : Keyed) (before after : Telling) : Type 0 where
  pub events : List Event
  pub progress : Progress
  pub finished : (memory : List Bool) →
      finish_marking (with_memory (machine_with v c) memory) ≡ units_came (with_memory (machine_with w c) memory) events progress
  pub told : TellsEvents before after events
  pub spared : HasSpared v c w c events
  pub runs : RunsAlone w c

-- ONE UNIT OF A MARKING IS DONE, and told: where the collector had a marking or not, and where it has one or not
pub record HasMarkedUnit (v : Keyed) (had : Bool) (w : Keyed) (has : Bool) (ended : Ended) (before after : Telling) : Type 0 where
  pub events : List Event
  pub unit : (es : List Event) → one_marked (machine_with v None) es ≡ units_came (machine_with w None) (es ++ events) (progress_of (Ok ended))
  pub told : TellsEvents before after events
  pub spared : HasSpared v None w None events
  pub runs : RunsIn w (record { running = None; marking = has })
  -- it tells nothing but at the end
  pub goes_on : ended ≡ No → (has ≡ true) × (events ≡ [])
  pub over : ended ≡ Yes → has ≡ false

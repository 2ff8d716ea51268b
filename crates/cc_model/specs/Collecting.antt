-- Slices, whole collections, `gc`, and script markings.
use Rattle.std.specs.Prelude.{ℕ, zero, suc, ◌+◌, Bool, true, false, List, [], ◌∷◌, ◌++◌, length, Option, Some, None, is_some}
use Rattle.cc_names.specs.Allowance.{Allowance}
use Rattle.cc_names.specs.Sizes.{weak_length}
use Rattle.cc_model.specs.declared.item.Event.{Event}
use Rattle.cc_model.specs.declared.item.Refusal.TheVariants.{NoMemory}
use Rattle.cc_model.specs.declared.item.Reply.{Reply}
use Rattle.cc_model.specs.declared.item.Reply.TheVariants.{Done, Refused}
use Rattle.cc_model.specs.Mutating.{Running, so_many, whole}
use Rattle.cc_model.specs.Slots.{Slots, empty_slots}
use Rattle.cc_model.specs.Heap.{Heap, Outcome, empty_heap}
use Rattle.cc_model.specs.View.{view}
use Rattle.cc_model.specs.Sweep.{collect_scripts}
use Rattle.cc_model.specs.Marking.{NewMarks, begun_marks, is_scanned, scanned, ended_marks, scans_left}
use Rattle.cc_model.specs.Snapshot.{Snapshot}
use Rattle.cc_model.specs.Units.{first_names}
use Rattle.cc_model.specs.End.{Progress, went_on, at_end, refused, UnitDone, unit, may_be_refused}

-- the heaps, what weak registers note, the script marking that goes on, the running collection, and the answers of memory that
-- are left
pub record Machine : Type 0 where
  pub heap : Heap
  pub weak : Slots
  pub marking : Option NewMarks
  pub snapshot : Option Snapshot
  pub memory : List Bool

-- with empty weak registers, where no marking goes on
abbrev pub machine_at : Heap → Option Snapshot → List Bool → Machine
machine_at h s memory = record { heap = h; weak = empty_slots weak_length; marking = None; snapshot = s; memory = memory }

abbrev pub empty_machine : Allowance → List Bool → Machine
empty_machine limits memory = machine_at (empty_heap limits) None memory

-- an answer of memory; where the list has ended, memory is there
abbrev pub next_answer : List Bool → Bool
next_answer [] = true
next_answer (b ∷ bs) = b

abbrev pub later_answers : List Bool → List Bool
later_answers [] = []
later_answers (b ∷ bs) = bs

-- Units one after the other

-- what was told so far, and what the last of them came to
pub record UnitsDone : Type 0 where
  pub machine : Machine
  pub events : List Event
  pub progress : Progress

-- what units came to
abbrev pub units_came : Machine → List Event → Progress → UnitsDone
units_came m events progress = record { machine = m; events = events; progress = progress }

abbrev pub no_units : Machine → UnitsDone
no_units m = units_came m [] went_on

-- memory is asked only where the unit may be refused
abbrev pub memory_after : Machine → List Bool
memory_after m = elim (may_be_refused m.heap m.snapshot) [ true ↦ later_answers m.memory | false ↦ m.memory ]

abbrev pub with_unit : Machine → List Event → UnitDone → UnitsDone
with_unit m events u = units_came (record m { heap = u.heap; snapshot = u.snapshot; memory = memory_after m }) (events ++ u.events) u.progress

abbrev pub one_unit : Machine → List Event → UnitsDone
one_unit m events = with_unit m events (unit m.heap m.snapshot (next_answer m.memory))

-- n units, or fewer where one ends the collection or is refused
unfoldable pub units_done : ℕ → UnitsDone → UnitsDone
units_done zero d = d
units_done (suc n) d = elim d.progress [
  | went_on ↦ units_done n (one_unit d.machine d.events)
  | at_end ↦ d
  | refused ↦ d
]

-- the nodes of the running collection, or those that a begin makes
abbrev pub nodes_so_far : Heap → Option Snapshot → ℕ
nodes_so_far h None = length (first_names h)
nodes_so_far h (Some s) = length s.nodes

-- begin, a unit for each node, end: each node that comes later is what an edge leads to, and no edge brings two
abbrev pub enough_units : Machine → ℕ
enough_units m = nodes_so_far m.heap m.snapshot + length (view m.heap).edges + 2

-- units until the collection ends or is refused
abbrev pub to_the_end : UnitsDone → UnitsDone
to_the_end d = units_done (enough_units d.machine) d

-- a running collection brought to its end
abbrev pub finish_running : Machine → UnitsDone
finish_running m = elim (is_some m.snapshot) [ true ↦ to_the_end (no_units m) | false ↦ no_units m ]

-- so many units of collections of cycles, of the one that runs or of one that begins here; no second one begins
unfoldable pub slice_cycles : ℕ → Machine → UnitsDone
slice_cycles n m = units_done n (no_units m)

abbrev pub starting_anew : UnitsDone → UnitsDone
starting_anew d = record d { progress = went_on }

abbrev pub unless_stopped : UnitsDone → UnitsDone
unless_stopped d = elim d.progress [
  | refused ↦ d
  | went_on ↦ to_the_end (starting_anew d)
  | at_end ↦ to_the_end (starting_anew d)
]

-- a whole collection of cycles: a running one is ended first; where that is refused memory, no other begins
unfoldable pub collect_cycles : Machine → UnitsDone
collect_cycles m = unless_stopped (finish_running m)

-- Units of a script marking

abbrev pub with_outcome : UnitsDone → Outcome → UnitsDone
with_outcome d o = record d { machine = record d.machine { heap = o.heap }; events = d.events ++ o.events }

-- one unit: it begins, or one object is scanned, or it ends where none is left to scan
abbrev pub one_marked : Machine → List Event → UnitsDone
one_marked m events = elim m.marking [
  | None ↦ units_came (record m { marking = Some (begun_marks m.heap) }) events went_on
  | Some marks ↦ elim (is_scanned marks) [
    | true ↦ with_outcome (units_came (record m { marking = None }) events at_end) (ended_marks m.heap marks)
    | false ↦ units_came (record m { marking = Some (scanned m.heap marks) }) events went_on
  ]
]

-- n units, or fewer where one ends the marking
abbrev pub units_marked : ℕ → UnitsDone → UnitsDone
units_marked zero d = d
units_marked (suc n) d = elim d.progress [
  | went_on ↦ units_marked n (one_marked d.machine d.events)
  | at_end ↦ d
  | refused ↦ d
]

-- THE MARKING THAT GOES ON is brought to its end, by a unit for each scan that is left, and one more
unfoldable pub finish_marking : Machine → UnitsDone
finish_marking m = elim m.marking [ None ↦ no_units m | Some marks ↦ units_marked (suc (scans_left marks)) (no_units m) ]

-- what units told before, in front of what others tell
abbrev pub behind : UnitsDone → UnitsDone → UnitsDone
behind before d = record d { events = before.events ++ d.events }

-- SLICE: a marking that goes on is ended first, outside the units; then a collection begins where none runs, and no second one does
unfoldable pub slice : ℕ → Machine → UnitsDone
slice n m = behind (finish_marking m) (slice_cycles n (finish_marking m).machine)

-- COLLECT: a marking that goes on is ended first, and then a running collection; where that is refused memory, no other begins
unfoldable pub collect : Machine → UnitsDone
collect m = behind (finish_marking m) (collect_cycles (finish_marking m).machine)

abbrev pub then_scripts : UnitsDone → UnitsDone
then_scripts d = with_outcome d (collect_scripts d.machine.heap)

abbrev pub without_marking : Machine → Machine
without_marking m = record m { marking = None }

-- GC: a marking that goes on is dropped, and a running collection is ended; where that is refused memory, it is abandoned, and gc goes
-- on
unfoldable pub gc : Machine → UnitsDone
gc m = then_scripts (finish_running (without_marking m))

-- MARK: a running collection is ended first, as `gc` does; then a marking begins where none goes on, and no second one does

unfoldable pub mark : ℕ → Machine → UnitsDone
mark n m = units_marked n (starting_anew (finish_running m))

-- script objects collected at once, or in so many units of a marking
abbrev pub run_scripts : Machine → Running → UnitsDone
run_scripts m whole = gc m
run_scripts m (so_many n) = mark n m

-- the reply to a slice and to a collection
abbrev pub reply_to_units : Progress → Reply
reply_to_units went_on = Done
reply_to_units at_end = Done
reply_to_units refused = Refused NoMemory

-- A MACHINE THAT RUNS, beside the graph and the names that a census would list.
use Rattle.std.specs.Prelude.{◌≡◌, ℕ, ◌≤◌, Bool, true, false, List, [], ◌∷◌, Option, Some, None}
use Rattle.cc_lists.specs.Members.{Among}
use Rattle.cc_names.specs.Names.{native}
use Rattle.cc_model.specs.Ranges.{in_range}
use Rattle.cc_model.specs.Answers.{Answer}
use Rattle.cc_model.specs.Mutating.{Class, says, does, forgets, reads_weak, runs, collects_scripts, class_of}
use Rattle.cc_model.specs.Asks.{Ask, long, bad, taken}
use Rattle.cc_model.specs.Heap.{Heap}
use Rattle.cc_model.specs.View.{view}
use Rattle.cc_model.specs.WellMade.{IsWellMade}
use Rattle.cc_model.specs.StandsFor.{StandsFor}
use Rattle.cc_model.specs.Ended.{EndedAgrees}
use Rattle.cc_model.specs.Colours.{HasColourInvariant}
use Rattle.cc_model.specs.Snapshot.{Snapshot}
use Rattle.cc_model.specs.Fresh.{IsFresh}
use Rattle.cc_model.specs.Listed.{census_order}
use Rattle.cc_model.specs.Lawful.{State, next}
use Rattle.cc_model.specs.Collecting.{Machine}
use Rattle.cc_model.specs.Run.{census_names}
use Rattle.cc_model.specs.Marking.{NewMarks}
use Rattle.cc_laws_heap.specs.Sound.{IsSound}
use Rattle.cc_laws_heap.specs.UnderMarking.{IsUnderMarking, IsScannedSoFar}

-- the snapshot of the running collection is fresh
abbrev pub IsFreshNow : Heap → Option Snapshot → Type 0
IsFreshNow h None = Unit {0}
IsFreshNow h (Some s) = IsFresh h.natives_made (view h) s

-- a script marking goes on as it should: script registers hold what is black by its marks, and natives what is marked; what was
-- scanned has given its mark on; and no collection runs beside it
pub record IsMarking (h : Heap) (marks : NewMarks) (o : Option Snapshot) : Type 0 where
  pub under : IsUnderMarking h marks
  pub so_far : IsScannedSoFar h marks
  pub alone : o ≡ None

-- so it does, where one goes on
abbrev pub IsMarkingNow : Heap → Option NewMarks → Option Snapshot → Type 0
IsMarkingNow h None o = Unit {0}
IsMarkingNow h (Some marks) o = IsMarking h marks o

-- the heaps are sound and stand for the graph, their snapshot is fresh, and their objects are those listed; the weak registers note
-- what the graph's note, and the natives that have ended are those that are gone or were unlinked. A marking that goes on does so as it
-- should, where no collection runs
pub record IsRunning (m : Machine) (s : State) : Type 0 where
  pub sound : IsSound [] m.heap
  pub colours : HasColourInvariant (view m.heap)
  pub fresh : IsFreshNow m.heap m.snapshot
  pub well_made : IsWellMade s.graph
  pub marking : IsMarkingNow m.heap m.marking m.snapshot
  pub stands : StandsFor m.heap s.graph
  pub listed : census_names m.heap ≡ census_order s.listed
  pub weak : m.weak ≡ s.graph.weak_registers
  pub ended : EndedAgrees m.heap s.ended
  pub ended_made : (k : ℕ) → Among (native k) s.ended → k ≤ m.heap.natives_made

-- the numbers of an ask are in range
abbrev pub ask_in_range : Ask → Bool
ask_in_range long = true
ask_in_range bad = true
ask_in_range (taken c) = in_range c

-- a command of this class moves no collection
abbrev pub moves_none : Class → Bool
moves_none (says q) = true
moves_none does = true
moves_none forgets = true
moves_none (reads_weak d w) = true
moves_none (runs u) = false
moves_none (collects_scripts u) = false

-- an ask that moves no collection
abbrev pub moves_no_collection : Ask → Bool
moves_no_collection long = true
moves_no_collection bad = true
moves_no_collection (taken c) = moves_none (class_of c)

-- the graph and the names that a census would list, after asks and the answers to them
abbrev pub state_after : State → List Ask → List Answer → State
state_after s [] answers = s
state_after s (ask ∷ asks) [] = s
state_after s (ask ∷ asks) (a ∷ answers) = state_after (next s ask a) asks answers

-- THE PLAIN RUN IS QUIET: after `gc`, `collect` and `gc` in a row a census lists exactly the reached objects.
use Rattle.std.specs.Prelude.{IsTrue, ◌↔◌}
use Rattle.std.proofs.Common.{arith, ◌≡◌, Bool, List, [], ◌∷◌, Some}
use Rattle.std.specs.List.{list_all}
use Rattle.std.proofs.lemmas.Bool.{and_parts}
use Rattle.cc_lists.specs.Members.{Among}
use Rattle.cc_lists.proofs.Members.{Among-filter, Among-left, Among-right}
use Rattle.cc_names.specs.Allowance.{Allowance}
use Rattle.cc_names.specs.declared.name.Name.{Name}
use Rattle.cc_model.specs.Asks.{Ask}
use Rattle.cc_model.specs.Heap.{empty_heap}
use Rattle.cc_model.specs.View.{view, ReachedIn}
use Rattle.cc_model.specs.WellFormed.{names_there}
use Rattle.cc_model.specs.Suspected.{IsSuspected}
use Rattle.cc_model.specs.End.{refused}
use Rattle.cc_model.specs.Listed.{census_order}
use Rattle.cc_model.specs.Lawful.{State, start, next}
use Rattle.cc_model.specs.Quiet.{Row, nothing_yet, after_gc, after_collect, after_all, row_after_gc, row_after_collect, row_after, ListsReached, CensusIsQuiet, IsQuietFrom, IsQuiet}
use Rattle.cc_model.specs.Collecting.{Machine, empty_machine, collect, gc, reply_to_units}
use Rattle.cc_model.specs.Run.{do_ask, turns, plain_run}
use Rattle.cc_laws_heap.proofs.ReachedAlike.{reached-in, in-reached}
use Rattle.cc_laws_run.specs.Doomed.{IsSuspectedNow}
use Rattle.cc_laws_run.specs.Running.{IsRunning, ask_in_range}
use Rattle.cc_laws_run.proofs.FreedListed.{there-listed}
use Rattle.cc_laws_run.proofs.RunsOn.{empty-runs}
use Rattle.cc_laws_run.proofs.AsksSuspected.{ask-suspected}
use Rattle.cc_laws_run.proofs.PlainLawful.{any-runs}
use Rattle.cc_laws_run.proofs.QuietRow.{row-quiet}

-- What the row says of the machine

-- exactly what the registers reach is there
abbrev IsExact : Machine → Type 0
IsExact m = (x : Name) → Among x (names_there m.heap) ↔ ReachedIn (view m.heap) x

-- the machine is what `gc` left of one that runs and forgot no unreached native
record IsAfterGc (m : Machine) : Type 0 where
  before : Machine
  state : State
  runs : IsRunning before state
  suspected : IsSuspectedNow before
  same : m ≡ (gc before).machine

-- the machine is what `gc` and then a collection that was not refused left of such a one
record IsAfterCollect (m : Machine) : Type 0 where
  before : Machine
  state : State
  runs : IsRunning before state
  suspected : IsSuspectedNow before
  done : ¬ ((collect (gc before).machine).progress ≡ refused)
  same : m ≡ (collect (gc before).machine).machine

-- what is known of the machine at each place of the row
abbrev InRow : Row → Machine → Type 0
InRow nothing_yet m = Unit {0}
InRow after_gc m = IsAfterGc m
InRow after_collect m = IsAfterCollect m
InRow after_all m = IsAfterGc m × IsExact m

-- `gc` takes the row on
gc-row : (row : Row) (m : Machine) (s : State) → IsRunning m s → IsSuspectedNow m → InRow row m → InRow (row_after_gc row) (gc m).machine
gc-row row m s r suspected t = grind (arith, row-quiet)

-- a collection that is done takes the row on, too
collect-row : (row : Row) (m : Machine) → InRow row m → InRow (row_after_collect row (Some (reply_to_units (collect m).progress))) (collect m).machine
collect-row row m t = grind arith

-- each ask leaves the row as it says
ask-row : (row : Row) (m : Machine) (s : State) (ask : Ask) → IsRunning m s → IsSuspectedNow m → InRow row m →
    InRow (row_after row ask (do_ask m ask).answer) (do_ask m ask).machine
unfolding do_ask
ask-row row m s ask r suspected t = grind (arith, gc-row, collect-row)

-- The census

-- what is listed stands in census order
pub listed-census_order : (names : List Name) (x : Name) → Among x names → Among x (census_order names)
listed-census_order names x m = grind (arith, Among-left, Among-filter, Among-right)

-- where exactly what the registers reach is there, exactly the reached names are listed
lists-reached : (m : Machine) (s : State) → IsRunning m s → IsExact m → ListsReached s
lists-reached m s r exact x = grind (arith, in-reached, listed-census_order, there-listed, reached-in)

-- a census is quiet where the row is whole
census-quiet : (row : Row) (m : Machine) (s : State) (ask : Ask) → IsRunning m s → InRow row m → CensusIsQuiet row s ask
census-quiet row m s ask r t = grind (arith, lists-reached)

-- Asks in a row

-- asks in a row are quiet from a machine that runs and forgot none
asks-quiet : (row : Row) (m : Machine) (s : State) (asks : List Ask) → IsRunning m s → IsSuspectedNow m → InRow row m →
    IsTrue (list_all ask_in_range asks) → IsQuietFrom row s asks (turns m asks)
asks-quiet row m s [] r suspected t i = tt
asks-quiet row m s (ask ∷ asks) r suspected t i =
    let both = and_parts (ask_in_range ask) (list_all ask_in_range asks) i in (
      census-quiet row m s ask r t,
      asks-quiet (row_after row ask (do_ask m ask).answer) (do_ask m ask).machine (next s ask (do_ask m ask).answer) asks
          (any-runs m s ask r both.0) (ask-suspected m s ask r both.0 suspected) (ask-row row m s ask r suspected t) both.1,
    )

-- in the empty heaps no native is forgotten
pub empty-suspected : (limits : Allowance) → IsSuspected (view (empty_heap limits)) []
empty-suspected limits u c m unreached = absurd m

-- THE PLAIN RUN IS QUIET.
pub run-quiet : (limits : Allowance) (memory : List Bool) (asks : List Ask) → IsTrue (list_all ask_in_range asks) →
    IsQuiet limits asks (plain_run limits memory asks)
run-quiet limits memory asks i =
    asks-quiet nothing_yet (empty_machine limits memory) (start limits) asks (empty-runs limits memory) (empty-suspected limits) tt i

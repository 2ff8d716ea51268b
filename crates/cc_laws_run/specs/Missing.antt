-- WHAT A COLLECTION AFTER `gc` UNLINKS.
use Rattle.std.specs.Prelude.{◌≡◌, ◌↔◌, ℕ, suc, IsTrue, Bool, true, false, ◌⊎◌, List, [], ◌∷◌, ◌++◌, filter}
use Rattle.std.specs.List.{list_all}
use Rattle.cc_lists.specs.Members.{Among}
use Rattle.cc_names.specs.Allowance.{Allowance}
use Rattle.cc_names.specs.declared.name.Name.{Name}
use Rattle.cc_names.specs.Names.{native, behind}
use Rattle.cc_model.specs.declared.command.Command.TheVariants.{Nothing, Gc}
use Rattle.cc_model.specs.declared.item.Event.{Event}
use Rattle.cc_model.specs.declared.item.Event.TheVariants.{Unlinked, Abandoned}
use Rattle.cc_model.specs.Answers.{Answer}
use Rattle.cc_model.specs.Mutating.{so_many, whole, Class, runs, class_of}
use Rattle.cc_model.specs.Asks.{Ask, taken}
use Rattle.cc_model.specs.Graph.{Graph}
use Rattle.cc_model.specs.Given.{GivenFrom}
use Rattle.cc_model.specs.Heap.{Heap}
use Rattle.cc_model.specs.View.{view}
use Rattle.cc_model.specs.WellFormed.{names_there}
use Rattle.cc_model.specs.Suspected.{is_unreached}
use Rattle.cc_model.specs.End.{went_on, at_end, refused}
use Rattle.cc_model.specs.Lawful.{State, start}
use Rattle.cc_model.specs.Collecting.{Machine, UnitsDone, empty_machine}
use Rattle.cc_model.specs.Run.{turns, machine_after, plain_run}
use Rattle.cc_laws_run.specs.Running.{ask_in_range, state_after}
use Rattle.cc_laws_run.specs.Doomed.{IsDoomedNow, KeepsReflectors, AreUnlinked, garbage}
use Rattle.cc_laws_run.specs.Returning.{MayBeBack, AreBeside, met_over}
use Rattle.cc_laws_run.specs.Followed.{first_collection}

-- garbage but for the reflectors of reached natives, which `wrap` may bring back
abbrev pub lost : Heap → List Name
lost h = filter (λ x. list_all (λ k. is_unreached (view h) (native k)) (behind x)) (garbage h)

-- a unit or more, or a whole collection
abbrev pub has_units : Class → Bool
has_units (runs (so_many (suc n))) = true
has_units (runs whole) = true
has_units _ = false

-- asks that begin a collection where none runs
abbrev pub begins_one : Ask → Bool
begins_one (taken c) = has_units (class_of c)
begins_one ask = false

-- blank lines and comments
abbrev pub asks_nothing : Ask → Bool
asks_nothing (taken Nothing) = true
asks_nothing ask = false

-- asks of a run: some, then `gc` and lines that ask nothing, then one that begins a collection, then some
pub record BeginsAfterGc (before blanks : List Ask) (ask : Ask) (asks : List Ask) : Type 0 where
  pub before_it : IsTrue (list_all ask_in_range before)
  pub between : IsTrue (list_all asks_nothing blanks)
  pub begins : begins_one ask ≡ true
  pub after_it : IsTrue (list_all ask_in_range asks)

-- WHAT A RUNNING COLLECTION CAN'T MISS but for what may be back: names are doomed, a reflector only with its native, and what together gives
-- one of them is one of them or may be back
pub record CannotMissNow (m : Machine) (g : Graph) (met ds : List Name) : Type 0 where
  pub doomed : IsDoomedNow m ds
  pub reflectors : KeepsReflectors ds
  pub beside : AreBeside g met (view m.heap) ds

-- these names are some of those, and each of the others may be back
pub record AreLeftOf (g : Graph) (met ds left : List Name) : Type 0 where
  pub were : (x : Name) → Among x left → Among x ds
  pub others : (x : Name) → Among x ds → Among x left ⊎ MayBeBack g met x

-- the graph after these asks
abbrev pub graph_then : Machine → State → List Ask → Graph
graph_then m s asks = (state_after s asks (turns m asks)).graph

-- the names that were met before, and those that are met under these asks
abbrev pub met_then : List Name → Machine → State → List Ask → List Name
met_then met m s asks = met ++ met_over s asks (turns m asks)

-- NONE OF THEM IS MISSED by the first collection under these asks, but what a weak reference may have brought back since; unless that one
-- is abandoned, which it tells itself
pub record MissesNone (ds met : List Name) (m : Machine) (s : State) (asks : List Ask) : Type 0 where
  -- where it goes on, it can't miss those that are left
  pub goes_on : (first_collection m asks).progress ≡ went_on → (left : List Name) × AreLeftOf (graph_then m s asks) (met_then met m s asks) ds left ×
      CannotMissNow (machine_after m asks) (graph_then m s asks) (met_then met m s asks) left
  -- where it ended, it has told each native of them unlinked that the graph does not give from what was met
  pub unlinks : (first_collection m asks).progress ≡ at_end → (i : ℕ) → Among (native i) ds →
      ¬ (GivenFrom (graph_then m s asks) (met_then met m s asks) (native i)) → Among (Unlinked (native i)) (first_collection m asks).events
  -- and it was refused memory exactly where it has told that it is abandoned
  pub abandoned : (first_collection m asks).progress ≡ refused ↔ Among Abandoned (first_collection m asks).events

-- THE SAME WHERE NO WEAK REGISTER IS READ: nothing comes back, so it misses none at all
pub record MissesNoneAtAll (ds : List Name) (m : Machine) (asks : List Ask) : Type 0 where
  -- where it goes on, it can't miss them
  pub goes_on : (first_collection m asks).progress ≡ went_on → IsDoomedNow (machine_after m asks) ds
  -- where it ended, it has told each native of them unlinked
  pub unlinks : (first_collection m asks).progress ≡ at_end → AreUnlinked ds (first_collection m asks).events
  -- and it was refused memory exactly where it has told that it is abandoned
  pub abandoned : (first_collection m asks).progress ≡ refused ↔ Among Abandoned (first_collection m asks).events

-- an answer begins with these events
abbrev pub AreTold : List Event → List Answer → Type 0
AreTold es answers = (a : Answer) × Among a answers × (rest : List Event) × (a.events ≡ es ++ rest)

-- the machine after these asks, from the empty heaps on
abbrev pub after_asks : Allowance → List Bool → List Ask → Machine
after_asks limits memory asks = machine_after (empty_machine limits memory) asks

-- the collection that runs after the earlier asks, or that the later ones begin, followed through these
abbrev pub collection_of : Allowance → List Bool → List Ask → List Ask → UnitsDone
collection_of limits memory earlier asks = first_collection (after_asks limits memory earlier) asks

-- the state of the run of these asks: the graph, and what was listed and what has ended
abbrev pub state_by : Allowance → List Bool → List Ask → State
state_by limits memory asks = state_after (start limits) asks (plain_run limits memory asks)

-- the graph after the earlier asks and these, and the names that were met since these begin
abbrev pub graph_by : Allowance → List Bool → List Ask → List Ask → Graph
graph_by limits memory earlier asks = (state_by limits memory (earlier ++ asks)).graph

abbrev pub met_by : Allowance → List Bool → List Ask → List Ask → List Name
met_by limits memory earlier asks = met_over (state_by limits memory earlier) asks (turns (after_asks limits memory earlier) asks)

-- NOTHING IS MISSED, in the run of the earlier asks and then of these, by the collection that these begin, but what a weak reference may have
-- brought back: what the graph gives from all that was reached since. Not "what was reached": of an entry the map may have come back at one
-- moment and the key at another, and then the collection keeps the value, though no register reached it
pub record MissesNothing (limits : Allowance) (memory : List Bool) (earlier asks : List Ask) : Type 0 where
  -- where it ended, every native that was unreached when it began, and that the graph does not give from what was met, is told unlinked
  pub unlinked : (collection_of limits memory earlier asks).progress ≡ at_end → (i : ℕ) →
      Among (native i) (garbage (after_asks limits memory earlier).heap) →
      ¬ (GivenFrom (graph_by limits memory earlier asks) (met_by limits memory earlier asks) (native i)) →
      Among (Unlinked (native i)) (collection_of limits memory earlier asks).events
  -- by an answer of the run
  pub told : ¬ ((collection_of limits memory earlier asks).progress ≡ went_on) →
      AreTold (collection_of limits memory earlier asks).events (plain_run limits memory (earlier ++ asks))
  -- where it goes on, it can't miss those that are left
  pub goes_on : (collection_of limits memory earlier asks).progress ≡ went_on → (left : List Name) ×
      AreLeftOf (graph_by limits memory earlier asks) (met_by limits memory earlier asks) (lost (after_asks limits memory earlier).heap) left ×
      CannotMissNow (after_asks limits memory (earlier ++ asks)) (graph_by limits memory earlier asks) (met_by limits memory earlier asks) left
  -- it was refused memory exactly where it has told that it is abandoned
  pub abandoned : (collection_of limits memory earlier asks).progress ≡ refused ↔ Among Abandoned (collection_of limits memory earlier asks).events
  -- and after the `gc` that comes next, or that ends it, none of them is in the heaps that may not be back, unless it was abandoned
  pub gone : ¬ ((collection_of limits memory earlier (asks ++ taken Gc ∷ [])).progress ≡ refused) →
      (x : Name) → Among x (lost (after_asks limits memory earlier).heap) →
      ¬ (MayBeBack (graph_by limits memory earlier (asks ++ taken Gc ∷ [])) (met_by limits memory earlier (asks ++ taken Gc ∷ [])) x) →
      ¬ (Among x (names_there (after_asks limits memory (earlier ++ (asks ++ taken Gc ∷ []))).heap))

-- THE SAME WHERE THESE READ NO WEAK REGISTER: nothing comes back, so nothing is missed at all
pub record MissesNothingAtAll (limits : Allowance) (memory : List Bool) (earlier asks : List Ask) : Type 0 where
  -- where it ended, every native that was unreached when it began is told unlinked
  pub unlinked : (collection_of limits memory earlier asks).progress ≡ at_end →
      AreUnlinked (garbage (after_asks limits memory earlier).heap) (collection_of limits memory earlier asks).events
  -- by an answer of the run
  pub told : ¬ ((collection_of limits memory earlier asks).progress ≡ went_on) →
      AreTold (collection_of limits memory earlier asks).events (plain_run limits memory (earlier ++ asks))
  -- where it goes on, it can't miss them
  pub goes_on : (collection_of limits memory earlier asks).progress ≡ went_on →
      IsDoomedNow (after_asks limits memory (earlier ++ asks)) (lost (after_asks limits memory earlier).heap)
  -- it was refused memory exactly where it has told that it is abandoned
  pub abandoned : (collection_of limits memory earlier asks).progress ≡ refused ↔ Among Abandoned (collection_of limits memory earlier asks).events
  -- and after the `gc` that comes next, or that ends it, none of them is in the heaps, unless it was abandoned
  pub gone : ¬ ((collection_of limits memory earlier (asks ++ taken Gc ∷ [])).progress ≡ refused) →
      (x : Name) → Among x (lost (after_asks limits memory earlier).heap) →
      ¬ (Among x (names_there (after_asks limits memory (earlier ++ (asks ++ taken Gc ∷ []))).heap))

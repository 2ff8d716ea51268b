-- THE STEPS OF A CASCADE on the lists of a counted heap: each is a step of the definition by numbers.
use Rattle.std.specs.Prelude.{◌≡◌, ℕ, List, [], ◌∷◌, ◌++◌, map, length, Some, None, option_map, slice_index_or}
use Rattle.cc_names.specs.Names.{native}
use Rattle.cc_model.specs.declared.item.Event.{Event}
use Rattle.cc_model.specs.declared.item.Event.TheVariants.{Freed}
use Rattle.cc_model.specs.Telling.{Telling, TellsEvents}
use Rattle.cc_model.specs.Heap.{Outcome, silently, outcome_of}
use Rattle.cc_model.specs.End.{empty_slot, empty_each}
use Rattle.cc_laws_heap.specs.Balance.{IsBalanced}
use Rattle.cc_model.specs.Cascade.{give_up_each, free_front, drain}
use Rattle.cc_counted.specs.Counts.{the_number, name_of, heap_of, left_with}
use Rattle.cc_counted.specs.Lists.{Placed, Lists, cell_at, with_slot, without_count, keyed, names_in, counts_of, draining_of, IsPlaced, LeavesCells, LeavesKeys}

-- references to these natives were given up, one after another
pub record GivesUp (old new : Lists) (ks : List ℕ) : Type 0 where
  pub draining : (events : List Event) → draining_of new events ≡ give_up_each (draining_of old events) ks
  pub placed : IsPlaced new
  pub keys : keyed new.cells ≡ keyed old.cells
  pub order : new.order ≡ old.order
  pub walk : new.walk ≡ old.walk
  pub as_many : length new.cells ≡ length old.cells
  pub cells : (key : ℕ) → option_map without_count (cell_at new.cells key) ≡ option_map without_count (cell_at old.cells key)

-- the numbers that wait
abbrev pub numbers_waiting : Lists → List ℕ
numbers_waiting l = map (the_number (keyed l.cells)) l.queue

-- the front of the queue was freed and told
pub record FreesFront (old new : Lists) (before after : Telling) : Type 0 where
  pub number : ℕ
  pub behind : List ℕ
  pub front : numbers_waiting old ≡ number ∷ behind
  pub draining : (events : List Event) → draining_of new (events ++ Freed (native number) ∷ []) ≡ free_front (draining_of old events) number behind
  pub placed : IsPlaced new
  pub leaves : LeavesCells old new
  pub told : TellsEvents before after (Freed (native number) ∷ [])

-- the queue was drained
pub record Drains (old new : Lists) (before after : Telling) : Type 0 where
  pub events : List Event
  pub draining : draining_of new events ≡ drain (length old.order) (draining_of old [])
  pub emptied : new.queue ≡ []
  pub placed : IsPlaced new
  pub leaves : LeavesCells old new
  pub told : TellsEvents before after events

-- something was done that deletes natives, and came to this outcome
pub record ComesTo (old new : Lists) (before after : Telling) (done : Outcome) : Type 0 where
  pub counts : counts_of new ≡ left_with (counts_of old) done.heap
  pub heap : done.heap ≡ heap_of (counts_of new)
  pub emptied : new.queue ≡ []
  pub placed : IsPlaced new
  pub leaves : LeavesCells old new
  pub told : TellsEvents before after done.events

-- slot i of the native at a key was emptied, and what was in it given up with its cascade; the native stayed
pub record EmptiesSlot (old new : Lists) (key i : ℕ) (before after : Telling) : Type 0 where
  pub was : Placed
  pub was_there : cell_at old.cells key ≡ Some was
  pub cell : Placed
  pub there : cell_at new.cells key ≡ Some cell
  pub same : without_count cell ≡ without_count (with_slot i None was)
  pub placed : IsPlaced new
  pub leaves : LeavesKeys old new
  pub balanced : (others : List ℕ) → IsBalanced (was.number ∷ others) (draining_of old []) → IsBalanced (was.number ∷ others) (draining_of new [])
  pub events : List Event
  pub outcome : empty_slot (heap_of (counts_of old)) was.number i (name_of (keyed old.cells) (slice_index_or was.slots i None)) ≡ outcome_of (heap_of (counts_of new)) events
  pub told : TellsEvents before after events

-- all slots of the native at a key were emptied so
pub record EmptiesEach (old new : Lists) (key : ℕ) (before after : Telling) : Type 0 where
  pub was : Placed
  pub was_there : cell_at old.cells key ≡ Some was
  pub cell : Placed
  pub there : cell_at new.cells key ≡ Some cell
  pub number : cell.number ≡ was.number
  pub placed : IsPlaced new
  pub leaves : LeavesKeys old new
  pub balanced : (others : List ℕ) → IsBalanced (was.number ∷ others) (draining_of old []) → IsBalanced (was.number ∷ others) (draining_of new [])
  pub events : List Event
  pub outcome : empty_each was.number 0 (names_in (keyed old.cells) was.slots) (silently (heap_of (counts_of old))) ≡ outcome_of (heap_of (counts_of new)) events
  pub told : TellsEvents before after events

-- The end of a collection, its abandonment, and the unit as a whole.
use Rattle.std.specs.Prelude.{ℕ, suc, Bool, true, false, not, ◌&&◌, List, [], ◌∷◌, Option, Some, None, is_some}
use Rattle.cc_names.specs.declared.name.Name.{Name}
use Rattle.cc_names.specs.Names.{native}
use Rattle.cc_model.specs.declared.item.Event.{Event}
use Rattle.cc_model.specs.declared.item.Event.TheVariants.{Unlinked, Abandoned}
use Rattle.cc_model.specs.Slots.{Slots}
use Rattle.cc_model.specs.Heap.{Heap, HeapNative, Outcome, silently, after, native_at, set_slot, set_unlinked, suspect}
use Rattle.cc_model.specs.Cascade.{add_ref, cascade, let_go}
use Rattle.cc_model.specs.Snapshot.{Snapshot, white_natives}
use Rattle.cc_model.specs.Units.{first_names, begun, with_empty_buffer, first_untraversed, to_note, after_node}

-- Root, unlink, unroot

abbrev pub root_each : List ℕ → Heap → Heap
root_each [] h = h
root_each (k ∷ ks) h = root_each ks (add_ref h k)

-- slot i emptied, and what was in it given up with its cascade
abbrev pub empty_slot : Heap → ℕ → ℕ → Option Name → Outcome
empty_slot h k i x = let_go (set_slot h (Some (native k)) i None) x

-- the slots from the i-th on emptied in rising order
abbrev pub empty_each : ℕ → ℕ → Slots → Outcome → Outcome
empty_each k i [] o = o
empty_each k i (x ∷ xs) o = empty_each k (suc i) xs (after o.events (empty_slot o.heap k i x))

abbrev pub slots_now : Option HeapNative → Slots
slots_now None = []
slots_now (Some n) = n.slots

abbrev pub marked_unlinked : ℕ → Outcome → Outcome
marked_unlinked k o = record o { heap = set_unlinked o.heap k }

-- A NATIVE UNLINKED: told, its slots emptied, its preservation ended; it is unlinked for good
unfoldable pub unlink : Heap → ℕ → Outcome
unlink h k = after (Unlinked (native k) ∷ []) (marked_unlinked k (empty_each k 0 (slots_now (native_at h k)) (silently h)))

abbrev pub unlink_each : List ℕ → Outcome → Outcome
unlink_each [] o = o
unlink_each (k ∷ ks) o = unlink_each ks (after o.events (unlink o.heap k))

abbrev pub unroot_each : List ℕ → Outcome → Outcome
unroot_each [] o = o
unroot_each (k ∷ ks) o = unroot_each ks (after o.events (cascade o.heap k))

-- root all, unlink all, unroot all
unfoldable pub take_away : List ℕ → Heap → Outcome
take_away ks h = unroot_each ks (unlink_each ks (silently (root_each ks h)))

-- Abandonment

-- the candidates that still exist go back with the purple mark
abbrev pub give_back : List ℕ → Heap → Heap
give_back [] h = h
give_back (k ∷ ks) h = elim (is_some (native_at h k)) [ true ↦ give_back ks (suspect h k) | false ↦ give_back ks h ]

-- The unit

-- what a unit came to
pub data Progress : Type 0 where
  went_on : Progress
  at_end : Progress
  refused : Progress

pub record UnitDone : Type 0 where
  pub heap : Heap
  pub snapshot : Option Snapshot
  pub events : List Event
  pub progress : Progress

abbrev pub unit_came : Heap → Option Snapshot → List Event → Progress → UnitDone
unit_came h s events progress = record { heap = h; snapshot = s; events = events; progress = progress }

abbrev pub some_are : {X : Type 0} → List X → Bool
some_are [] = false
some_are (x ∷ xs) = true

abbrev pub notes_something : Option (List Name) → Bool
notes_something None = false
notes_something (Some ys) = some_are ys

abbrev pub node_may_be_refused : Heap → Option Name → Bool
node_may_be_refused h None = false
node_may_be_refused h (Some x) = notes_something (to_note h x)

-- a unit that adds no node, mapping or noted reference takes no memory
abbrev pub may_be_refused : Heap → Option Snapshot → Bool
may_be_refused h None = some_are (first_names h)
may_be_refused h (Some s) = node_may_be_refused h (first_untraversed s.nodes)

-- the heaps after a refused unit: a refused begin leaves them
abbrev pub heap_given_back : Heap → Option Snapshot → Heap
heap_given_back h None = h
heap_given_back h (Some s) = give_back s.candidates h

-- the snapshot is dropped
abbrev pub abandoned : Heap → Option Snapshot → UnitDone
abandoned h s = unit_came (heap_given_back h s) None (Abandoned ∷ []) refused

abbrev pub ending : Outcome → UnitDone
ending o = unit_came o.heap None o.events at_end

abbrev pub going_on : Heap → Snapshot → UnitDone
going_on h s = unit_came h (Some s) [] went_on

abbrev pub node_or_end : Heap → Snapshot → Option Name → UnitDone
node_or_end h s None = ending (take_away (white_natives h s) h)
node_or_end h s (Some x) = going_on h (after_node h s x (to_note h x))

-- a unit that has its memory: begin, one node, or the end
abbrev pub granted : Heap → Option Snapshot → UnitDone
granted h None = going_on (with_empty_buffer h) (begun h)
granted h (Some s) = node_or_end h s (first_untraversed s.nodes)

-- A UNIT, with memory or without; memory is asked for only where the unit may be refused
unfoldable pub unit : Heap → Option Snapshot → Bool → UnitDone
unit h s memory = elim (may_be_refused h s && not memory) [ true ↦ abandoned h s | false ↦ granted h s ]

-- THE PARTS OF A COUNTED HEAP AS LISTS, by keys, and what they show by numbers.
use Rattle.std.specs.Prelude.{◌≡◌, ◌⊎◌, ℕ, zero, suc, ◌+◌, ◌-◌, ◌≤◌, ◌==◌, Bool, true, false, List, [], ◌++◌, length, replicate, ◌∷◌, map, flat_map, Option, Some, None, option_map, option_and_then, slice_index_or, slice_set}
use Rattle.cc_lists.specs.Members.{Among, without}
use Rattle.cc_names.specs.Sizes.{most_slots}
use Rattle.cc_model.specs.declared.item.Event.{Event}
use Rattle.cc_model.specs.Slots.{Slots}
use Rattle.cc_model.specs.Heap.{HeapNative, Buffered, buffered_as, new_native}
use Rattle.cc_model.specs.Cascade.{Draining, draining_at}
use Rattle.cc_model.specs.WellFormed.{IsRising}
use Rattle.cc_names.specs.declared.kind.Walked.{Walked}
use Rattle.cc_walk.specs.Walks.{Walk, Walks, members, states_of, without_member}
use Rattle.cc_purple.specs.Marks.{Marked, with_mark, without_key}
use Rattle.cc_counted.specs.declared.held.Held.{Held}
use Rattle.cc_counted.specs.Counts.{Counts, no_counts, number_at, the_number, name_of, is_live, numbers_held, heap_of}

-- a native as it stands at its key: what its slots hold by keys, and the key of its reflector
pub record Placed : Type 0 where
  pub number : ℕ
  pub slots : List (Option Held)
  pub preserved : Bool
  pub unlinked : Bool
  pub reflector : Option ℕ
  pub count : ℕ

-- a native as it is made, with n empty slots
abbrev pub new_placed : ℕ → ℕ → Placed
new_placed number n = record { number = number; slots = replicate n None; preserved = false; unlinked = false; reflector = None; count = 1 }

-- the natives by key, their keys by rising number, the keys that wait to be deleted, the marked keys of the buffer, and the
-- keys of a walk
pub record Lists : Type 0 where
  pub cells : List (Option Placed)
  pub order : List ℕ
  pub queue : List ℕ
  pub marks : List Marked
  pub walk : Walk

-- the native at a key
abbrev pub cell_at : List (Option Placed) → ℕ → Option Placed
cell_at cells key = slice_index_or cells key None

-- with one reference less
abbrev pub with_one_less : Placed → Placed
with_one_less c = record c { count = c.count - 1 }

-- with one more
abbrev pub with_one_more : Placed → Placed
with_one_more c = record c { count = c.count + 1 }

-- with slot i written
abbrev pub with_slot : ℕ → Option Held → Placed → Placed
with_slot i x c = record c { slots = slice_set c.slots i x }

-- preserved or not
abbrev pub with_flag : Bool → Placed → Placed
with_flag on c = record c { preserved = on }

-- unlinked for good, and not preserved
abbrev pub placed_unlinked : Placed → Placed
placed_unlinked c = record c { preserved = false; unlinked = true }

-- with a reflector, or without
abbrev pub reflected_by : Option ℕ → Placed → Placed
reflected_by reflector c = record c { reflector = reflector }

-- the count at a key, and 0 where there is no native
abbrev pub count_placed : Option Placed → ℕ
count_placed None = 0
count_placed (Some c) = c.count

-- the slots at a key, and none where there is no native
abbrev pub slots_placed : Option Placed → List (Option Held)
slots_placed None = []
slots_placed (Some c) = c.slots

-- the reflector at a key, and none where there is no native
abbrev pub reflector_placed : Option Placed → Option ℕ
reflector_placed o = option_and_then (λ c. c.reflector) o

-- which number stands at which key, and nothing else
abbrev pub keyed : List (Option Placed) → Counts
keyed cells = record no_counts { keys = map (option_map (λ c. c.number)) cells }

-- what slots hold, by names
abbrev pub names_in : Counts → List (Option Held) → Slots
names_in c slots = map (name_of c) slots

-- the natives that slots hold, by occurrence
abbrev pub numbers_in : Counts → List (Option Held) → List ℕ
numbers_in c slots = flat_map (numbers_held c) slots

-- a native, whose slots hold these names
abbrev pub shown_with : Slots → Placed → HeapNative
shown_with slots p = record { number = p.number; slots = slots; preserved = p.preserved; unlinked = p.unlinked; count = p.count }

-- a native by names
abbrev pub shown : Counts → Option Placed → HeapNative
shown c None = record (new_native 0 0) { count = 0 }
shown c (Some p) = shown_with (names_in c p.slots) p

-- the native at a key by names
abbrev pub shown_at : List (Option Placed) → ℕ → HeapNative
shown_at cells key = shown (keyed cells) (cell_at cells key)

-- a marked key by its number
abbrev pub marked_number : Counts → Marked → Buffered
marked_number c m = buffered_as (the_number c m.key) m.purple

-- how the keys below n stand in a walk
abbrev pub states_below : ℕ → Walks → List Walked
states_below zero walks = []
states_below (suc n) walks = walks zero ∷ states_below n (λ key. walks (suc key))

-- WHAT THE LISTS SHOW
abbrev pub counts_of : Lists → Counts
counts_of l = record {
  natives = map (shown_at l.cells) l.order;
  buffer = map (marked_number (keyed l.cells)) l.marks;
  keys = map (option_map (λ c. c.number)) l.cells;
  reflectors = map (option_and_then (λ c. c.reflector)) l.cells;
  walks = states_below (length l.cells) (states_of l.walk);
}

-- and while natives are deleted
abbrev pub draining_of : Lists → List Event → Draining
draining_of l events = draining_at (heap_of (counts_of l)) (map (the_number (keyed l.cells)) l.queue) events

-- THE LISTS FIT TOGETHER: the order has the keys of the natives by rising number, and each key that is held, waits, or
-- stands in the buffer or in a walk is that of a native
pub record IsPlaced (l : Lists) : Type 0 where
  pub in_order : (key : ℕ) → Among key l.order → (c : Placed) × (cell_at l.cells key ≡ Some c)
  pub ordered : (key : ℕ) (c : Placed) → cell_at l.cells key ≡ Some c → Among key l.order
  pub rising : IsRising (map (the_number (keyed l.cells)) l.order)
  pub small : (key : ℕ) (c : Placed) → cell_at l.cells key ≡ Some c → length c.slots ≤ most_slots
  pub held : (key : ℕ) (c : Placed) (x : Option Held) → cell_at l.cells key ≡ Some c → Among x c.slots → is_live (keyed l.cells) x ≡ true
  pub queued : (key : ℕ) → Among key l.queue → (c : Placed) × (cell_at l.cells key ≡ Some c)
  pub marked : (m : Marked) → Among m l.marks → (c : Placed) × (cell_at l.cells m.key ≡ Some c)
  pub walking : (key : ℕ) → Among key (members l.walk) → (c : Placed) × (cell_at l.cells key ≡ Some c)

-- one reference to the native c at a key given up, which is not the last one: it is suspected
abbrev pub suspected : Lists → ℕ → Placed → Lists
suspected l key c = record l { cells = slice_set l.cells key (Some (with_one_less c)); marks = with_mark true key l.marks }

-- the last one: it waits, and leaves the buffer
abbrev pub waiting : Lists → ℕ → Placed → Lists
waiting l key c = record l { cells = slice_set l.cells key (Some (with_one_less c)); queue = l.queue ++ key ∷ []; marks = without_key key l.marks }

-- the native at a key stands in front of those that wait
abbrev pub with_front : ℕ → Lists → Lists
with_front key l = record l { queue = key ∷ l.queue }

-- the native at a key, which waited in front of the keys ks, taken out
abbrev pub taken_out : Lists → ℕ → List ℕ → Lists
taken_out l key ks = record l { cells = slice_set l.cells key None; order = without ◌==◌ key l.order; queue = ks; walk = without_member key l.walk }

-- a native without its count
abbrev pub without_count : Placed → Placed
without_count c = record c { count = 0 }

-- a native that is there stands in a walk as it did
abbrev pub KeepsWalk : Lists → Lists → Type 0
KeepsWalk old new = (key : ℕ) (c : Placed) → cell_at new.cells key ≡ Some c → states_of new.walk key ≡ states_of old.walk key

-- some natives left, and those that stayed changed in their counts alone
pub record LeavesCells (old new : Lists) : Type 0 where
  pub as_many : length new.cells ≡ length old.cells
  pub each : (key : ℕ) → (cell_at new.cells key ≡ None) ⊎ (option_map without_count (cell_at new.cells key) ≡ option_map without_count (cell_at old.cells key))
  pub walk : KeepsWalk old new

-- some keys came to hold nothing, and no key changed otherwise, nor did the reflector of a native that stayed
pub record LeavesKeys (old new : Lists) : Type 0 where
  pub as_many : length new.cells ≡ length old.cells
  pub each : (key : ℕ) → (number_at (keyed new.cells) key ≡ None) ⊎ (number_at (keyed new.cells) key ≡ number_at (keyed old.cells) key)
  pub reflectors : (key : ℕ) (c : Placed) → cell_at new.cells key ≡ Some c → c.reflector ≡ reflector_placed (cell_at old.cells key)
  pub walk : KeepsWalk old new

-- the lists with a native made, which stands at a key of these cells
abbrev pub made : Lists → List (Option Placed) → ℕ → Lists
made l cells key = record l { cells = cells; order = l.order ++ key ∷ []; marks = with_mark false key l.marks }

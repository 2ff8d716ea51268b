-- WHAT A HOST IS: the heaps with the collector that runs in them, what was told and not fetched yet, and the host's own books.
use Rattle.std.specs.Prelude.{◌≡◌, ◌≢◌, ℕ, ◌+◌, ◌≤◌, ◌<◌, Bool, if◌then◌else◌, false, List, [], length, Option, Some, None, IsSome, Result, Ok, Err, slice_index_or}
use Rattle.cc_names.specs.declared.name.Name.{Name}
use Rattle.cc_names.specs.declared.name.Name.TheVariants as name
use Rattle.cc_names.specs.Names.{number_of}
use Rattle.cc_model.specs.declared.item.Item.{Item}
use Rattle.cc_model.specs.Heap.{empty_heap}
use Rattle.cc_model.specs.End.{Progress, went_on, at_end, refused}
use Rattle.cc_heaps.specs.Leaving.{NothingLeft}
use Rattle.cc_host.specs.Hosted.{Hosted, IsKept}
use Rattle.cc_host.specs.Queues.{Queued}
use Rattle.cc_host.specs.Places.{IsFree, KeepsPlaces, held_at, places}
use Rattle.cc_laws_told.specs.Told.{objects}
use Rattle.cc_collector.specs.declared.collector.Ended.{Ended}
use Rattle.cc_collector.specs.declared.collector.Ended.TheVariants.{Yes, No}
use Rattle.cc_names.specs.declared.no_memory.NoMemory.{NoMemory}
use Rattle.cc_host.specs.declared.hindrance.Hindrance.{Hindrance}
use Rattle.cc_host.specs.declared.hindrance.Hindrance.TheVariants.{NoMemory as Wants}

-- the numbers that a program gave to natives, to script objects and to reflectors: a list for each kind, by the objects' own numbers
pub record Given : Type 0 where
  pub natives : List ℕ
  pub scripts : List ℕ
  pub reflectors : List ℕ

abbrev pub nothing_given : Given
nothing_given = record { natives = []; scripts = []; reflectors = [] }

-- the list for the kind of a name
abbrev pub list_for : Given → Name → List ℕ
list_for d (name.Native k) = d.natives
list_for d (name.Script k) = d.scripts
list_for d (name.Reflector k) = d.reflectors

-- THE NUMBER that the object of a name was given; 0 where it was given none
abbrev pub given_to : Given → Name → ℕ
given_to d x = slice_index_or (list_for d x) (number_of x) 0

-- the host's own books: the program's numbers for objects; for each root its serial number, while it is in use; and the last serial
-- number that was given
pub record Books : Type 0 where
  pub given : Given
  pub roots : List (Option ℕ)
  pub last : ℕ

pub record State : Type 0 where
  pub host : Hosted
  -- what was told and not fetched yet, in its order
  pub told : List Item
  -- how many items may wait, for which room was taken
  pub room : ℕ
  -- the steps of the last answer why an object is there
  pub steps : List Item
  pub books : Books

-- the books of a new host
abbrev pub empty_books : Books
empty_books = record { given = nothing_given; roots = []; last = 0 }

abbrev pub data_at : Books → Name → ℕ
data_at b x = given_to b.given x

-- the serial number of a root that is in use
abbrev pub serial_at : Books → ℕ → Option ℕ
serial_at b index = slice_index_or b.roots index None

-- at each place below this one a root is in use
abbrev pub AreTaken : Books → ℕ → Type 0
AreTaken b count = (index : ℕ) → index < count → IsSome (serial_at b index)

-- a root gets a serial number, or loses it
pub record Enters (old new : Books) (index : ℕ) (serial : Option ℕ) : Type 0 where
  pub entered : serial_at new index ≡ serial
  pub others : (other : ℕ) → other ≢ index → serial_at new other ≡ serial_at old other
  pub given : new.given ≡ old.given

-- WHAT A CALL LEAVES ALONE: the host's own books, the steps that were told, and what roots without number hold
pub record Aside (old new : State) : Type 0 where
  pub books : new.books ≡ old.books
  pub steps : new.steps ≡ old.steps
  pub places : KeepsPlaces old.host.heaps.heap new.host.heaps.heap

-- NOTHING CHANGED, but that room may have been taken for what can be told
abbrev pub IsAsItWas : State → State → Type 0
IsAsItWas old new = new ≡ record old { room = new.room }

-- and it tells nothing, for nothing leaves
pub record Quiet (old new : State) : Type 0 where
  pub left : NothingLeft old.host.heaps.heap new.host.heaps.heap
  pub told : new.told ≡ old.told
  pub books : new.books ≡ old.books
  pub steps : new.steps ≡ old.steps
  pub places : KeepsPlaces old.host.heaps.heap new.host.heaps.heap

-- A REFLECTOR IS ANSWERED, which was there or was not: one that is made has the number 0, and nothing else of the books changes
pub record Reflects (x : Name) (was_there : Bool) (old new : State) : Type 0 where
  pub number : data_at new.books x ≡ (if was_there then data_at old.books x else 0)
  pub others : (y : Name) → y ≢ x → data_at new.books y ≡ data_at old.books y
  pub books : new.books ≡ record old.books { given = new.books.given }
  pub steps : new.steps ≡ old.steps
  pub places : KeepsPlaces old.host.heaps.heap new.host.heaps.heap

-- WHAT IS IN USE HOLDS SOMETHING at its place, and what is not holds nothing; no serial number is above the last
pub record IsBooked (h : Hosted) (b : Books) : Type 0 where
  pub held : (index serial : ℕ) → serial_at b index ≡ Some serial → (index < places) × IsSome (held_at h.heaps.heap index)
  pub free : (index : ℕ) → index < places → serial_at b index ≡ None → IsFree h.heaps.heap index
  pub serials : (index serial : ℕ) → serial_at b index ≡ Some serial → serial ≤ b.last

-- A NEW HOST: no objects, no roots, nothing told, and no steps
pub record IsNew (its_mark natives scripts : ℕ) (s : State) : Type 0 where
  pub heap : s.host.heaps.heap ≡ empty_heap (record { natives = natives; scripts = scripts; bytes = 0 })
  pub idle : s.host.running ≡ None
  pub unmarked : s.host.marking ≡ false
  pub mark : s.host.mark ≡ its_mark
  pub told : s.told ≡ []
  pub steps : s.steps ≡ []
  pub books : s.books ≡ empty_books

-- Room for what is told

-- one more than a call can tell at most: each native is freed, and unlinked by two collections; each script object is freed;
-- two collections are given up
abbrev pub most_told : Hosted → ℕ
most_told h = length h.heaps.heap.natives + length h.heaps.heap.natives + objects h.heaps.heap + 3

-- WHAT A HOST KEEPS between its calls: what its heaps and collector keep; no item was left out; there is room for the end of each object
-- besides what waits, and for all that a collection can tell where nothing waits
pub record HasRoom (h : Hosted) (q : Queued) : Type 0 where
  pub kept : IsKept h
  pub whole : q.broken ≡ false
  pub each : length q.items + objects h.heaps.heap + 1 ≤ q.room
  pub all : most_told h ≤ q.room

-- A COLLECTION IS HINDERED by what was told and not fetched: nothing was done. Something waits, and beside it there is less room than for
-- all that a collection can tell
pub record IsUnfetched (old new : State) : Type 0 where
  pub same : new ≡ old
  pub waits : old.told ≢ []
  pub little : old.room < length old.told + most_told old.host

-- want of memory hinders a collection
abbrev pub hindered : {T : Type 0} → Result T NoMemory → Result T Hindrance
hindered (Ok x) = Ok x
hindered (Err e) = Err Wants

-- what a slice answers, as progress
abbrev pub progress_of : Result Ended Hindrance → Progress
progress_of (Ok Yes) = at_end
progress_of (Ok No) = went_on
progress_of (Err e) = refused

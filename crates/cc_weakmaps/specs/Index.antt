-- WHERE THE ENTRIES OF AN OBJECT STAND: the places, counted from 0, of the entries that have it for their map, their key or
-- their delegate.
use Rattle.std.specs.Prelude.{◌≡◌, IsTrue, ℕ, zero, suc, ◌<◌, ◌≤◌, ◌==◌, Bool, true, false, ◌||◌, if◌then◌else◌, List, length, max, get_or, slice_get, Option, Some, None, option_map}
use Rattle.cc_lists.specs.Members.{Among}
use Rattle.cc_weakmaps.specs.Entries.{KeyedEntry, HasOneEach}
use Rattle.cc_weakmaps.specs.declared.links.Links.{Links}

-- whether an object is the one that may be there
abbrev pub is_it : ℕ → Option ℕ → Bool
is_it k None = false
is_it k (Some d) = d == k

-- whether an object is the map, the key or the delegate of an entry
abbrev pub has_object : ℕ → KeyedEntry → Bool
has_object k e = (e.the_map == k || e.key == k) || is_it k e.delegate

-- a place of an object is that of an entry that has it
abbrev pub IsPlaceOf : List KeyedEntry → ℕ → ℕ → Type 0
IsPlaceOf es k i = option_map (has_object k) (slice_get es i) ≡ Some true

-- its last place below another; none where it has none there
abbrev pub place_below : List KeyedEntry → ℕ → ℕ → Option ℕ
place_below es k zero = None
place_below es k (suc n) = elim (option_map (has_object k) (slice_get es n)) [
  | None ↦ place_below es k n
  | Some b ↦ elim b [ true ↦ Some n | false ↦ place_below es k n ]
]

-- What is kept of it

-- the last place that is kept of an object, by its key: none where none is, and past the end
abbrev pub last_kept : List (Option ℕ) → ℕ → Option ℕ
last_kept kept k = get_or kept k None

-- of an object that may be there; of none there is none
abbrev pub last_of : List (Option ℕ) → Option ℕ → Option ℕ
last_of kept None = None
last_of kept (Some d) = last_kept kept d

-- what is kept of an object where one that may be there has another place
abbrev pub kept_with : Option ℕ → Option ℕ → ℕ → Option ℕ → Option ℕ
kept_with None place k old = old
kept_with (Some d) place k old = if d == k then place else old

-- an object that may be there is below a bound
abbrev pub IsBelow : ℕ → Option ℕ → Type 0
IsBelow n None = Unit {0}
IsBelow n (Some d) = d < n

-- map, key and delegate of an entry are below a bound
pub record IsKnown (n : ℕ) (e : KeyedEntry) : Type 0 where
  pub the_map : e.the_map < n
  pub key : e.key < n
  pub delegate : IsBelow n e.delegate

-- those of each entry are known: there is room for their places, so that one can be kept without memory
abbrev pub AreKnown : List KeyedEntry → List (Option ℕ) → Type 0
AreKnown es kept = (e : KeyedEntry) → Among e es → IsKnown (length kept) e

-- the greatest of a map, a key and a delegate
abbrev pub greatest : ℕ → ℕ → Option ℕ → ℕ
greatest m k None = max m k
greatest m k (Some d) = max (max m k) d

-- the entries are so few that the place of each fits in 32 bits
abbrev pub AreFew : List KeyedEntry → Type 0
AreFew es = length es ≤ 4294967296

-- the last place below another of an object that may be there
abbrev pub place_of_it : List KeyedEntry → Option ℕ → ℕ → Option ℕ
place_of_it es None n = None
place_of_it es (Some d) n = place_below es d n

-- THE INDEX of the entries below a place: of each object its last place among them, and of each of them the last places
-- before it of its map, of its key and of its delegate
pub record IsIndexed (es : List KeyedEntry) (links : List Links) (kept : List (Option ℕ)) (n : ℕ) : Type 0 where
  pub last : (k : ℕ) → last_kept kept k ≡ place_below es k n
  pub by_map : (i : ℕ) (e : KeyedEntry) (d : Links) → i < n → (get_or links i d).by_map ≡ place_below es (get_or es i e).the_map i
  pub by_key : (i : ℕ) (e : KeyedEntry) (d : Links) → i < n → (get_or links i d).by_key ≡ place_below es (get_or es i e).key i
  pub by_delegate : (i : ℕ) (e : KeyedEntry) (d : Links) → i < n → (get_or links i d).by_delegate ≡ place_of_it es (get_or es i e).delegate i

-- the index of all entries
pub record HasIndex (es : List KeyedEntry) (links : List Links) (kept : List (Option ℕ)) : Type 0 where
  pub as_many : length links ≡ length es
  pub indexed : IsIndexed es links kept (length es)

-- entries of which each map and key has at most one, whose places fit in 32 bits, and their index, where there is one
pub record IsKept (es : List KeyedEntry) (links : List Links) (kept : List (Option ℕ)) (has_index : Bool) : Type 0 where
  pub at_most_one : HasOneEach es
  pub few : AreFew es
  pub index : IsTrue has_index → HasIndex es links kept

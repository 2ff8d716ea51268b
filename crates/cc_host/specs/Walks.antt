-- WHAT A PROGRAM CAN ASK OF ALL that a host has: a walk over all objects, a walk over the entries of a weak map, how many bytes are
-- held, and whether a collection is worth it.
use Rattle.std.specs.Prelude.{◌≡◌, ℕ, zero, suc, ◌+◌, ◌*◌, ◌-◌, ◌^◌, ◌==◌, Bool, true, false, ◌||◌, ◌&&◌, List, [], ◌∷◌, ◌++◌, length, map, filter, reverse, min, nat_le, slice_get, sum_by, Option, Some, None, IfSome, is_some, option_map, option_and_then}
use Rattle.cc_lists.specs.Walks.{first_of, left_at}
use Rattle.cc_names.specs.declared.name.Name.{Name}
use Rattle.cc_names.specs.declared.number.NKey.{NKey}
use Rattle.cc_names.specs.Names.{native, same_name}
use Rattle.cc_model.specs.Given.{is_living, living_names}
use Rattle.cc_model.specs.Heap.{Heap, HeapNative, HeapScript}
use Rattle.cc_model.specs.WellFormed.{script_names}
use Rattle.cc_heaps.specs.Keyed.{Keyed, number_at, the_name_at}
use Rattle.cc_script.specs.Objects.{Object as Script}
use Rattle.cc_weakmaps.specs.Entries.{KeyedEntry, is_entry_of}
use Rattle.cc_weakmaps.specs.Index.{IsPlaceOf}
use Rattle.cc_host.specs.declared.object.Object.{Object}
use Rattle.cc_host.specs.declared.runtime.walking.TheConstants.{ENTRY_BYTES, NATIVE_BYTES, SCRIPT_BYTES, SLOT_BYTES}
use Rattle.cc_host.specs.Hosted.{Hosted, IsThere}

-- A walk over all objects

-- THE OBJECTS THAT ARE THERE for a program, in the order of the walk: the natives that were not unlinked, by rising number; then the
-- script objects, in the order in which they were made
abbrev pub objects_in : Heap → List Name
objects_in h = living_names h ++ script_names h

-- the name behind another; none where that is the last, or does not stand in the list
abbrev pub behind : Name → List Name → Option Name
behind x [] = None
behind x (y ∷ ys) = elim (same_name y x) [ true ↦ first_of ys | false ↦ behind x ys ]

-- the native at a key and those behind it; none where there is no key
abbrev pub natives_from : Keyed → Option NKey → List HeapNative
natives_from v at = left_at (λ n. n.number) v.heap.natives (option_and_then (λ key. number_at v key.0) at)

-- WHAT IS LEFT OF THE WALK where it stands at a native; where it stands at none, the script objects
abbrev pub names_from : Keyed → Option NKey → List Name
names_from v at = map (λ n. native n.number) (filter is_living (natives_from v at)) ++ script_names v.heap

-- A walk over the entries of a weak map

-- THE ENTRIES OF A WEAK MAP, a key and its value each, in the order of the walk: the one that was set first comes last
abbrev pub entries_of : Heap → Name → List (Name × Name)
entries_of h m = map (λ e. (e.key, e.value)) (filter (λ e. same_name e.the_map m) (reverse h.entries))

-- the entry behind that of a key; none where that is the last, or where the key has none
abbrev pub behind_key : Name → List (Name × Name) → Option (Name × Name)
behind_key k [] = None
behind_key k (e ∷ es) = elim (same_name e.0 k) [ true ↦ first_of es | false ↦ behind_key k es ]

-- the value of a key among entries
abbrev pub value_of : Name → List (Name × Name) → Option Name
value_of k [] = None
value_of k (e ∷ es) = elim (same_name e.0 k) [ true ↦ Some e.1 | false ↦ value_of k es ]

-- The same by places, at which entries stand in the order in which they were first set

-- the entries of a map below a place, from the last on
abbrev pub entries_below : List KeyedEntry → ℕ → ℕ → List KeyedEntry
entries_below es m zero = []
entries_below es m (suc n) = elim (slice_get es n) [
  | None ↦ entries_below es m n
  | Some e ↦ elim (e.the_map == m) [ true ↦ e ∷ entries_below es m n | false ↦ entries_below es m n ]
]

-- at a place, and below it; none where there is no place
abbrev pub entries_from : List KeyedEntry → ℕ → Option ℕ → List KeyedEntry
entries_from es m None = []
entries_from es m (Some i) = entries_below es m (suc i)

-- the entry behind that of a key
abbrev pub entry_behind : ℕ → List KeyedEntry → Option KeyedEntry
entry_behind k [] = None
entry_behind k (e ∷ es) = elim (e.key == k) [ true ↦ first_of es | false ↦ entry_behind k es ]

-- and of a map, whose last entry stands first
abbrev pub behind_entry : List KeyedEntry → ℕ → ℕ → Option KeyedEntry
behind_entry es m k = entry_behind k (entries_below es m (length es))

-- whether at a place stands the entry of a map and a key
abbrev pub is_entry_at : List KeyedEntry → ℕ → ℕ → ℕ → Bool
is_entry_at es m k i = elim (slice_get es i) [ None ↦ false | Some e ↦ is_entry_of m k e ]

-- the place of the entry of a map and a key is one of the map, and behind it stands what is below
pub record IsEntryPlace (es : List KeyedEntry) (m k i : ℕ) : Type 0 where
  pub there : IsPlaceOf es m i
  pub behind : behind_entry es m k ≡ first_of (entries_below es m i)

-- a key and its value, by their names
abbrev pub names_in : List Script → KeyedEntry → Name × Name
names_in objects e = (the_name_at objects e.key, the_name_at objects e.value)

abbrev pub pairs_from : Keyed → ℕ → Option ℕ → List (Name × Name)
pairs_from v m at = map (names_in v.scripts) (entries_from v.entries m at)

-- what is answered, by its names
abbrev pub pair_named : Option (Object × Object) → Option (Name × Name)
pair_named p = option_map (λ q. (q.0.name, q.1.name)) p

abbrev pub IsPairThere : Hosted → Option (Object × Object) → Type 0
IsPairThere h p = IfSome p (λ q. IsThere h q.0 × IsThere h q.1)

-- How many bytes are held

-- an object's own, and those of its slots
abbrev pub bytes_of_native : HeapNative → ℕ
bytes_of_native n = NATIVE_BYTES + SLOT_BYTES * length n.slots

abbrev pub bytes_of_script : HeapScript → ℕ
bytes_of_script o = SCRIPT_BYTES + SLOT_BYTES * length o.slots

abbrev pub bytes_in : Heap → ℕ
bytes_in h = sum_by bytes_of_native h.natives + sum_by bytes_of_script h.scripts + ENTRY_BYTES * length h.entries

-- THE BYTES HELD, as an estimate; no more than 64 bits can tell
abbrev pub bytes_held : Heap → ℕ
bytes_held h = min (bytes_in h) (2 ^ 64 - 1)

-- Whether a collection is worth it

-- so many natives wait to be looked at: a thousand; or 16, and an eighth of all
abbrev pub are_many : ℕ → ℕ → Bool
are_many waiting all = nat_le 1000 waiting || (nat_le 16 waiting && nat_le all (8 * waiting))

-- A COLLECTION RUNS, or many natives are in the buffer
abbrev pub is_due : Hosted → Bool
is_due h = is_some h.running || are_many (length h.heaps.heap.buffer) (length h.heaps.heap.natives)

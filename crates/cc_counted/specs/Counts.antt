-- WHAT A COUNTED HEAP SHOWS: its natives and its buffer by names, and which native stands at which key.
use Rattle.std.specs.Prelude.{◌≢◌, ℕ, zero, Bool, true, false, List, [], ◌∷◌, map, filter, Option, Some, None, option_map, slice_index_or, slice_set, nat_lt, is_some, if◌then◌else◌}
use Rattle.cc_lists.specs.Walks.{first_key}
use Rattle.cc_names.specs.Allowance.{Allowance}
use Rattle.cc_names.specs.declared.name.Name.{Name}
use Rattle.cc_names.specs.declared.number.NKey.{NKey}
use Rattle.cc_names.specs.Names.{native, object}
use Rattle.cc_names.specs.Places.{where_set, native_places}
use Rattle.cc_model.specs.Slots.{Slots}
use Rattle.cc_model.specs.Heap.{Heap, HeapNative, Buffered, Outcome, empty_heap, native_at}
use Rattle.cc_model.specs.Cascade.{cascade}
use Rattle.cc_names.specs.declared.kind.Walked.{Walked}
use Rattle.cc_names.specs.declared.kind.Walked.TheVariants.{Out, Waiting}
use Rattle.cc_counted.specs.declared.held.Held.{Held}
use Rattle.cc_counted.specs.declared.held.Held.TheVariants as held

-- natives by rising number, the buffer in order, at each key the number of the native that stands there, at each key
-- the key of that native's reflector in the script heap, where it has one, and how each key stands in a walk: a key that
-- holds nothing is out of it.
-- A SCRIPT OBJECT IN A SLOT, which stands at key q of its own heap, is named object q: its key in the place of a number.
-- This heap knows no other name of it; crates above give it its own name.
pub record Counts : Type 0 where
  pub natives : List HeapNative
  pub buffer : List Buffered
  pub keys : List (Option ℕ)
  pub reflectors : List (Option ℕ)
  pub walks : List Walked

abbrev pub no_counts : Counts
no_counts = record { natives = []; buffer = []; keys = []; reflectors = []; walks = [] }

-- the number of the native at a key
abbrev pub number_at : Counts → ℕ → Option ℕ
number_at c key = slice_index_or c.keys key None

-- the key of the reflector of the native at a key
abbrev pub reflector_at : Counts → ℕ → Option ℕ
reflector_at c key = slice_index_or c.reflectors key None

-- 0 where there is none
abbrev pub number_or_none : Option ℕ → ℕ
number_or_none None = zero
number_or_none (Some k) = k

abbrev pub the_number : Counts → ℕ → ℕ
the_number c key = number_or_none (number_at c key)

-- the name of what a slot or a caller holds; of a script object its key in the place of a number
abbrev pub name_of_held : Counts → Held → Option Name
name_of_held c (held.Native key) = option_map native (number_at c key.0)
name_of_held c (held.Script key) = Some (object key.0)

abbrev pub name_of : Counts → Option Held → Option Name
name_of c None = None
name_of c (Some x) = name_of_held c x

-- what is held is there; of a script object nothing is asked here
abbrev pub is_live : Counts → Option Held → Bool
is_live c None = true
is_live c (Some x) = is_some (name_of_held c x)

-- the natives that are held: a script object is not counted
abbrev pub numbers_held : Counts → Option Held → List ℕ
numbers_held c None = []
numbers_held c (Some (held.Native key)) = the_number c key.0 ∷ []
numbers_held c (Some (held.Script key)) = []

-- the key of the native that is held
abbrev pub native_held : Option Held → Option NKey
native_held None = None
native_held (Some (held.Native key)) = Some key
native_held (Some (held.Script key)) = None

-- what a native register holds, as a slot holds it
abbrev pub held_of_native : Option NKey → Option Held
held_of_native None = None
held_of_native (Some key) = Some (held.Native key)

-- limits that nothing looks at
abbrev pub no_limits : Allowance
no_limits = record { natives = 0; scripts = 0; bytes = 0 }

-- the lists of the heaps with these natives and this buffer, and nothing else
abbrev pub heap_of : Counts → Heap
heap_of c = record (empty_heap no_limits) { natives = c.natives; buffer = c.buffer }

-- other natives of the same numbers, and another buffer
abbrev pub with_heap : Counts → Heap → Counts
with_heap c h = record c { natives = h.natives; buffer = h.buffer }

-- the keys of natives that are no more hold nothing
abbrev pub key_left : Heap → Option ℕ → Option ℕ
key_left h None = None
key_left h (Some k) = if is_some (native_at h k) then Some k else None

-- a key that holds nothing has no reflector
abbrev pub reflectors_left : List (Option ℕ) → List (Option ℕ) → List (Option ℕ)
reflectors_left [] reflectors = []
reflectors_left (k ∷ ks) [] = []
reflectors_left (None ∷ ks) (r ∷ rs) = None ∷ reflectors_left ks rs
reflectors_left (Some k ∷ ks) (r ∷ rs) = r ∷ reflectors_left ks rs

-- a native that is no more is in no walk
abbrev pub state_left : Heap → Option ℕ → Walked → Walked
state_left h None state = state
state_left h (Some k) state = if is_some (native_at h k) then state else Out

abbrev pub walks_left : Heap → List (Option ℕ) → List Walked → List Walked
walks_left h [] walks = walks
walks_left h (k ∷ ks) [] = []
walks_left h (k ∷ ks) (w ∷ ws) = state_left h k w ∷ walks_left h ks ws

-- some natives are no more
abbrev pub left_with : Counts → Heap → Counts
left_with c h = record {
  natives = h.natives;
  buffer = h.buffer;
  keys = map (key_left h) c.keys;
  reflectors = reflectors_left (map (key_left h) c.keys) c.reflectors;
  walks = walks_left h c.keys c.walks;
}

-- the native at a key has this reflector, or none
abbrev pub with_reflector : Counts → ℕ → Option ℕ → Counts
with_reflector c key reflector = record c { reflectors = slice_set c.reflectors key reflector }

-- how the native at a key stands in a walk
abbrev pub state_in : List Walked → ℕ → Walked
state_in walks key = slice_index_or walks key Out

abbrev pub state_of : Counts → ℕ → Walked
state_of c key = state_in c.walks key

-- it stands so,
abbrev pub with_state_of : Counts → ℕ → Walked → Counts
with_state_of c key state = record c { walks = slice_set c.walks key state }

-- none is in it,
abbrev pub none_walked : List Walked → List Walked
none_walked walks = map (λ state. Out) walks

abbrev pub unwalked : Counts → Counts
unwalked c = record c { walks = none_walked c.walks }

-- and none waits
abbrev pub NoneWaits : List Walked → Type 0
NoneWaits walks = (key : ℕ) → state_in walks key ≢ Waiting

-- after one reference to native k was given up
abbrev pub released : Counts → ℕ → Outcome
released c k = cascade (heap_of c) k

abbrev pub slots_at : Option HeapNative → Slots
slots_at None = []
slots_at (Some n) = n.slots

-- the slots of the native at a key, and its count
abbrev pub slots_of : Counts → ℕ → Slots
slots_of c key = slots_at (native_at (heap_of c) (the_number c key))

abbrev pub preserved_at : Option HeapNative → Bool
preserved_at None = false
preserved_at (Some n) = n.preserved

-- whether the reflector of the native at a key is preserved
abbrev pub preserved_of : Counts → ℕ → Bool
preserved_of c key = preserved_at (native_at (heap_of c) (the_number c key))

abbrev pub unlinked_at : Option HeapNative → Bool
unlinked_at None = false
unlinked_at (Some n) = n.unlinked

-- whether the native at a key was unlinked
abbrev pub unlinked_of : Counts → ℕ → Bool
unlinked_of c key = unlinked_at (native_at (heap_of c) (the_number c key))

-- a reflector where it is preserved; as in slots, its key stands in the place of a number
abbrev pub preserved_reflector : Bool → Option ℕ → Option Name
preserved_reflector preserved reflector = where_set preserved (option_map object reflector)

-- THE REFERENCES OF THE NATIVE at a key: its places
abbrev pub references_of : Counts → ℕ → Slots
references_of c key = native_places (slots_of c key) (preserved_of c key) (option_map object (reflector_at c key))

abbrev pub count_at : Option HeapNative → ℕ
count_at None = 0
count_at (Some n) = n.count

abbrev pub count_of : Counts → ℕ → ℕ
count_of c key = count_at (native_at (heap_of c) (the_number c key))

-- the first of the natives with a greater number than k
abbrev pub first_number : List HeapNative → Option ℕ
first_number natives = first_key (λ n. n.number) natives

abbrev pub number_after : Counts → ℕ → Option ℕ
number_after c k = first_number (filter (λ n. nat_lt k n.number) c.natives)

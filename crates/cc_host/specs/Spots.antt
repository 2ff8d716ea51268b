-- THE SPOTS OF THE HEAPS, each of which holds an object or nothing, by names; and what a call writes.
use Rattle.std.specs.Prelude.{◌≡◌, ℕ, List, Option, Some, None, option_and_then, slice_index_or}
use Rattle.cc_lists.specs.Members.{Among}
use Rattle.cc_names.specs.declared.name.Name.{Name}
use Rattle.cc_names.specs.declared.name.Name.TheVariants as name
use Rattle.cc_names.specs.declared.register.Reg.{Reg}
use Rattle.cc_names.specs.Names.{is_reflector, reflector}
use Rattle.cc_names.specs.Places.{where_set}
use Rattle.cc_model.specs.Checks.{native_of, slots_or_none}
use Rattle.cc_model.specs.Entries.{value_in}
use Rattle.cc_model.specs.Heap as heap
use Rattle.cc_model.specs.Heap.{Heap, delegate_at, native_at, slots_in}
use Rattle.cc_model.specs.WellFormed.{names_there}

pub data Spot : Type 0 where
  -- a register of either bank
  register : Reg → Spot
  -- a slot of an object, counted from 0
  slot : Name → ℕ → Spot
  -- the value of a key in a weak map: of a map and a key
  entry : Name → Name → Spot
  -- the delegate of a proxy
  delegate : Name → Spot
  -- a reflector in its native, which holds it where it is preserved
  preserved : Name → Spot

-- Reading

-- a reflector, where its native preserves it; of what is no reflector nothing
abbrev pub preserved_reflector : Heap → Name → Option Name
preserved_reflector h (name.Native k) = None
preserved_reflector h (name.Script k) = None
preserved_reflector h (name.Reflector k) = option_and_then (λ n. where_set n.preserved (Some (reflector k.0))) (native_at h k.0)

-- WHAT A SPOT HOLDS; nothing where what has it is not there
abbrev pub reads : Heap → Spot → Option Name
reads h (register r) = heap.register h r
reads h (slot x i) = slice_index_or (slots_or_none (slots_in h x)) i None
reads h (entry m k) = value_in h.entries m k
reads h (delegate x) = delegate_at h x
reads h (preserved x) = preserved_reflector h x

-- the object that has a spot; none has a register
abbrev pub owner : Spot → Option Name
owner (register r) = None
owner (slot x i) = Some x
owner (entry m k) = Some m
owner (delegate x) = Some x
owner (preserved x) = native_of (Some x)

abbrev pub HasOwner : Heap → Option Name → Type 0
HasOwner h None = Unit {0}
HasOwner h (Some x) = Among x (names_there h)

-- A SPOT IS THERE: a register, or one of an object that is there
abbrev pub HasSpot : Heap → Spot → Type 0
HasSpot h s = HasOwner h (owner s)

-- Writing

-- THESE SPOTS ALONE ARE WRITTEN: every other one that is there afterwards reads as before, whether anything reaches its object or not
pub record WritesOnly (spots : List Spot) (old new : Heap) : Type 0 where
  pub others : (s : Spot) → HasSpot new s → ¬ (Among s spots) → reads new s ≡ reads old s

-- A SPOT HOLDS THIS, where it is there still: a native that is written may go, as what it held is given up
pub record IsWritten (s : Spot) (x : Option Name) (new : Heap) : Type 0 where
  pub holds : HasSpot new s → reads new s ≡ x

-- what the native of an object holds as its reflector once that is preserved: the object, where it is a reflector
abbrev pub if_reflector : Name → Option Name
if_reflector x = where_set (is_reflector x) (Some x)

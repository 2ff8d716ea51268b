-- WHEN A CALL IS REFUSED: each cause is tested, in one order, and the first that is so is the answer.
use Rattle.std.specs.Prelude.{◌≡◌, ◌==◌, ℕ, Bool, true, false, not, length, nat_le, nat_lt, Option, Some, None, Result, Err, IsOk}
use Rattle.cc_names.specs.declared.kind.Kind.{Kind}
use Rattle.cc_names.specs.declared.kind.Kind.TheVariants as kind
use Rattle.cc_names.specs.Names.{is_native, is_reflector, number_of}
use Rattle.cc_names.specs.Sizes.{most_slots}
use Rattle.cc_heaps.specs.declared.make_stop.MakeStop.{MakeStop}
use Rattle.cc_heaps.specs.declared.make_stop.MakeStop.TheVariants as make
use Rattle.cc_script.specs.Objects.{kind_at}
use Rattle.cc_host.specs.declared.object.Object.{Object}
use Rattle.cc_host.specs.declared.stop.Stop.{Stop}
use Rattle.cc_host.specs.declared.stop.Stop.TheVariants.{Foreign, Gone, Kind as wrong_kind, Index, Full, NoMemory}
use Rattle.cc_host.specs.Hosted.{Hosted, is_found, slots_of, roots}
use Rattle.cc_host.specs.Places.{places}

-- a stop of the heaps, as the host's
abbrev pub stop_of_making : MakeStop → Stop
stop_of_making make.Full = Full
stop_of_making make.NoMemory = NoMemory

abbrev pub out_of_memory : Stop
out_of_memory = NoMemory

-- Answers

-- EXACTLY THIS STOP, and none where there is none
abbrev pub IsStoppedBy : {T : Type 0} → Option Stop → Result T Stop → Type 0
IsStoppedBy None r = IsOk r
IsStoppedBy (Some s) r = r ≡ Err s

-- and where there is none, memory alone may be wanted
abbrev pub IsStoppedOrRefused : {T : Type 0} → Option Stop → Result T Stop → Type 0
IsStoppedOrRefused None r = (s : Stop) → r ≡ Err s → s ≡ NoMemory
IsStoppedOrRefused (Some s) r = r ≡ Err s

-- Tests

-- the first of two
abbrev pub first : Option Stop → Option Stop → Option Stop
first None t = t
first (Some s) t = Some s

-- a stop where this is so
abbrev pub where_so : Bool → Stop → Option Stop
where_so true s = Some s
where_so false s = None

-- nothing is handed in: its name has the number 0, which no object ever has
abbrev pub is_nothing : Object → Bool
is_nothing x = number_of x.name == 0

-- no object is handed in; or it is of another host, or not there
abbrev pub stop_at : Hosted → Object → Option Stop
stop_at h x = first (where_so (is_nothing x) wrong_kind) (first (where_so (not (x.mark == h.mark)) Foreign) (where_so (not (is_found h x)) Gone))

-- or no native
abbrev pub stop_native : Hosted → Object → Option Stop
stop_native h x = first (stop_at h x) (where_so (not (is_native x.name)) wrong_kind)

-- or no script object
abbrev pub stop_script : Hosted → Object → Option Stop
stop_script h x = first (stop_at h x) (where_so (is_native x.name) wrong_kind)

-- or no reflector
abbrev pub stop_reflector : Hosted → Object → Option Stop
stop_reflector h x = first (stop_at h x) (where_so (not (is_reflector x.name)) wrong_kind)

abbrev pub is_map_kind : Option Kind → Bool
is_map_kind (Some kind.Map) = true
is_map_kind _ = false

-- or no weak map
abbrev pub stop_map : Hosted → Object → Option Stop
stop_map h x = first (stop_script h x) (where_so (not (is_map_kind (kind_at h.heaps.scripts x.key))) wrong_kind)

-- of what may be nothing
abbrev pub stop_if_any : (Hosted → Object → Option Stop) → Hosted → Option Object → Option Stop
stop_if_any stop h None = None
stop_if_any stop h (Some x) = stop h x

-- there is no such slot
abbrev pub stop_slot : Hosted → Object → ℕ → Option Stop
stop_slot h x i = where_so (nat_le (length (slots_of h x)) i) Index

-- there is no such root
abbrev pub stop_root : ℕ → Option Stop
stop_root r = where_so (nat_le roots r) Index

-- what a slot of an object takes: natives take all, script objects take script objects
abbrev pub stop_content : Hosted → Object → Option Object → Option Stop
stop_content h x y = elim (is_native x.name) [
  | true ↦ stop_if_any stop_at h y
  | false ↦ stop_if_any stop_script h y
]

-- Calls

-- an object is made with so many slots, in a root
abbrev pub stop_making : ℕ → ℕ → Bool → Option Stop
stop_making r slots is_full = first (stop_root r) (first (where_so (nat_lt most_slots slots) Index) (where_so is_full Full))

abbrev pub are_natives_made : Hosted → Bool
are_natives_made h = nat_le h.heaps.heap.limits.natives h.heaps.heap.natives_made

abbrev pub are_scripts_made : Hosted → Bool
are_scripts_made h = nat_le h.heaps.heap.limits.scripts h.heaps.heap.scripts_made

-- a proxy is made
abbrev pub stop_proxy : Hosted → Object → ℕ → Option Stop
stop_proxy h delegate r = first (stop_script h delegate) (stop_making r 0 (are_scripts_made h))

-- a root is written
abbrev pub stop_rooting : (Hosted → Object → Option Stop) → Hosted → ℕ → Option Object → Option Stop
stop_rooting stop h r x = first (stop_if_any stop h x) (stop_root r)

-- a slot is read, and written
abbrev pub stop_reading : Hosted → Object → ℕ → Option Stop
stop_reading h x i = first (stop_at h x) (stop_slot h x i)

abbrev pub stop_storing : Hosted → Object → ℕ → Option Object → Option Stop
stop_storing h x i y = first (stop_at h x) (first (stop_content h x y) (stop_slot h x i))

-- what a slot holds is moved
abbrev pub stop_moving : Hosted → Object → ℕ → Object → ℕ → Option Stop
stop_moving h x i y j = first (stop_native h x) (first (stop_native h y) (first (stop_slot h x i) (stop_slot h y j)))

-- an entry is read or taken out, and set
abbrev pub stop_entry : Hosted → Object → Object → Option Stop
stop_entry h m k = first (stop_map h m) (stop_script h k)

abbrev pub stop_setting : Hosted → Object → Object → Object → Option Stop
stop_setting h m k v = first (stop_entry h m k) (stop_script h v)

-- there is no such place
abbrev pub stop_place : ℕ → Option Stop
stop_place p = where_so (nat_le places p) Index

-- a place takes an object
abbrev pub stop_placing : Hosted → ℕ → Object → Option Stop
stop_placing h p x = first (stop_at h x) (stop_place p)

-- WHAT THE CALLS TAKE AND CHANGE, by names.
use Rattle.std.specs.Prelude.{◌≡◌, ℕ, IsTrue, IsSome, Option, Some, None, option_map, slice_index_or}
use Rattle.cc_lists.specs.Members.{Among}
use Rattle.cc_names.specs.declared.name.Name.{Name}
use Rattle.cc_names.specs.declared.number.NKey.{NKey}
use Rattle.cc_names.specs.declared.number.SKey.{SKey}
use Rattle.cc_names.specs.declared.kind.Colour.TheVariants.{Black}
use Rattle.cc_names.specs.Names.{native}
use Rattle.cc_model.specs.Heap.{Heap, Outcome, native_at, set_slot}
use Rattle.cc_model.specs.WellFormed.{native_names, script_names}
use Rattle.cc_model.specs.Cascade.{take_up, let_go}
use Rattle.cc_model.specs.Effects.{taken_out}
use Rattle.cc_model.specs.End.{slots_now}
use Rattle.cc_counted.specs.declared.held.Held.{Held}
use Rattle.cc_counted.specs.declared.held.Held.TheVariants as held
use Rattle.cc_script.specs.Objects.{colour_at, is_there, name_at}
use Rattle.cc_heaps.specs.Keyed.{Keyed, number_at}

-- The name of what is handed in or read, and that it is there

abbrev pub native_name : Keyed → Option NKey → Option Name
native_name v None = None
native_name v (Some key) = option_map native (number_at v key.0)

abbrev pub IsNativeThere : Keyed → Option NKey → Type 0
IsNativeThere v None = Unit {0}
IsNativeThere v (Some key) = IsSome (number_at v key.0)

abbrev pub script_name : Keyed → Option SKey → Option Name
script_name v None = None
script_name v (Some key) = name_at v.scripts key.0

abbrev pub IsScriptThere : Keyed → Option SKey → Type 0
IsScriptThere v None = Unit {0}
IsScriptThere v (Some key) = IsTrue (is_there v.scripts key.0)

abbrev pub held_name : Keyed → Option Held → Option Name
held_name v None = None
held_name v (Some (held.Native key)) = native_name v (Some key)
held_name v (Some (held.Script key)) = script_name v (Some key)

abbrev pub IsThere : Keyed → Option Held → Type 0
IsThere v None = Unit {0}
IsThere v (Some (held.Native key)) = IsNativeThere v (Some key)
IsThere v (Some (held.Script key)) = IsScriptThere v (Some key)

-- what is handed in, where it is a script object, is black
abbrev pub IsBlackHeld : Keyed → Option Held → Type 0
IsBlackHeld v None = Unit {0}
IsBlackHeld v (Some (held.Native key)) = Unit {0}
IsBlackHeld v (Some (held.Script key)) = colour_at v.scripts key.0 ≡ Some Black

-- Changes

-- slot i of native k written: the new reference is taken first, then the slot is written, then the old one is given up
abbrev pub written_in : Heap → ℕ → ℕ → Option Name → Outcome
written_in h k i x = let_go (set_slot h (Some (native k)) i x) (slice_index_or (slots_now (native_at h k)) i None)

abbrev pub stored_in : Heap → ℕ → ℕ → Option Name → Outcome
stored_in h k i x = written_in (take_up h x) k i x

-- what slot j of native m holds
abbrev pub slot_held : Heap → ℕ → ℕ → Option Name
slot_held h m j = slice_index_or (slots_now (native_at h m)) j None

-- it is touched or exposed, and leaves the slot: its reference, where it is a native, is in hand
abbrev pub taken_from : Heap → ℕ → ℕ → Heap
taken_from h m j = taken_out h (Some (native m)) j (slot_held h m j)

-- and goes into slot i of native k, which gives up what it held then
abbrev pub moved_in : Heap → ℕ → ℕ → ℕ → ℕ → Outcome
moved_in h k i m j = written_in (taken_from h m j) k i (slot_held h m j)

-- AN OBJECT THAT IS THERE BEFORE AND AFTER has the same key
pub record KeepsKeys (old new : Keyed) : Type 0 where
  pub natives : (key k : ℕ) → number_at old key ≡ Some k → Among (native k) (native_names new.heap) → number_at new key ≡ Some k
  pub scripts : (key : ℕ) (x : Name) → name_at old.scripts key ≡ Some x → Among x (script_names new.heap) → name_at new.scripts key ≡ Some x

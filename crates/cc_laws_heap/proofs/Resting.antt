-- WHAT A DEED RESTS ON, in the same words for the heaps and for the graph: on room and slots, and on what is known of what it names. For every command
-- that is in range and not refused this follows once, from what is known of what commands read.
use Rattle.std.proofs.Common.{◌≡◌, ℕ, ◌<◌, ◌≤◌, true, false, length, Option, None, is_none, arith}
use Rattle.std.specs.Prelude.{IsTrue}
use Rattle.std.proofs.lemmas.Bool.{and_parts, or_parts, ltb-true, leb-true, leb-false, not-false}
use Rattle.cc_names.specs.declared.name.Name.{Name}
use Rattle.cc_names.specs.declared.register.Reg.{Reg}
use Rattle.cc_names.specs.declared.register.Reg.TheVariants.{N, S}
use Rattle.cc_names.specs.Sizes.{bank_length, most_slots}
use Rattle.cc_model.specs.declared.command.Command.{Command}
use Rattle.cc_model.specs.declared.command.Command.TheVariants.{Get}
use Rattle.cc_model.specs.Ranges.{in_range, is_register}
use Rattle.cc_model.specs.Checks.{Objects, slot_at, slots_at, value_at, native_of, is_map_in, is_native_there, is_script_there}
use Rattle.cc_model.specs.Deeds.{Deed, nothing_done, native_made, plain_made, map_made, proxy_made, native_held, script_held, script_copied, native_stored, slot_moved, script_stored, reflector_held, reflector_preserved, entry_written, object_exposed, weak_written, source_of, deed_of}
use Rattle.cc_laws_heap.proofs.Taken.{IsTaken}

-- What is known of what commands read, which may be nothing.
pub record Readings : Type 1 where
  -- of a native, and of one that a native register holds
  pub native : Option Name → Type 0
  pub held_native : Option Name → Type 0
  -- of a script object, and of one that a script register holds
  pub script : Option Name → Type 0
  pub held_script : Option Name → Type 0
  -- of any object that a register holds
  pub held : Option Name → Type 0
  -- of the place of a native register
  pub place : ℕ → Type 0

-- What each deed rests on

-- one more native with n slots, which native register d is to hold
pub record HasRoomForNative (P : Readings) (o : Objects) (d n : ℕ) : Type 0 where
  pub register : P.place d
  pub few : n ≤ most_slots
  pub room : o.natives_made < o.limits.natives

-- one more script object with a number of its own
abbrev pub HasRoomForScript : Objects → Type 0
HasRoomForScript o = o.scripts_made < o.limits.scripts

-- a slot is one of those of what native register d holds
abbrev pub HasSlotAt : Objects → ℕ → ℕ → Type 0
HasSlotAt o d i = i < length (slots_at o (N d))

-- an entry: the map is a weak map
pub record EntryRests (P : Readings) (o : Objects) (m k v : Option Name) : Type 0 where
  pub the_map : P.held_script m
  pub key : P.held_script k
  pub value : P.held_script v
  pub is_map : is_map_in o m ≡ true

-- WHAT A DEED RESTS ON
abbrev pub RestsOn : Readings → Objects → Deed → Type 0
RestsOn P o nothing_done = Unit {0}
RestsOn P o (native_made d n) = HasRoomForNative P o d n
RestsOn P o (plain_made d n) = (n ≤ most_slots) × HasRoomForScript o
RestsOn P o (map_made d) = HasRoomForScript o
RestsOn P o (proxy_made d x) = P.held_script x × (is_none x ≡ false) × HasRoomForScript o
RestsOn P o (native_held d x) = P.place d × P.native x
RestsOn P o (script_held d x) = P.script x
RestsOn P o (script_copied d x) = P.held_script x
RestsOn P o (native_stored d i x) = P.held x × HasSlotAt o d i
RestsOn P o (slot_moved d i s j) = HasSlotAt o d i × HasSlotAt o s j
RestsOn P o (script_stored x i y) = P.held_script x × P.held_script y
RestsOn P o (reflector_held d x) = P.held_native x
RestsOn P o (reflector_preserved x) = P.held_script x
RestsOn P o (entry_written m k v) = EntryRests P o m k v
RestsOn P o (object_exposed x) = Unit {0}
RestsOn P o (weak_written w x) = P.native x

-- What is known of each place that commands read
pub record AreRead (P : Readings) (o : Objects) : Type 0 where
  pub no_native : P.native None
  pub no_script : P.held_script None
  -- a register that commands can name has a place
  pub place : (d : ℕ) → d < bank_length → P.place d
  -- registers, and what a source gives
  pub native_register : (d : ℕ) → P.native (o.register (N d))
  pub held_native : (d : ℕ) → P.held_native (o.register (N d))
  pub script_register : (d : ℕ) → P.held_script (o.register (S d))
  pub source : (r : Option Reg) → P.held (source_of o r)
  -- slots and entries of what they hold, and the native behind a reflector
  pub native_slot : (s i : ℕ) → is_script_there (slot_at o (N s) i) ≡ false → P.native (slot_at o (N s) i)
  pub script_in_native : (s i : ℕ) → is_native_there (slot_at o (N s) i) ≡ false → P.script (slot_at o (N s) i)
  pub script_slot : (s i : ℕ) → P.script (slot_at o (S s) i)
  pub value : (m k : ℕ) → P.script (value_at o (o.register (S m)) (o.register (S k)))
  pub behind : (s : ℕ) → P.native (native_of (o.register (S s)))

-- EVERY COMMAND that is in range and not refused rests on what it may.
pub rests_on : (P : Readings) (o : Objects) → AreRead P o → (c : Command) → IsTrue (in_range c) → IsTaken o c → RestsOn P o (deed_of o c)
unfolding deed_of
rests_on P o a (Get (N d) s i) r t = (a.place d (ltb-true d bank_length (and_parts (is_register d) (is_register s) r).0), a.native_slot s i t.content)
rests_on P o a (Get (S d) s i) r t = a.script_in_native s i t.content
rests_on P o a c r t = grind (arith, and_parts, or_parts, ltb-true, leb-true, leb-false, not-false, a.place, a.no_native, a.no_script, a.native_register, a.held_native, a.script_register, a.source, a.script_slot, a.value, a.behind)

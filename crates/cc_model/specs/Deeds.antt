-- DEEDS: what a command that is not refused comes to, resolved once, in the words that the graph and the heaps share. Many commands come to one
-- deed: `copy`, `drop`, `get` and `unwrap` all have a native register hold something.
use Rattle.std.specs.Prelude.{ℕ, Option, None, option_map, option_and_then}
use Rattle.cc_names.specs.declared.name.Name.{Name}
use Rattle.cc_names.specs.declared.register.Reg.{Reg}
use Rattle.cc_names.specs.declared.register.Reg.TheVariants.{N, S, W}
use Rattle.cc_model.specs.declared.command.Command.{Command}
use Rattle.cc_model.specs.declared.command.Command.TheVariants.{Native, Script, WeakMap, Proxy, CopyNative, CopyScript, Drop, Set, Get, Move, Put, Take, Wrap, Unwrap, Preserve, SetEntry, GetEntry, Expose, Weak}
use Rattle.cc_model.specs.Checks.{Objects, slot_at, value_at, native_of}

-- What is held, written or read is an object, or nothing. d and s are registers, i and j are slots.
pub data Deed : Type 0 where
  nothing_done : Deed
  -- a native, a plain object with so many empty slots, and a weak map made, and register d holds it
  native_made : (d n : ℕ) → Deed
  plain_made : (d n : ℕ) → Deed
  map_made : (d : ℕ) → Deed
  -- a proxy of x made, and script register d holds it
  proxy_made : (d : ℕ) (x : Option Name) → Deed
  -- native register d holds x from now on
  native_held : (d : ℕ) (x : Option Name) → Deed
  -- what comes from a slot or an entry is exposed, and script register d holds it
  script_held : (d : ℕ) (x : Option Name) → Deed
  -- script register d holds what another holds, or nothing
  script_copied : (d : ℕ) (x : Option Name) → Deed
  -- slot i of what native register d holds holds x
  native_stored : (d i : ℕ) (x : Option Name) → Deed
  -- what slot j of what native register s holds holds goes into slot i of what native register d holds
  slot_moved : (d i s j : ℕ) → Deed
  -- slot i of script object x holds y, and a reflector is preserved
  script_stored : (x : Option Name) (i : ℕ) (y : Option Name) → Deed
  -- script register d holds the reflector of x, which is made where there is none
  reflector_held : (d : ℕ) (x : Option Name) → Deed
  -- reflector x is preserved
  reflector_preserved : (x : Option Name) → Deed
  -- the entry of key k in map m has the value v, or is taken out
  entry_written : (m k v : Option Name) → Deed
  -- x is exposed
  object_exposed : (x : Option Name) → Deed
  -- weak register w notes x from now on, or nothing
  weak_written : (w : ℕ) (x : Option Name) → Deed

-- what a source gives to a slot
abbrev pub source_of : Objects → Option Reg → Option Name
source_of o r = option_and_then o.register r

-- THE DEED of a command
unfoldable pub deed_of : Objects → Command → Deed
deed_of o (Native d n) = native_made d n
deed_of o (Script d n) = plain_made d n
deed_of o (WeakMap d) = map_made d
deed_of o (Proxy d s) = proxy_made d (o.register (S s))
deed_of o (CopyNative d s) = native_held d (o.register (N s))
deed_of o (CopyScript d s) = script_copied d (o.register (S s))
deed_of o (Drop (N d)) = native_held d None
deed_of o (Drop (S d)) = script_copied d None
deed_of o (Drop (W w)) = weak_written w None
deed_of o (Set d i r) = native_stored d i (source_of o r)
deed_of o (Get (N d) s i) = native_held d (slot_at o (N s) i)
deed_of o (Get (S d) s i) = script_held d (slot_at o (N s) i)
deed_of o (Move d i s j) = slot_moved d i s j
deed_of o (Put d i s) = script_stored (o.register (S d)) i (source_of o (option_map S s))
deed_of o (Take d s i) = script_held d (slot_at o (S s) i)
deed_of o (Wrap d s) = reflector_held d (o.register (N s))
deed_of o (Unwrap d s) = native_held d (native_of (o.register (S s)))
deed_of o (Preserve s) = reflector_preserved (o.register (S s))
deed_of o (SetEntry m k v) = entry_written (o.register (S m)) (o.register (S k)) (source_of o (option_map S v))
deed_of o (GetEntry d m k) = script_held d (value_at o (o.register (S m)) (o.register (S k)))
deed_of o (Expose s i) = object_exposed (slot_at o (N s) i)
deed_of o (Weak w s) = weak_written w (o.register (N s))
deed_of o _ = nothing_done

-- THE HEAPS BY NAMES, put together of what each part of them shows.
use Rattle.std.specs.Prelude.{IsSome, IsTrue, ℕ, List, map, Option, Some, None, option_map, option_and_then, slice_index_or}
use Rattle.cc_names.specs.Allowance.{Allowance}
use Rattle.cc_names.specs.declared.number.NKey.{NKey}
use Rattle.cc_names.specs.declared.number.SKey.{SKey}
use Rattle.cc_names.specs.declared.name.Name.{Name}
use Rattle.cc_names.specs.declared.name.Name.TheVariants as name
use Rattle.cc_names.specs.Names.{native}
use Rattle.cc_model.specs.Slots.{Slots}
use Rattle.cc_model.specs.Heap.{Heap, HeapNative}
use Rattle.cc_counted.specs.Counts.{Counts}
use Rattle.cc_script.specs.Objects.{Object, is_there, name_at}
use Rattle.cc_weakmaps.specs.Entries.{KeyedEntry}
use Rattle.cc_heaps.specs.Keyed.{named_entries, named_objects}

-- which native stands at which key
abbrev pub Keys : Type 0
Keys = List (Option ℕ)

-- the name of what a native register holds
abbrev pub named : Keys → Option NKey → Option Name
named keys None = None
named keys (Some key) = option_map native (slice_index_or keys key.0 None)

-- what it holds is there
abbrev pub IsLive : Keys → Option NKey → Type 0
IsLive keys None = Unit {0}
IsLive keys (Some key) = IsSome (slice_index_or keys key.0 None)

-- the same of a script register
abbrev pub script_named : List Object → Option SKey → Option Name
script_named objects None = None
script_named objects (Some key) = name_at objects key.0

abbrev pub IsScriptLive : List Object → Option SKey → Type 0
IsScriptLive objects None = Unit {0}
IsScriptLive objects (Some key) = IsTrue (is_there objects key.0)

-- the counted heap's natives under their names: a script object has its own in the place of its key
abbrev pub own_name : List Object → Name → Option Name
own_name objects (name.Native k) = Some (name.Native k)
own_name objects (name.Script k) = name_at objects k.0
own_name objects (name.Reflector k) = Some (name.Reflector k)

abbrev pub named_native : List Object → HeapNative → HeapNative
named_native objects n = record n { slots = map (λ x. option_and_then (own_name objects) x) n.slots }

-- what a slot of a native holds, as the counted heap shows it, is there as far as it is a script object
abbrev pub IsHeldThere : List Object → Name → Type 0
IsHeldThere objects (name.Native k) = Unit {0}
IsHeldThere objects (name.Script k) = IsTrue (is_there objects k.0)
IsHeldThere objects (name.Reflector k) = ⊥

-- the registers by names, and how many objects were made
pub record Rest : Type 0 where
  pub native_registers : Slots
  pub script_registers : Slots
  pub natives_made : ℕ
  pub scripts_made : ℕ
  pub limits : Allowance

abbrev pub heap_with : Rest → Counts → List Object → List KeyedEntry → Heap
heap_with r c objects es = record {
  native_registers = r.native_registers;
  script_registers = r.script_registers;
  natives = map (named_native objects) c.natives;
  scripts = named_objects objects;
  entries = named_entries objects es;
  buffer = c.buffer;
  natives_made = r.natives_made;
  scripts_made = r.scripts_made;
  limits = r.limits;
}

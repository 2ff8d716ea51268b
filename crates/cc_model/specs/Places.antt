-- WHERE THE OBJECTS OF THE GRAPH AND OF THE HEAPS MAY REFER TO ANOTHER: what they refer to is the contents of these places,
-- as often as it stands there.
use Rattle.std.specs.Prelude.{ℕ, Bool, Option, None, Some, option_map, option_and_then}
use Rattle.cc_names.specs.declared.name.Name.{Name}
use Rattle.cc_names.specs.declared.name.Name.TheVariants as name
use Rattle.cc_names.specs.Names.{object, reflector}
use Rattle.cc_names.specs.Places.{native_places, script_places, all_script_places}
use Rattle.cc_model.specs.Slots.{Slots}
use Rattle.cc_model.specs.Checks.{native_of, slots_or_none}
use Rattle.cc_model.specs.Graph.{Graph, GraphNative, GraphScript, native_in, script_in, slots_of_script, delegate_of_script}
use Rattle.cc_model.specs.Heap.{Heap, HeapNative, HeapScript, native_at, script_at}

-- By names

-- of native k with these slots
abbrev pub places_of_numbered : ℕ → Slots → Bool → Slots
places_of_numbered k slots preserved = native_places slots preserved (Some (reflector k))

-- of script object x with these slots and this delegate
abbrev pub places_of_named : Name → Slots → Option Name → Slots
places_of_named x slots its_delegate = all_script_places slots its_delegate (native_of (Some x))

-- In the graph

abbrev pub places_of_made_native : ℕ → GraphNative → Slots
places_of_made_native k n = places_of_numbered k n.slots n.preserved

abbrev pub places_of_made_script : ℕ → GraphScript → Slots
places_of_made_script k o = places_of_named (object k) (slots_or_none (slots_of_script o)) (delegate_of_script o)

abbrev pub places_of_made_reflector : ℕ → GraphNative → Option Slots
places_of_made_reflector k n = option_map (λ slots. places_of_named (reflector k) slots None) n.reflector

-- the places of an object; none of what was never made, as of the reflector of a native that was never wrapped
abbrev pub places_made : Graph → Name → Option Slots
places_made g (name.Native k) = option_map (places_of_made_native k.0) (native_in g k.0)
places_made g (name.Script k) = option_map (places_of_made_script k.0) (script_in g k.0)
places_made g (name.Reflector k) = option_and_then (places_of_made_reflector k.0) (native_in g k.0)

-- In the heaps

abbrev pub places_of_native : HeapNative → Slots
places_of_native n = places_of_numbered n.number n.slots n.preserved

abbrev pub places_of_script : HeapScript → Slots
places_of_script o = places_of_named o.name o.slots o.delegate

-- those over which script and marking go
abbrev pub script_places_of : HeapScript → Slots
script_places_of o = script_places o.slots o.delegate

-- the places of an object; none of what is not there
abbrev pub places_in : Heap → Name → Option Slots
places_in h (name.Native k) = option_map places_of_native (native_at h k.0)
places_in h (name.Script k) = option_map places_of_script (script_at h (object k.0))
places_in h (name.Reflector k) = option_map places_of_script (script_at h (reflector k.0))

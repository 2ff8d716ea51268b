-- WHAT IS READ OF REFLECTORS: of a native's, by names.
use Rattle.std.specs.Prelude.{Bool, true, false, Option, Some, None, option_map}
use Rattle.cc_names.specs.declared.name.Name.{Name}
use Rattle.cc_names.specs.Names.{number_of, reflector}
use Rattle.cc_model.specs.Heap.{Heap, has_reflector, native_at}

-- the reflector of a native, where it is there
abbrev pub reflector_in : Heap → Name → Option Name
reflector_in h x = elim (has_reflector h (number_of x)) [ true ↦ Some (reflector (number_of x)) | false ↦ None ]

-- WHETHER A NATIVE PRESERVES ITS REFLECTOR, by the name of either; none where the native is not there
abbrev pub preserved_in : Heap → Name → Option Bool
preserved_in h x = option_map (λ n. n.preserved) (native_at h (number_of x))

-- THE HEAP ONCE A NATIVE HAS LOST ITS MARK.
use Rattle.cc_model.specs.Heap.{Heap}
use Rattle.cc_model.specs.Skipping.{unmarked}
use Rattle.cc_counted.specs.declared.held.Held.{Held}
use Rattle.cc_counted.specs.declared.held.Held.TheVariants as held
use Rattle.cc_heaps.specs.Keyed.{Keyed, the_number}

-- a script object has no mark
abbrev pub unmarked_object : Keyed → Held → Heap
unmarked_object v (held.Native key) = unmarked v.heap (the_number v key.0)
unmarked_object v (held.Script key) = v.heap

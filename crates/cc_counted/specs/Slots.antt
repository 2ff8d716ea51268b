-- WHAT A SLOT OF A NATIVE HOLDS, as the native keeps it.
use Rattle.std.specs.Prelude.{Option, Some, None}
use Rattle.cc_counted.specs.declared.held.Held.{Held}
use Rattle.cc_counted.specs.declared.held.Held.TheVariants as held
use Rattle.cc_counted.specs.declared.slot.Content.{Content}
use Rattle.cc_counted.specs.declared.slot.Content.TheVariants.{Empty, Native, Script}

abbrev pub held_in : Content → Option Held
held_in Empty = None
held_in (Native key) = Some (held.Native key)
held_in (Script key) = Some (held.Script key)

-- THE PLACES OF AN OBJECT BY ITS KEY: where it may refer to another.
use Rattle.std.specs.Prelude.{Some, option_and_then}
use Rattle.cc_model.specs.Slots.{Slots}
use Rattle.cc_model.specs.Checks.{slots_or_none}
use Rattle.cc_model.specs.Places.{places_in}
use Rattle.cc_counted.specs.declared.held.Held.{Held}
use Rattle.cc_heaps.specs.Keyed.{Keyed}
use Rattle.cc_heaps.specs.Changes.{held_name}

-- none of what is not there
abbrev pub places_at : Keyed → Held → Slots
places_at v object = slots_or_none (option_and_then (places_in v.heap) (held_name v (Some object)))

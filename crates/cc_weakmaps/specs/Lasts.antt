-- THE LAST PLACES THAT ARE KEPT, of how many objects, and for how many there is room.
use Rattle.std.specs.Prelude.{◌≡◌, length, vec_capacity}
use Rattle.cc_weakmaps.specs.declared.lasts.Lasts.{Lasts}

-- no memory is taken, and of no further object a place can be kept
pub record KeepsRoom (old new : Lasts) : Type 0 where
  pub known : length new.places.items ≡ length old.places.items
  pub room : vec_capacity new.places ≡ vec_capacity old.places

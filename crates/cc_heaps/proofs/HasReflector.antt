-- A NATIVE HAS A REFLECTOR by its name where the counted heap has a key for it.
use Rattle.cc_lists.proofs.Held.{is_some-map}
use Rattle.std.proofs.Common.{arith, ◌≡◌, ℕ}
use Rattle.std.specs.Option.{is_some}
use Rattle.cc_lists.proofs.Searching.{find-map}
use Rattle.cc_model.specs.Heap.{has_reflector}
use Rattle.cc_heaps.specs.Keyed.{Keyed, reflector_key, named_objects}

module _ (v : Keyed) (named : v.heap.scripts ≡ named_objects v.scripts) where
  -- a native has a reflector by name where it has the key of one
  pub has_reflector-named : (k : ℕ) → has_reflector v.heap k ≡ is_some (reflector_key v.scripts k)
  has_reflector-named k = grind (arith, find-map, is_some-map)

-- HOW MANY OBJECTS THERE ARE, by keys and by names.
use Rattle.std.proofs.Common.{◌≡◌, [], length, sym, ◌∙◌, ap}
use Rattle.std.proofs.lemmas.List.{length-map}
use Rattle.cc_heaps.specs.Keyed.{Keyed, IsInOrder, counts_of, keyed_native, named_object}

pub natives-many : (v : Keyed) → length (counts_of v).natives ≡ length v.heap.natives
natives-many v = length-map v.heap.natives (keyed_native v.scripts)

pub scripts-many : (v : Keyed) → IsInOrder [] v → length v.scripts ≡ length v.heap.scripts
scripts-many v order = sym (ap length order.named ∙ length-map v.scripts (named_object v.scripts))

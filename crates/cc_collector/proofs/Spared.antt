-- WHAT IS THERE IN THE HEAPS, as a census has it.
use Rattle.std.proofs.Common.{◌≡◌, arith}
use Rattle.std.proofs.lemmas.Bool.{not-true}
use Rattle.cc_model.specs.Heap.{Heap}
use Rattle.cc_model.specs.WellFormed.{IsWellFormed, names_there}
use Rattle.cc_model.specs.Listed.{census_order}
use Rattle.cc_model.specs.Run.{census_names}
use Rattle.cc_laws_heap.proofs.Face.{script_names-named}
use Rattle.cc_laws_snapshot.proofs.Face.{native-name_of}
use Rattle.cc_laws_run.proofs.Face.{filter-first, filter-second}

-- what is there, natives and then script objects, is in census order
pub listed-there : (h : Heap) → IsWellFormed h → census_names h ≡ census_order (names_there h)
listed-there h w = grind (arith, filter-first, native-name_of, not-true, script_names-named, filter-second)

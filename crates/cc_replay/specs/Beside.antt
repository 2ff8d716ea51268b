-- THE MACHINE OF THE HEAPS AND THE COLLECTOR, beside weak registers.
use Rattle.std.specs.Prelude.{List, Option}
use Rattle.cc_model.specs.Collecting.{Machine}
use Rattle.cc_heaps.specs.Keyed.{Keyed}
use Rattle.cc_weakrefs.specs.declared.noted.Noted.{Noted}
use Rattle.cc_weakrefs.specs.Noting.{HoldKeys, names_noted}
use Rattle.cc_collector.specs.Kept.{Kept, machine_of}

-- the machine, whose weak registers note what these do
abbrev pub machine_beside : Keyed → Kept → List (Option Noted) → Machine
machine_beside v k weak = record (machine_of v k) { weak = names_noted weak }

-- weak registers that hold the keys of the natives that they note go on holding them
abbrev pub KeepsNoted : Keyed → Keyed → Type 0
KeepsNoted old new = (weak : List (Option Noted)) → HoldKeys weak old → HoldKeys weak new

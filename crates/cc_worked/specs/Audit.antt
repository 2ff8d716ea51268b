-- THE AUDIT of a run: what must hold of the machine at the beginning and after each ask.
use Rattle.std.specs.Prelude.{ℕ, Bool, ◌&&◌, List, [], ◌∷◌}
use Rattle.cc_names.specs.Allowance.{Allowance}
use Rattle.cc_model.specs.Asks.{Ask, asks_of}
use Rattle.cc_model.specs.View.{view}
use Rattle.cc_model.specs.Collecting.{Machine, empty_machine}
use Rattle.cc_model.specs.Run.{do_ask}
use Rattle.cc_worked.specs.SnapshotTests.{collection_is_right}

-- whether no unreached native is forgotten, and the snapshot of the running collection is fresh
abbrev pub is_right : Machine → Bool
is_right m = collection_is_right m.heap.natives_made (view m.heap) m.snapshot

abbrev pub run_is_right : Machine → List Ask → Bool
run_is_right m [] = is_right m
run_is_right m (ask ∷ asks) = is_right m && run_is_right (do_ask m ask).machine asks

-- WHETHER A SCRIPT'S PLAIN RUN PASSES THE AUDIT
abbrev pub passes_audit : Allowance → List Bool → List ℕ → Bool
passes_audit allowance memory input = run_is_right (empty_machine allowance memory) (asks_of input)

-- WHAT A SCRIPT LEAVES, so that premises of the laws can be met.
use Rattle.std.specs.Prelude.{◌≡◌, ℕ, Bool, List}
use Rattle.cc_names.specs.Allowance.{Allowance}
use Rattle.cc_model.specs.Asks.{asks_of}
use Rattle.cc_model.specs.Collecting.{Machine, empty_machine}
use Rattle.cc_model.specs.Run.{machine_after}

-- the machine that a script leaves, from the empty heaps
abbrev pub machine_left_by : Allowance → List Bool → List ℕ → Machine
machine_left_by limits memory input = machine_after (empty_machine limits memory) (asks_of input)

-- some script leaves this machine
abbrev pub IsLeftByAScript : Machine → Type 0
IsLeftByAScript m = (limits : Allowance) × (memory : List Bool) × (input : List ℕ) × (machine_left_by limits memory input ≡ m)

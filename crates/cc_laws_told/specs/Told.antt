-- HOW MUCH IS TOLD, beside what is there before and after.
use Rattle.std.specs.Prelude.{ℕ, ◌+◌, ◌≤◌, [], length}
use Rattle.cc_model.specs.Heap.{Heap}
use Rattle.cc_model.specs.Collecting.{Machine, UnitsDone}
use Rattle.cc_laws_heap.specs.Sound.{IsSound}

-- how many objects are there
abbrev pub objects : Heap → ℕ
objects h = length h.natives + length h.scripts

-- UNITS TELL FEW ITEMS: one for each object that leaves, and at most so many besides. No object comes, and the heaps are sound
pub record TellsFew (besides : ℕ) (m : Machine) (d : UnitsDone) : Type 0 where
  pub told : length d.events + objects d.machine.heap ≤ objects m.heap + besides
  pub natives : length d.machine.heap.natives ≤ length m.heap.natives
  pub scripts : length d.machine.heap.scripts ≤ length m.heap.scripts
  pub sound : IsSound [] d.machine.heap

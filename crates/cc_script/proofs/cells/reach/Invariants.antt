use Rattle.std.proofs.Common.{◌≡◌, ◌≤◌, ℕ, ◌-◌, get_or, length}
use Rattle.cc_script.specs.Cells.{nothing}
use Rattle.cc_script.proofs.cells.reach.Given as goal

abbrev pub invariant-loop-alloc : goal.invariant-loop-alloc
invariant-loop-alloc l = record {
  longer : length l.fn.bodies.items ≤ length l.bodies.items;
  same : (key : ℕ) → get_or l.bodies.items key nothing ≡ get_or l.fn.bodies.items key nothing;
}

abbrev pub decreases-loop-alloc : goal.decreases-loop-alloc
decreases-loop-alloc l = l.count - length l.bodies.items

use Rattle.std.proofs.Common.{ℕ, ◌<◌}
use Rattle.cc_script.specs.Cells.{HasColourAt}
use Rattle.cc_script.proofs.cells.Cells.has_colour.Given as goal

abbrev pub invariant-loop-key : goal.invariant-loop-key
invariant-loop-key l = record { passed : (k : ℕ) → k < l.key → ¬ (HasColourAt l.self l.fn.colour k) }

use Rattle.std.proofs.Common.{take}
use Rattle.cc_model.specs.Slots.{contents}
use Rattle.cc_skip.specs.Walked.{Enters}
use Rattle.cc_skip.proofs.walking.enter_scripts.Given as goal

abbrev pub invariant-loop-r : goal.invariant-loop-r
invariant-loop-r l = Enters l.fn.heaps l.heaps (contents (take l.r l.fn.heaps.heap.script_registers))

use Rattle.std.proofs.Common.{◌≡◌, ◌≤◌, ◌-◌, length, replicate, None, vec_capacity}
use Rattle.cc_script.proofs.parts.empty_slots.Given as goal

abbrev pub invariant-loop-empty : goal.invariant-loop-empty
invariant-loop-empty l = record {
  items : l.empty.items ≡ replicate (length l.empty.items) None;
  room : vec_capacity l.empty ≡ l.slots;
  few : length l.empty.items ≤ l.slots;
}

abbrev pub decreases-loop-empty : goal.decreases-loop-empty
decreases-loop-empty l = l.slots - length l.empty.items

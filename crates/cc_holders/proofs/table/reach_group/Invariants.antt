use Rattle.std.proofs.Common.{◌≡◌, ℕ, ◌+◌, ◌-◌, [], length, get_or}
use Rattle.cc_holders.proofs.table.reach_group.Given as goal

abbrev pub invariant-loop-groups : goal.invariant-loop-groups
invariant-loop-groups l = (k : ℕ) → get_or l.groups.items k [] ≡ get_or l.fn.groups.items k []

abbrev pub decreases-loop-groups : goal.decreases-loop-groups
decreases-loop-groups l = l.place + 1 - length l.groups.items

use Rattle.std.proofs.Common.{◌≤◌, ◌-◌}
use Rattle.cc_pages.specs.Values.{in_groups}
use Rattle.cc_pages.proofs.Walking.{AreNone}
use Rattle.cc_pages.proofs.group.walk.Given as goal

abbrev pub invariant-loop-number : goal.invariant-loop-number
invariant-loop-number l = record {
  from : l.start ≤ l.number;
  none : AreNone (in_groups l.groups.items) l.start l.number;
}

abbrev pub decreases-loop-number : goal.decreases-loop-number
decreases-loop-number l = l.last - l.number

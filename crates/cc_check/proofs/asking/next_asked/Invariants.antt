use Rattle.std.proofs.Common.{◌≡◌, length}
use Rattle.cc_check.specs.Judging.{from_next}
use Rattle.cc_check.specs.Standing.{asks_left}
use Rattle.cc_check.proofs.ReadOn.{LeavesAlong}
use Rattle.cc_check.proofs.asking.next_asked.Given as goal

abbrev pub invariant-loop-asked : goal.invariant-loop-asked
invariant-loop-asked l = record {
  next : from_next (asks_left l.fn.script) ≡ from_next (asks_left l.ahead);
  along : LeavesAlong l.fn.script l.ahead;
  same : l.script ≡ l.fn.script;
}

abbrev pub decreases-loop-asked : goal.decreases-loop-asked
decreases-loop-asked l = length l.ahead.left.now

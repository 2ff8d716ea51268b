use Rattle.std.proofs.Common.{◌+◌, ◌*◌, ◌≤◌}
use Rattle.cc_pages.specs.Values.{at_number}
use Rattle.cc_pages.proofs.Walking.{AreNone}
use Rattle.cc_pages.proofs.group.first_in_group.Given as goal

abbrev pub invariant-loop-page : goal.invariant-loop-page
invariant-loop-page l = record {
  from : l.start ≤ l.page * 128 + l.from;
  none : AreNone (at_number l.group.items) l.start (l.page * 128 + l.from);
}

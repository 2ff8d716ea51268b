use Rattle.std.proofs.Common.{◌≤◌}
use Rattle.cc_pages.specs.Values.{in_page}
use Rattle.cc_pages.proofs.Walking.{AreNone}
use Rattle.cc_pages.proofs.page.first_in_page.Given as goal

abbrev pub invariant-loop-place : goal.invariant-loop-place
invariant-loop-place l = record {
  from : l.start ≤ l.place;
  none : AreNone (in_page l.page) l.start l.place;
}

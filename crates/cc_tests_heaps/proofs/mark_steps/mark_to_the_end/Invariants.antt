use Rattle.std.proofs.Common.{[]}
use Rattle.cc_heaps.specs.Keyed.{IsInOrder}
use Rattle.cc_markslice.specs.Going.{IsMarkingWell, scans_left_in}
use Rattle.cc_tests_heaps.proofs.mark_steps.mark_to_the_end.Given as goal

abbrev pub invariant-steps : goal.invariant-steps
invariant-steps l = record {
  order : IsInOrder [] l.heaps;
  well : IsMarkingWell l.heaps;
}

abbrev pub decreases-steps : goal.decreases-steps
decreases-steps l = scans_left_in l.heaps

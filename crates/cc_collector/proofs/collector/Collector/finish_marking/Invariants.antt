use Rattle.cc_markslice.specs.Going.{scans_left_in}
use Rattle.cc_collector.proofs.Marking.{HasScannedOn}
use Rattle.cc_collector.proofs.collector.Collector.finish_marking.Given as goal

abbrev pub invariant-steps : goal.invariant-steps
invariant-steps g l = record { on : HasScannedOn l.fn.heaps l.heaps (g.N.Notices.telling l.fn.out) (g.N.Notices.telling l.out) }

abbrev pub decreases-steps : goal.decreases-steps
decreases-steps g l = scans_left_in l.heaps

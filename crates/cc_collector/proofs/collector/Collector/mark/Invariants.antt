use Rattle.std.proofs.Common.{◌≡◌, ◌+◌, None}
use Rattle.cc_collector.proofs.MakingWay.{HasMadeWay}
use Rattle.cc_collector.proofs.MarkingOn.{HasMarkedOn}
use Rattle.cc_collector.proofs.collector.Collector.mark.Given as goal

abbrev pub invariant-loop : goal.invariant-loop
invariant-loop g l = record {
  way : HasMadeWay l.fn.heaps l.fn.self l.initial.heaps (g.N.Notices.telling l.fn.out) (g.N.Notices.telling l.initial.out);
  on : HasMarkedOn l.counter l.initial.heaps l.heaps l.self.marking (g.N.Notices.telling l.initial.out) (g.N.Notices.telling l.out);
  alone : l.self.running ≡ None;
  counted : l.steps ≡ l.fn.steps + l.counter;
}

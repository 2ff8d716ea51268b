use Rattle.std.proofs.Common.{◌≡◌, ◌+◌, [], false}
use Rattle.cc_model.specs.Telling.{TellsEvents}
use Rattle.cc_collector.specs.Kept.{machine_with}
use Rattle.cc_collector.specs.Units.{HasFinishedMarking, HasGoneOn, Keeps}
use Rattle.cc_collector.proofs.collector.Collector.slice.Given as goal

abbrev pub invariant-loop : goal.invariant-loop
invariant-loop g l = record {
  finished : HasFinishedMarking l.fn.heaps l.fn.self.running l.initial.heaps (g.N.Notices.telling l.fn.out) (g.N.Notices.telling l.initial.out);
  gone_on : HasGoneOn l.counter (machine_with l.initial.heaps l.fn.self.running) (machine_with l.heaps l.self.running);
  told : TellsEvents (g.N.Notices.telling l.initial.out) (g.N.Notices.telling l.out) [];
  counted : l.steps ≡ l.fn.steps + l.counter;
  unmarked : l.self.marking ≡ false;
  keeps : Keeps l.initial.heaps l.fn.self.running l.heaps l.self.running;
}

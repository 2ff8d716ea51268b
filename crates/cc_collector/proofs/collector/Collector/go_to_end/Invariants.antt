use Rattle.std.proofs.Common.{◌≡◌, ℕ, []}
use Rattle.cc_model.specs.Telling.{TellsEvents}
use Rattle.cc_collector.specs.Kept.{machine_with}
use Rattle.cc_collector.specs.Units.{HasGoneOn, Keeps, units_left}
use Rattle.cc_collector.proofs.collector.Collector.go_to_end.Given as goal

abbrev pub invariant-units : goal.invariant-units
invariant-units g l = record {
  so_far : (k : ℕ) × HasGoneOn k (machine_with l.fn.heaps l.fn.self.running) (machine_with l.heaps l.self.running);
  told : TellsEvents (g.N.Notices.telling l.fn.out) (g.N.Notices.telling l.out) [];
  marking : l.self.marking ≡ l.fn.self.marking;
  keeps : Keeps l.fn.heaps l.fn.self.running l.heaps l.self.running;
}

abbrev pub decreases-units : goal.decreases-units
decreases-units g l = units_left l.heaps l.self.running

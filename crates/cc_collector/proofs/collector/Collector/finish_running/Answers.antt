use Rattle.std.proofs.Common.{sym, ◌∙◌}
use Rattle.cc_collector.proofs.Marking.{alone-running}
use Rattle.cc_collector.proofs.collector.Collector.finish_running.Goals as goal

pub go_to_end-requires : goal.go_to_end-requires
go_to_end-requires g c = alone-running c.args.heaps.now c.args.self.now c.requires (sym c.running.ensures ∙ c.if-running.true)

use Rattle.std.proofs.Common.{sym}
use Rattle.cc_replay.specs.Beside.{machine_beside}
use Rattle.cc_replay.proofs.Asks.{answered-bad}
use Rattle.cc_replay.proofs.answering.answer_text.Goals as goal

pub returns-in-None-clause-answered : goal.returns-in-None-clause-answered
returns-in-None-clause-answered g c = answered-bad c.args.dialect.now c.after.result (machine_beside c.args.heaps.now c.args.collector.now c.args.weak.now) c.args.text.now c.requires.short (sym c.in-None.ensures.command) c.tell.ensures (rw c.in-None.is at c.after.ensures)

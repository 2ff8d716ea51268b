use Rattle.cc_collector.specs.Kept.{machine_of}
use Rattle.cc_weakrefs.specs.Noting.{names_noted}
use Rattle.cc_replay.proofs.KeepingNoted.{noted-gc}
use Rattle.cc_replay.proofs.Replying.{answered-gc}
use Rattle.cc_replay.proofs.answering.answer_gc.Goals as goal

pub returns-clause-answered : goal.returns-clause-answered
returns-clause-answered g c = λ weak.
    let telling = g.N.Notices.telling in
    answered-gc (names_noted weak) (machine_of c.args.heaps.now c.args.collector.now) (machine_of c.gc.new.heaps c.gc.new.self) (telling c.args.out.now) (telling c.tell.new.self)
    (telling c.gc.new.out) c.gc.ensures.swept c.tell.ensures

pub returns-clause-noted : goal.returns-clause-noted
returns-clause-noted g c = noted-gc c.args.heaps.now c.gc.new.heaps c.gc.ensures.kept.keys c.args.collector.now c.gc.new.self c.requires.runs c.gc.ensures.tells c.gc.ensures.swept

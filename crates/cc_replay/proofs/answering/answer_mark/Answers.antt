use Rattle.cc_collector.specs.Kept.{machine_of}
use Rattle.cc_weakrefs.specs.Noting.{names_noted}
use Rattle.cc_replay.proofs.KeepingNoted.{noted-mark}
use Rattle.cc_replay.proofs.Replying.{answered-mark}
use Rattle.cc_replay.proofs.answering.answer_mark.Goals as goal

pub returns-clause-answered : goal.returns-clause-answered
returns-clause-answered g c = λ weak.
    let telling = g.N.Notices.telling in
    answered-mark (names_noted weak) (machine_of c.args.heaps.now c.args.collector.now) (machine_of c.mark.new.heaps c.mark.new.self) (telling c.args.out.now) (telling c.tell.new.self)
    c.args.units c.mark.result _ _ (telling c.mark.new.out) c.mark.ensures.marked c.tell.ensures

pub returns-clause-noted : goal.returns-clause-noted
returns-clause-noted g c = noted-mark c.args.heaps.now c.mark.new.heaps c.mark.ensures.kept.keys c.args.collector.now c.mark.new.self c.requires.runs c.mark.ensures.tells
    c.args.units c.mark.result _ _ c.mark.ensures.marked

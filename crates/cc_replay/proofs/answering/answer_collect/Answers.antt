use Rattle.std.proofs.Common.{refl}
use Rattle.cc_model.specs.declared.item.Refusal.TheVariants.{NoMemory}
use Rattle.cc_model.specs.declared.item.Reply.TheVariants.{Done, Refused}
use Rattle.cc_model.specs.End.{at_end, refused}
use Rattle.cc_collector.specs.Kept.{machine_of}
use Rattle.cc_weakrefs.specs.Noting.{names_noted}
use Rattle.cc_replay.proofs.KeepingNoted.{noted-collect}
use Rattle.cc_replay.proofs.Replying.{answered-collect}
use Rattle.cc_replay.proofs.answering.answer_collect.Goals as goal

pub returns-in-Ok-clause-answered : goal.returns-in-Ok-clause-answered
returns-in-Ok-clause-answered g c = λ weak.
    let telling = g.N.Notices.telling in
    answered-collect (names_noted weak) (machine_of c.args.heaps.now c.args.collector.now) (machine_of c.whole.new.heaps c.whole.new.self) (telling c.args.out.now) (telling c.tell.new.self)
    at_end Done (telling c.whole.new.out) c.in-Ok.ensures.done refl c.tell.ensures

pub returns-in-Err-clause-answered : goal.returns-in-Err-clause-answered
returns-in-Err-clause-answered g c = λ weak.
    let telling = g.N.Notices.telling in
    answered-collect (names_noted weak) (machine_of c.args.heaps.now c.args.collector.now) (machine_of c.whole.new.heaps c.whole.new.self) (telling c.args.out.now) (telling c.tell-in-Err.new.self)
    refused (Refused NoMemory) (telling c.whole.new.out) c.in-Err.ensures.refused refl c.tell-in-Err.ensures

pub returns-in-Ok-clause-noted : goal.returns-in-Ok-clause-noted
returns-in-Ok-clause-noted g c = noted-collect c.args.heaps.now c.whole.new.heaps c.whole.ensures.kept.keys c.args.collector.now c.whole.new.self c.requires.runs c.whole.ensures.tells
    at_end c.in-Ok.ensures.done

pub returns-in-Err-clause-noted : goal.returns-in-Err-clause-noted
returns-in-Err-clause-noted g c = noted-collect c.args.heaps.now c.whole.new.heaps c.whole.ensures.kept.keys c.args.collector.now c.whole.new.self c.requires.runs c.whole.ensures.tells
    refused c.in-Err.ensures.refused

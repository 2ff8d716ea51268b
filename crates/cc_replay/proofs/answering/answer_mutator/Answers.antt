use Rattle.cc_heaps.proofs.FewCounts.{none-owned}
use Rattle.cc_collector.proofs.GoingOn.{RunsIn-kept}
use Rattle.cc_replay.proofs.MarkingWell.{applied-well, held-running, listed-running}
use Rattle.cc_replay.proofs.Replying.{answered-applied}
use Rattle.cc_replay.proofs.answering.answer_mutator.Goals as goal

pub apply-reply-requires-clause-order : goal.apply-reply-requires-clause-order
apply-reply-requires-clause-order g c = none-owned c.args.heaps.now c.requires.runs.order

pub returns-clause-answered : goal.returns-clause-answered
returns-clause-answered g c =
    let a = c.apply-reply.ensures in
    let telling = g.N.Notices.telling in
    answered-applied c.args.command.now c.requires.applied c.args.heaps.now c.apply-reply.new.heaps c.args.collector.now c.args.weak.now c.apply-reply.new.weak
    (telling c.args.out.now) (telling c.apply-reply.new.out) (telling c.tell.new.self) c.apply-reply.result a.refused a.done a.memory
    (λ none granted. a.marking none granted (listed-running c.args.heaps.now c.args.collector.now c.requires.runs) (held-running c.args.heaps.now c.args.collector.now c.requires.runs))
    c.tell.ensures

-- what a command changes may come between units, and between steps of a marking
pub returns-clause-runs : goal.returns-clause-runs
returns-clause-runs g c =
    let a = c.apply-reply.ensures in
    let telling = g.N.Notices.telling in
    RunsIn-kept c.args.heaps.now c.apply-reply.new.heaps c.args.collector.now c.requires.runs a.kept
    (applied-well c.args.command.now c.args.heaps.now c.apply-reply.new.heaps c.args.weak.now c.apply-reply.new.weak (telling c.args.out.now) (telling c.apply-reply.new.out)
    c.apply-reply.result c.requires.applied c.requires.in_range c.requires.runs.order.sound a.kept a.refused a.done a.memory a.marking)

pub returns-clause-remembers : goal.returns-clause-remembers
returns-clause-remembers g c = c.apply-reply.ensures.kept.suspected

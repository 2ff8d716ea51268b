use Rattle.std.proofs.Common.{refl}
use Rattle.cc_replay.proofs.Causes.{over-answered, done-answered, reads-within, end-unread}
use Rattle.cc_replay.proofs.Endings.{whole-counts, whole-done, broken-stops, over-stops, first-stops}
use Rattle.cc_replay.proofs.Beginning.{runs-empty, machine-empty}
use Rattle.cc_replay.proofs.answering.answer_input.Goals as goal

-- nothing is there at the start, no collection runs, and no marking goes on
pub answer_all-requires-clause-runs : goal.answer_all-requires-clause-runs
answer_all-requires-clause-runs g c = runs-empty c.args.heaps.now c.new-collector.result c.requires.order c.requires.empty c.requires.idle c.new-collector.ensures

pub returns-clause-done : goal.returns-clause-done
returns-clause-done g c = λ status.
    whole-done _ _ _ _ _ c.requires.start refl (machine-empty c.args.heaps.now c.new-collector.result c.args.weak.now c.requires.empty c.requires.idle c.new-collector.ensures c.requires.unnoted) c.answer_all.ensures.limit c.answer_all.ensures.reads (c.answer_all.ensures.done status)
    (c.answer_all.ensures.whole (λ bad. cc))

pub returns-clause-counted : goal.returns-clause-counted
returns-clause-counted g c = λ status.
    whole-counts _ _ _ _ _ c.requires.start refl (machine-empty c.args.heaps.now c.new-collector.result c.args.weak.now c.requires.empty c.requires.idle c.new-collector.ensures c.requires.unnoted) c.answer_all.ensures.limit c.answer_all.ensures.reads (c.answer_all.ensures.done status)
    (c.answer_all.ensures.whole (λ bad. cc))

pub returns-clause-fault : goal.returns-clause-fault
returns-clause-fault g c = λ status.
    broken-stops _ _ _ _ _ c.requires.start refl (machine-empty c.args.heaps.now c.new-collector.result c.args.weak.now c.requires.empty c.requires.idle c.new-collector.ensures c.requires.unnoted) c.answer_all.ensures.limit c.answer_all.ensures.reads (c.answer_all.ensures.fault status)
    (c.answer_all.ensures.whole (λ bad. cc))

pub returns-clause-over : goal.returns-clause-over
returns-clause-over g c = λ status.
    over-stops _ _ _ _ _ c.requires.start refl (machine-empty c.args.heaps.now c.new-collector.result c.args.weak.now c.requires.empty c.requires.idle c.new-collector.ensures c.requires.unnoted) c.answer_all.ensures.limit c.answer_all.ensures.reads (c.answer_all.ensures.over status)
    (c.answer_all.ensures.whole (λ bad. cc))

pub returns-clause-front : goal.returns-clause-front
returns-clause-front g c = λ status.
    first-stops _ _ _ _ _ c.requires.start refl (machine-empty c.args.heaps.now c.new-collector.result c.args.weak.now c.requires.empty c.requires.idle c.new-collector.ensures c.requires.unnoted) c.answer_all.ensures.limit c.answer_all.ensures.reads (c.answer_all.ensures.first status)
    c.requires.whole (c.answer_all.ensures.broken status)

pub returns-clause-reads : goal.returns-clause-reads
returns-clause-reads g c = reads-within c.answer_all.result c.args.heaps.now.heap.limits _ (returns-clause-done g c) (returns-clause-fault g c) (returns-clause-over g c)
    (returns-clause-front g c) c.answer_all.ensures.others.0 c.answer_all.ensures.others.1 c.answer_all.ensures.others.2

pub returns-clause-end_unread : goal.returns-clause-end_unread
returns-clause-end_unread g c = end-unread c.answer_all.result c.args.heaps.now.heap.limits _ (returns-clause-fault g c) (returns-clause-over g c)
    c.answer_all.ensures.others.0 c.answer_all.ensures.others.1 c.answer_all.ensures.others.2

pub returns-clause-over_always : goal.returns-clause-over_always
returns-clause-over_always g c = λ bytes known above read_well written_well.
    over-answered c.answer_all.result c.args.heaps.now.heap.limits _ bytes _ _ c.answer_all.ensures.read c.answer_all.ensures.unwritten (returns-clause-done g c)
    c.answer_all.ensures.others.0 c.answer_all.ensures.others.1 c.answer_all.ensures.others.2 known above read_well written_well

pub returns-clause-done_always : goal.returns-clause-done_always
returns-clause-done_always g c = λ bytes known within read_well written_well.
    done-answered c.answer_all.result c.args.heaps.now.heap.limits _ bytes _ _ c.answer_all.ensures.read c.answer_all.ensures.unwritten (returns-clause-over g c)
    c.answer_all.ensures.others.0 c.answer_all.ensures.others.1 c.answer_all.ensures.others.2 known within read_well written_well

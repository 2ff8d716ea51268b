use Rattle.std.proofs.Common.{[], refl, ap}
use Rattle.cc_heaps.specs.Keyed.{Keyed}
use Rattle.cc_collector.proofs.GoingOn.{RunsIn-kept}
use Rattle.cc_replay.specs.Beside.{machine_beside}
use Rattle.cc_replay.proofs.KeepingNoted.{noted-forget}
use Rattle.cc_replay.proofs.MarkingWell.{forgotten-well, listed-running}
use Rattle.cc_replay.proofs.Replying.{answered-forget}
use Rattle.cc_replay.proofs.answering.answer_forget.Goals as goal

pub forget-requires : goal.forget-requires
forget-requires g c = record { order = ([], c.requires.runs.order) }

pub returns-clause-answered : goal.returns-clause-answered
returns-clause-answered g c = λ weak.
    let telling = g.N.Notices.telling in
    answered-forget (machine_beside c.args.heaps.now c.args.collector.now weak) (machine_beside c.forget.new.heaps c.args.collector.now weak) (telling c.args.out.now) (telling c.tell.new.self)
    (ap (λ (v : Keyed). v.heap) c.forget.ensures.forgotten) refl (c.forget.ensures.marks.by_names (listed-running c.args.heaps.now c.args.collector.now c.requires.runs)) refl c.tell.ensures

pub returns-clause-noted : goal.returns-clause-noted
returns-clause-noted g c = noted-forget c.args.heaps.now c.forget.new.heaps c.forget.ensures.kept.keys (ap (λ (v : Keyed). v.heap) c.forget.ensures.forgotten)

-- what loses its mark may do so between units, and between steps of a marking
pub returns-clause-runs : goal.returns-clause-runs
returns-clause-runs g c = RunsIn-kept c.args.heaps.now c.forget.new.heaps c.args.collector.now c.requires.runs c.forget.ensures.kept
    (forgotten-well c.args.heaps.now c.forget.new.heaps (ap (λ (v : Keyed). v.heap) c.forget.ensures.forgotten) c.forget.ensures.kept c.forget.ensures.marks)

pub returns-clause-remembers : goal.returns-clause-remembers
returns-clause-remembers g c = c.forget.ensures.kept.suspected

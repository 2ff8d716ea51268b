use Rattle.std.proofs.Common.{ap}
use Rattle.cc_model.specs.Mutating.{silence, version, class_of}
use Rattle.cc_model.proofs.Tellings.{Tells-nil}
use Rattle.cc_replay.specs.Beside.{machine_beside}
use Rattle.cc_replay.proofs.Beginning.{counts_few}
use Rattle.cc_replay.proofs.Replying.{others-applied, answered-said}
use Rattle.cc_replay.proofs.answering.answer_command.Goals as goal

pub returns-in-Nothing-clause-answered : goal.returns-in-Nothing-clause-answered
returns-in-Nothing-clause-answered g c =
    let telling = g.N.Notices.telling in
    answered-said (machine_beside c.args.heaps.now c.args.collector.now c.args.weak.now) c.args.command silence (telling c.args.out.now) (telling c.args.out.now) (ap class_of c.in-Nothing.is)
    (Tells-nil (telling c.args.out.now))

pub returns-in-Version2-clause-answered : goal.returns-in-Version2-clause-answered
returns-in-Version2-clause-answered g c =
    let telling = g.N.Notices.telling in
    answered-said (machine_beside c.args.heaps.now c.args.collector.now c.args.weak.now) c.args.command version (telling c.args.out.now) (telling c.tell.new.self) (ap class_of c.in-Version2.is)
    c.tell.ensures

pub answer_mutator-requires-clause-applied : goal.answer_mutator-requires-clause-applied
answer_mutator-requires-clause-applied g c = search (others-applied)

-- no count is greater than all references there can be
pub returns-in-Nothing-clause-counts : goal.returns-in-Nothing-clause-counts
returns-in-Nothing-clause-counts g c = counts_few c.args.heaps.now c.args.collector.now c.requires.runs

pub returns-in-Version2-clause-counts : goal.returns-in-Version2-clause-counts
returns-in-Version2-clause-counts g c = counts_few c.args.heaps.now c.args.collector.now c.requires.runs

pub returns-in-Forget-clause-counts : goal.returns-in-Forget-clause-counts
returns-in-Forget-clause-counts g c = counts_few c.answer_forget.new.heaps c.args.collector.now c.answer_forget.ensures.runs

pub returns-in-Why-clause-counts : goal.returns-in-Why-clause-counts
returns-in-Why-clause-counts g c = counts_few c.args.heaps.now c.args.collector.now c.requires.runs

pub returns-in-Census-clause-counts : goal.returns-in-Census-clause-counts
returns-in-Census-clause-counts g c = counts_few c.args.heaps.now c.args.collector.now c.requires.runs

pub returns-in-Slice-clause-counts : goal.returns-in-Slice-clause-counts
returns-in-Slice-clause-counts g c = counts_few c.answer_slice.new.heaps c.answer_slice.new.collector c.answer_slice.ensures.runs

pub returns-in-Collect-clause-counts : goal.returns-in-Collect-clause-counts
returns-in-Collect-clause-counts g c = counts_few c.answer_collect.new.heaps c.answer_collect.new.collector c.answer_collect.ensures.runs

pub returns-in-Gc-clause-counts : goal.returns-in-Gc-clause-counts
returns-in-Gc-clause-counts g c = counts_few c.answer_gc.new.heaps c.answer_gc.new.collector c.answer_gc.ensures.runs

pub returns-in-Mark-clause-counts : goal.returns-in-Mark-clause-counts
returns-in-Mark-clause-counts g c = counts_few c.answer_mark.new.heaps c.answer_mark.new.collector c.answer_mark.ensures.runs

pub returns-in_default : goal.returns-in_default
returns-in_default g c = search (counts_few)

-- weak registers go on holding keys
pub returns-in-Slice-clause-keys : goal.returns-in-Slice-clause-keys
returns-in-Slice-clause-keys g c = c.answer_slice.ensures.noted c.args.weak.now c.requires.keys

pub returns-in-Collect-clause-keys : goal.returns-in-Collect-clause-keys
returns-in-Collect-clause-keys g c = c.answer_collect.ensures.noted c.args.weak.now c.requires.keys

pub returns-in-Gc-clause-keys : goal.returns-in-Gc-clause-keys
returns-in-Gc-clause-keys g c = c.answer_gc.ensures.noted c.args.weak.now c.requires.keys

pub returns-in-Mark-clause-keys : goal.returns-in-Mark-clause-keys
returns-in-Mark-clause-keys g c = c.answer_mark.ensures.noted c.args.weak.now c.requires.keys

pub returns-in-Forget-clause-keys : goal.returns-in-Forget-clause-keys
returns-in-Forget-clause-keys g c = c.answer_forget.ensures.noted c.args.weak.now c.requires.keys

-- what is answered whatever weak registers note is answered with these
pub returns-in-Why-clause-answered : goal.returns-in-Why-clause-answered
returns-in-Why-clause-answered g c = rw c.in-Why.is (c.answer_why.ensures c.args.collector.now c.args.weak.now)

pub returns-in-Census-clause-answered : goal.returns-in-Census-clause-answered
returns-in-Census-clause-answered g c = rw c.in-Census.is (c.answer_census.ensures c.args.collector.now c.args.weak.now)

pub returns-in-Slice-clause-answered : goal.returns-in-Slice-clause-answered
returns-in-Slice-clause-answered g c = rw c.in-Slice.is (c.answer_slice.ensures.answered c.args.weak.now)

pub returns-in-Collect-clause-answered : goal.returns-in-Collect-clause-answered
returns-in-Collect-clause-answered g c = rw c.in-Collect.is (c.answer_collect.ensures.answered c.args.weak.now)

pub returns-in-Gc-clause-answered : goal.returns-in-Gc-clause-answered
returns-in-Gc-clause-answered g c = rw c.in-Gc.is (c.answer_gc.ensures.answered c.args.weak.now)

pub returns-in-Mark-clause-answered : goal.returns-in-Mark-clause-answered
returns-in-Mark-clause-answered g c = rw c.in-Mark.is (c.answer_mark.ensures.answered c.args.weak.now)

pub returns-in-Forget-clause-answered : goal.returns-in-Forget-clause-answered
returns-in-Forget-clause-answered g c = rw c.in-Forget.is (c.answer_forget.ensures.answered c.args.weak.now)

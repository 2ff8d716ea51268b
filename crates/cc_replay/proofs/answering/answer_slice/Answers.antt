use Rattle.std.proofs.Common.{◌≡◌, Ok, refl, arith}
use Rattle.cc_model.specs.declared.item.Refusal.TheVariants.{NoMemory}
use Rattle.cc_model.specs.declared.item.Reply.TheVariants.{Done, Refused}
use Rattle.cc_model.specs.End.{refused}
use Rattle.cc_model.specs.Collecting.{reply_to_units}
use Rattle.cc_collector.specs.declared.collector.Ended.{Ended}
use Rattle.cc_collector.specs.Kept.{machine_of}
use Rattle.cc_collector.specs.Collected.{progress_of}
use Rattle.cc_weakrefs.specs.Noting.{names_noted}
use Rattle.cc_replay.proofs.KeepingNoted.{noted-slice}
use Rattle.cc_replay.proofs.Replying.{answered-slice}
use Rattle.cc_replay.proofs.answering.answer_slice.Goals as goal

-- a slice that is not refused is done
done-either : (e : Ended) → reply_to_units (progress_of (Ok e)) ≡ Done
done-either e = grind arith

pub returns-in-Ok-clause-answered : goal.returns-in-Ok-clause-answered
returns-in-Ok-clause-answered g c = λ weak.
    let telling = g.N.Notices.telling in
    answered-slice (names_noted weak) (machine_of c.args.heaps.now c.args.collector.now) (machine_of c.slice.new.heaps c.slice.new.self) (telling c.args.out.now) (telling c.tell.new.self)
    c.args.units (progress_of (Ok c.in-Ok.field-0)) _ _ Done (telling c.slice.new.out) c.in-Ok.ensures.sliced (done-either c.in-Ok.field-0) c.tell.ensures

pub returns-clause-answered : goal.returns-clause-answered
returns-clause-answered g c = λ weak.
    let telling = g.N.Notices.telling in
    answered-slice (names_noted weak) (machine_of c.args.heaps.now c.args.collector.now) (machine_of c.slice.new.heaps c.slice.new.self) (telling c.args.out.now) (telling c.tell-in-Err.new.self)
    c.args.units refused _ _ (Refused NoMemory) (telling c.slice.new.out) c.in-Err.ensures.sliced refl c.tell-in-Err.ensures

pub returns-in-Ok-clause-noted : goal.returns-in-Ok-clause-noted
returns-in-Ok-clause-noted g c = noted-slice c.args.heaps.now c.slice.new.heaps c.slice.ensures.kept.keys c.args.collector.now c.slice.new.self c.requires.runs c.slice.ensures.tells
    c.args.units (progress_of (Ok c.in-Ok.field-0)) _ _ c.in-Ok.ensures.sliced

pub returns-clause-noted : goal.returns-clause-noted
returns-clause-noted g c = noted-slice c.args.heaps.now c.slice.new.heaps c.slice.ensures.kept.keys c.args.collector.now c.slice.new.self c.requires.runs c.slice.ensures.tells
    c.args.units refused _ _ c.in-Err.ensures.sliced

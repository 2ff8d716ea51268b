use Rattle.std.proofs.Common.{arith}
use Rattle.cc_heaps.proofs.Remarked.{remarked-then}
use Rattle.cc_heaps.proofs.RaisedEach.{delegate-there, held-begun, held-done, held-live, held-next, held-within, slot-there}
use Rattle.cc_heaps.proofs.heaps.new_marks.raise_held.Goals as goal

pub loop-i-init : goal.loop-i-init
loop-i-init c = held-begun c.args.to c.args.scripts.now c.args.key.0 c.args.to_scan.now c.requires.going_on

pub slot-content-requires-clause-live : goal.slot-content-requires-clause-live
slot-content-requires-clause-live c =
    held-live c.args.to c.args.scripts.now c.args.key.0 c.requires.there c.requires.whole c.args.to_scan.now c.loop-i.i c.loop-i.scripts c.loop-i.to_scan c.loop-i.invariant

pub slot-content-requires-clause-within : goal.slot-content-requires-clause-within
slot-content-requires-clause-within c =
    held-within c.args.to c.args.scripts.now c.args.key.0 c.requires.there c.requires.whole c.args.to_scan.now c.loop-i.i c.loop-i.scripts c.loop-i.to_scan c.loop-i.invariant
    c.slots-i-end.result c.slots-i-end.ensures (omega arith)

pub raise_content-requires-clause-there : goal.raise_content-requires-clause-there
raise_content-requires-clause-there c =
    slot-there c.args.to c.args.scripts.now c.args.key.0 c.requires.there c.requires.whole c.args.to_scan.now c.loop-i.i c.loop-i.scripts c.loop-i.to_scan c.loop-i.invariant
    c.slot-content.result c.slot-content.ensures

pub loop-i-preserved : goal.loop-i-preserved
loop-i-preserved c =
    held-next c.args.to c.args.scripts.now c.args.key.0 c.requires.there c.requires.whole c.args.to_scan.now c.loop-i.i c.loop-i.scripts c.loop-i.to_scan c.loop-i.invariant
    c.slot-content.result c.raise_content.new.scripts c.raise_content.new.to_scan c.raise_content.ensures.marks c.raise_content.ensures.same c.raise_content.ensures.going_on
    (omega (arith, c.slots-i-end.ensures)) c.slot-content.ensures

pub delegate-delegate-requires : goal.delegate-delegate-requires
delegate-delegate-requires c = record {
  live = held-live c.args.to c.args.scripts.now c.args.key.0 c.requires.there c.requires.whole c.args.to_scan.now c.loop-i.i c.loop-i.scripts c.loop-i.to_scan c.loop-i.invariant;
}

pub raise_content-requires-2-clause-there : goal.raise_content-requires-2-clause-there
raise_content-requires-2-clause-there c =
    delegate-there c.args.to c.args.scripts.now c.args.key.0 c.requires.there c.requires.whole c.args.to_scan.now c.loop-i.i c.loop-i.scripts c.loop-i.to_scan c.loop-i.invariant
    c.delegate-delegate.result c.delegate-delegate.ensures.delegate

pub returns-clause-marks : goal.returns-clause-marks
returns-clause-marks c =
    held-done c.args.to c.args.scripts.now c.args.key.0 c.requires.there c.requires.whole c.args.to_scan.now c.loop-i.i c.loop-i.scripts c.loop-i.to_scan c.loop-i.invariant
    c.delegate-delegate.result c.raise_content-2.new.scripts c.raise_content-2.new.to_scan c.raise_content-2.ensures.marks c.raise_content-2.ensures.same c.raise_content-2.ensures.going_on
    (omega (arith, c.slots-i-end.ensures)) c.delegate-delegate.ensures.delegate

pub returns-clause-same : goal.returns-clause-same
returns-clause-same c = remarked-then c.args.scripts.now c.loop-i.scripts c.raise_content-2.new.scripts c.loop-i.invariant.same c.raise_content-2.ensures.same

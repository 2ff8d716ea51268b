use Rattle.std.proofs.Common.{sym, ◌∙◌}
use Rattle.cc_heaps.proofs.Remarked.{remarked-same}
use Rattle.cc_heaps.proofs.Raised.{kept-marks, raised-going_on, raised-marks, raised-same, room-for}
use Rattle.cc_heaps.proofs.heaps.new_marks.raise.Goals as goal

pub push-requires : goal.push-requires
push-requires c = record {
  room = room-for c.args.scripts.now c.args.to_scan.now c.args.key.0 c.new_mark.result c.args.to c.requires.going_on c.new_mark.ensures c.requires.marked
      (sym c.is_lower.ensures ∙ c.if-is_lower.true);
}

pub returns-then-is_lower-clause-marks : goal.returns-then-is_lower-clause-marks
returns-then-is_lower-clause-marks c =
    raised-marks c.args.scripts.now c.args.to_scan.now c.args.key.0 c.new_mark.result c.args.to c.requires.going_on c.new_mark.ensures c.requires.marked
    (sym c.is_lower.ensures ∙ c.if-is_lower.true) c.set_new_mark.new.self c.push.new.self c.set_new_mark.ensures c.push.ensures.marking c.push.ensures.room

pub returns-then-is_lower-clause-same : goal.returns-then-is_lower-clause-same
returns-then-is_lower-clause-same c =
    raised-same c.args.scripts.now c.args.to_scan.now c.args.key.0 c.new_mark.result c.args.to c.requires.going_on c.new_mark.ensures c.requires.marked
    (sym c.is_lower.ensures ∙ c.if-is_lower.true) c.set_new_mark.new.self c.push.new.self c.set_new_mark.ensures c.push.ensures.marking c.push.ensures.room

pub returns-then-is_lower-clause-going_on : goal.returns-then-is_lower-clause-going_on
returns-then-is_lower-clause-going_on c =
    raised-going_on c.args.scripts.now c.args.to_scan.now c.args.key.0 c.new_mark.result c.args.to c.requires.going_on c.new_mark.ensures c.requires.marked
    (sym c.is_lower.ensures ∙ c.if-is_lower.true) c.set_new_mark.new.self c.push.new.self c.set_new_mark.ensures c.push.ensures.marking c.push.ensures.room

pub returns-else-is_lower-clause-marks : goal.returns-else-is_lower-clause-marks
returns-else-is_lower-clause-marks c =
    kept-marks c.args.scripts.now c.args.to_scan.now c.args.key.0 c.new_mark.result c.args.to c.requires.going_on c.new_mark.ensures c.requires.marked
    (sym c.is_lower.ensures ∙ c.if-is_lower.false)

pub returns-else-is_lower-clause-same : goal.returns-else-is_lower-clause-same
returns-else-is_lower-clause-same c = remarked-same c.args.scripts.now

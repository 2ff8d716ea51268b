use Rattle.cc_heaps.proofs.ScannedOne.{IsPassing, grays_left}
use Rattle.cc_heaps.proofs.heaps.new_marks.next_gray.Given as goal

abbrev pub invariant-loop-key : goal.invariant-loop-key
invariant-loop-key l = IsPassing l.scripts l.initial.to_scan l.to_scan

abbrev pub decreases-loop-key : goal.decreases-loop-key
decreases-loop-key l = grays_left l.to_scan

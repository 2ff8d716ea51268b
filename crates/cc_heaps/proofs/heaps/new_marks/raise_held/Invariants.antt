use Rattle.cc_heaps.proofs.RaisedEach.{IsRaisingHeld}
use Rattle.cc_heaps.proofs.heaps.new_marks.raise_held.Given as goal

abbrev pub invariant-loop-i : goal.invariant-loop-i
invariant-loop-i l = IsRaisingHeld l.to l.initial.scripts l.key.0 l.initial.to_scan l.i l.scripts l.to_scan

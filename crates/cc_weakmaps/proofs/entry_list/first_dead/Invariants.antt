use Rattle.cc_weakmaps.specs.Living.{StayBefore}
use Rattle.cc_weakmaps.proofs.entry_list.first_dead.Given as goal

abbrev pub invariant-loop-place : goal.invariant-loop-place
invariant-loop-place g l = record { stay : StayBefore (goal.F-post g l.alive) l.entries l.place }

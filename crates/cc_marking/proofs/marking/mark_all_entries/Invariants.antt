use Rattle.cc_marking.proofs.Turns.{IsLookingOver}
use Rattle.cc_marking.proofs.marking.mark_all_entries.Given as goal

abbrev pub invariant-loop-i : goal.invariant-loop-i
invariant-loop-i g l = IsLookingOver l.to l.weak l.initial.marking l.initial.steps l.marking l.steps l.i

use Rattle.cc_counted.proofs.Each.{GivesUpRest}
use Rattle.cc_counted.proofs.natives.Natives.give_up_each.Given as goal

abbrev pub invariant-loop-slot : goal.invariant-loop-slot
invariant-loop-slot l = GivesUpRest l.initial.self.lists l.self.lists l.slots l.slot-index

use Rattle.std.proofs.Common.{length}
use Rattle.cc_heaps.proofs.HolderWalk.{IsLooking, numbers_left}
use Rattle.cc_heaps.proofs.heaps.Heaps.next_holder.Given as goal

abbrev pub invariant-loop-next : goal.invariant-loop-next
invariant-loop-next l = IsLooking l.self-inside l.fn.after l.next

abbrev pub decreases-loop-next : goal.decreases-loop-next
decreases-loop-next l = length (numbers_left l.self-inside l.next)

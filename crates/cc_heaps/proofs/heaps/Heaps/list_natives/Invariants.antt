use Rattle.std.proofs.Common.{◌-◌, length}
use Rattle.cc_heaps.proofs.Listing.{NativesListed}
use Rattle.cc_heaps.proofs.heaps.Heaps.list_natives.Given as goal

abbrev pub invariant-loop-at : goal.invariant-loop-at
invariant-loop-at g l = NativesListed l.self-inside.counted l.at l.count (g.N.Notices.telling l.initial.out) (g.N.Notices.telling l.out)

abbrev pub decreases-loop-at : goal.decreases-loop-at
decreases-loop-at g l = length l.self-inside.counted.natives - l.count

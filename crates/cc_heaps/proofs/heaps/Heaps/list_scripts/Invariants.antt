use Rattle.std.proofs.Common.{◌-◌, length}
use Rattle.cc_heaps.proofs.Listing.{ObjectsListed}
use Rattle.cc_heaps.proofs.heaps.Heaps.list_scripts.Given as goal

abbrev pub invariant-loop-at : goal.invariant-loop-at
invariant-loop-at g l = ObjectsListed l.self-inside.scripts l.at l.count (g.N.Notices.telling l.initial.out) (g.N.Notices.telling l.out)

abbrev pub decreases-loop-at : goal.decreases-loop-at
decreases-loop-at g l = length l.self-inside.scripts - l.count

use Rattle.std.proofs.Common.{◌≡◌, ◌≤◌, length}
use Rattle.cc_weakmaps.specs.Index.{place_below}
use Rattle.cc_weakmaps.proofs.entry_list.last_below.Given as goal

abbrev pub invariant-loop-place : goal.invariant-loop-place
invariant-loop-place l = record { within : l.place ≤ length l.entries; same : place_below l.entries l.object.0 l.place ≡ place_below l.entries l.object.0 l.end }

abbrev pub decreases-loop-place : goal.decreases-loop-place
decreases-loop-place l = l.place

use Rattle.std.proofs.Common.{◌≡◌, drop}
use Rattle.cc_counted.specs.Counts.{references_of}
use Rattle.cc_heaps.specs.Roots.{keys_in}
use Rattle.cc_heaps.proofs.heaps.roots.reference_from.Given as goal

abbrev pub invariant-loop-i : goal.invariant-loop-i
invariant-loop-i l = keys_in (drop l.fn.next (references_of l.counted l.native.0)) ≡ keys_in (drop l.i (references_of l.counted l.native.0))

use Rattle.std.proofs.Common.{◌≡◌, ℕ, ◌<◌, false, None, slice_index_or}
use Rattle.cc_counted.specs.Counts.{references_of}
use Rattle.cc_heaps.specs.GrayHeld.{is_gray_held}
use Rattle.cc_heaps.proofs.heaps.Heaps.holds_gray.Given as goal

abbrev pub invariant-loop-i : goal.invariant-loop-i
invariant-loop-i l = (k : ℕ) → k < l.i → is_gray_held l.self-inside.scripts (slice_index_or (references_of l.self-inside.counted l.key.0) k None) ≡ false

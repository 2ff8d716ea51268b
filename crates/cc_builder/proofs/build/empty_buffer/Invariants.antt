use Rattle.std.proofs.Common.{◌≡◌, [], length}
use Rattle.cc_heaps.specs.Keyed.{IsInOrder, changed_to}
use Rattle.cc_builder.proofs.build.empty_buffer.Given as goal

abbrev pub invariant-buffer : goal.invariant-buffer
invariant-buffer l = record {
  heap : l.heaps ≡ changed_to l.fn.heaps (record l.fn.heaps.heap { buffer = l.heaps.heap.buffer });
  order : IsInOrder [] l.heaps;
}

abbrev pub decreases-buffer : goal.decreases-buffer
decreases-buffer l = length l.heaps.heap.buffer

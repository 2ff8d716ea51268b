use Rattle.std.proofs.Common.{◌≡◌, ◌+◌, ◌≤◌, length, drop, flat_map}
use Rattle.cc_heaps.specs.Places.{places_at}
use Rattle.cc_builder.specs.BuildSteps.{contents_at, noted_content}
use Rattle.cc_builder.proofs.build.traversing.references_of.Given as goal

abbrev pub invariant-loop-i : goal.invariant-loop-i
invariant-loop-i l = record {
  left : l.references + length (flat_map (noted_content l.heaps.heap) (drop l.i (places_at l.heaps l.object))) ≡ length (contents_at l.heaps l.object);
  few : l.references ≤ l.i;
}

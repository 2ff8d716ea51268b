use Rattle.std.proofs.Common.{◌≡◌, []}
use Rattle.cc_model.specs.End.{give_back}
use Rattle.cc_heaps.specs.Keyed.{IsInOrder, changed_to}
use Rattle.cc_builder.specs.Building.{IsBuilt}
use Rattle.cc_graph.specs.Held.{AreHeld}
use Rattle.cc_heaps.specs.HasKey.{HasKey}
use Rattle.cc_builder.proofs.GivingBack.{left_to_give}
use Rattle.cc_builder.proofs.build.Build.abandon.Given as goal

abbrev pub invariant-loop-i : goal.invariant-loop-i
invariant-loop-i l = record {
  left : changed_to l.heaps (give_back (left_to_give l.fn.self l.i) l.heaps.heap) ≡ changed_to l.fn.heaps (give_back (left_to_give l.fn.self 0) l.fn.heaps.heap);
  built : IsBuilt l.fn.self l.heaps;
  held : AreHeld l.fn.self.graph (HasKey l.heaps);
  order : IsInOrder [] l.heaps;
}

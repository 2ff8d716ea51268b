-- THE END OF A COLLECTION, in one word.
use Rattle.std.specs.Prelude.{◌≡◌, []}
use Rattle.cc_model.specs.Telling.{Telling, TellsEvents}
use Rattle.cc_model.specs.View.{view}
use Rattle.cc_model.specs.Snapshot.{Snapshot}
use Rattle.cc_model.specs.Suspected.{IsSuspected}
use Rattle.cc_model.specs.End.{take_away}
use Rattle.cc_laws_heap.specs.Apart.{AreApart}
use Rattle.cc_graph.specs.Shown.{Shown}
use Rattle.cc_heaps.specs.Keyed.{Keyed, left_with}
use Rattle.cc_heaps.specs.Keeping.{KeepsHeaps}
use Rattle.cc_heaps.specs.Standing.{StillStands}
use Rattle.cc_unlink.specs.Whites.{AreWhiteIn, KeepsReached, whites_of}

-- THE WHITE NATIVES OF A GRAPH ARE TAKEN AWAY, and what goes is told
pub record EndsWhites (g : Shown) (old new : Keyed) (before after : Telling) : Type 0 where
  pub heap : new ≡ left_with old (take_away (whites_of g old.heap) old.heap).heap
  pub told : TellsEvents before after (take_away (whites_of g old.heap) old.heap).events
  pub kept : KeepsHeaps [] [] old new
  pub stands : AreApart old.heap (whites_of g old.heap) → StillStands old.heap new.heap
  pub reached : AreApart old.heap (whites_of g old.heap) → KeepsReached old.heap new.heap
  pub objects : new.heap.scripts ≡ old.heap.scripts
  pub suspected : (s : Snapshot) → AreWhiteIn g old.heap s → IsSuspected (view old.heap) s.candidates → IsSuspected (view new.heap) []

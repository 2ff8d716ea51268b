-- A COLLECTION THAT HAS BEGUN, and one that is given up.
use Rattle.std.specs.Prelude.{◌≡◌, []}
use Rattle.cc_model.specs.Units.{begun, with_empty_buffer}
use Rattle.cc_model.specs.View.{view}
use Rattle.cc_model.specs.Colours.{HasColourInvariant}
use Rattle.cc_model.specs.Suspected.{IsSuspected}
use Rattle.cc_laws_snapshot.specs.Kinds.{IsFreshIn}
use Rattle.cc_graph.specs.Held.{AreHeld}
use Rattle.cc_heaps.specs.HasKey.{HasKey}
use Rattle.cc_heaps.specs.Keyed.{Keyed, IsInOrder, changed_to}
use Rattle.cc_heaps.specs.Changes.{KeepsKeys}
use Rattle.cc_heaps.specs.Few.{AreFew}
use Rattle.cc_heaps.specs.Standing.{StillStands, KeepsColours}
use Rattle.cc_builder.specs.Building.{Built, IsBuilt, snapshot_of}

-- the build has the snapshot that the definitions begin, which is fresh, and whose candidates are the suspects; and the
-- buffer is empty
pub record HasBegun (old new : Keyed) (b : Built) : Type 0 where
  pub snapshot : snapshot_of b ≡ begun old.heap
  pub built : IsBuilt b new
  pub held : AreHeld b.graph (HasKey new)
  pub heap : new ≡ changed_to old (with_empty_buffer old.heap)
  pub fresh : HasColourInvariant (view old.heap) → IsFreshIn new.heap (snapshot_of b)
  pub suspected : IsSuspected (view old.heap) [] → IsSuspected (view new.heap) (snapshot_of b).candidates

-- a change that no graph sees, and that leaves the colours and keys; the heaps are in order after it
pub record IsUnseen (old new : Keyed) : Type 0 where
  pub order : IsInOrder [] new
  pub stands : StillStands old.heap new.heap
  pub colours : KeepsColours old.heap new.heap
  pub keys : KeepsKeys old new
  pub counts : AreFew new.heap

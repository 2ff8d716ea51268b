use Rattle.std.proofs.Common.{◌≡◌, ℕ, length, Option}
use Rattle.cc_lists.specs.Members.{with_all_last}
use Rattle.cc_names.specs.Names.{same_name}
use Rattle.cc_model.specs.Units.{holders_of}
use Rattle.cc_heaps.specs.Changes.{IsNativeThere}
use Rattle.cc_heaps.specs.Holders.{holder_numbers, holder_after}
use Rattle.cc_builder.specs.Building.{IsBuilt, vertex_names}
use Rattle.cc_graph.specs.Held.{AreHeld}
use Rattle.cc_heaps.specs.HasKey.{HasKey}
use Rattle.cc_builder.proofs.BuildWalks.{stands}
use Rattle.cc_builder.proofs.HolderWalks.{holders_from}
use Rattle.cc_lists.specs.Walks.{left_from}
use Rattle.cc_builder.proofs.build.Build.add_holders.Given as goal

abbrev pub invariant-holders : goal.invariant-holders
invariant-holders l = record {
  names : with_all_last same_name (vertex_names l.self.graph.nodes) (holders_from l.heaps l.holder)
      ≡ with_all_last same_name (vertex_names l.fn.self.graph.nodes) (holders_of l.heaps.heap);
  there : IsNativeThere l.heaps l.holder;
  found : (after : Option ℕ) × (stands l.heaps l.holder ≡ holder_after l.heaps.heap after);
  edges : l.self.graph.edges ≡ l.fn.self.graph.edges;
  hyperedges : l.self.graph.hyperedges ≡ l.fn.self.graph.hyperedges;
  next : l.self.next ≡ l.fn.self.next;
  candidates : l.self.candidates ≡ l.fn.self.candidates;
  spare : l.self.graph.spare ≡ l.fn.self.graph.spare;
  built : IsBuilt l.self l.heaps;
  held : AreHeld l.self.graph (HasKey l.heaps);
}

abbrev pub decreases-holders : goal.decreases-holders
decreases-holders l = length (left_from (holder_numbers l.heaps.heap) (stands l.heaps l.holder))

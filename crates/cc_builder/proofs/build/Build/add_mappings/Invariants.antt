use Rattle.std.proofs.Common.{◌≡◌, ◌++◌, IfSome, flat_map, map}
use Rattle.cc_lists.specs.Members.{with_all_last}
use Rattle.cc_names.specs.Names.{same_name}
use Rattle.cc_model.specs.Units.{mappings_of, members_of}
use Rattle.cc_graph.specs.Held.{AreHeld}
use Rattle.cc_heaps.specs.HasKey.{HasKey}
use Rattle.cc_builder.specs.Building.{IsBuilt, mapping_of, vertex_names}
use Rattle.cc_builder.specs.BuildSteps.{IsMapNode}
use Rattle.cc_builder.proofs.EntryMappings.{mappings_from}
use Rattle.cc_builder.proofs.build.Build.add_mappings.Given as goal

abbrev pub invariant-loop-i : goal.invariant-loop-i
invariant-loop-i l = record {
  names : with_all_last same_name (vertex_names l.self.graph.nodes) (flat_map members_of (mappings_from l.heaps l.i))
      ≡ with_all_last same_name (vertex_names l.fn.self.graph.nodes) (flat_map members_of (mappings_of l.heaps.heap));
  mappings : map (mapping_of l.self.graph.nodes) l.self.graph.hyperedges ++ mappings_from l.heaps l.i
      ≡ map (mapping_of l.fn.self.graph.nodes) l.fn.self.graph.hyperedges ++ mappings_of l.heaps.heap;
  edges : l.self.graph.edges ≡ l.fn.self.graph.edges;
  next : l.self.next ≡ l.fn.self.next;
  candidates : l.self.candidates ≡ l.fn.self.candidates;
  spare : l.self.graph.spare ≡ l.fn.self.graph.spare;
  built : IsBuilt l.self l.heaps;
  held : AreHeld l.self.graph (HasKey l.heaps);
  last : IfSome l.last (λ m. IsMapNode l.heaps l.self.graph.nodes m.the_map.0 m.node);
}

use Rattle.std.proofs.Common.{◌≡◌, ◌<◌, ◌≤◌, length, drop, flat_map}
use Rattle.cc_builder.specs.Building.{IsBuilt, vertex_name, snapshot_of}
use Rattle.cc_graph.specs.Held.{AreHeld}
use Rattle.cc_heaps.specs.HasKey.{HasKey}
use Rattle.cc_heaps.specs.Places.{places_at}
use Rattle.cc_builder.specs.BuildSteps.{contents_at, noted_content, noting}
use Rattle.cc_builder.proofs.build.Build.note_places.Given as goal

abbrev pub invariant-loop-i : goal.invariant-loop-i
invariant-loop-i l =
    let x = vertex_name l.fn.self.graph.nodes l.node in
    let rest = flat_map (noted_content l.heaps.heap) (drop l.i (places_at l.heaps l.object)) in
    record {
      left : noting (snapshot_of l.self) x rest ≡ noting (snapshot_of l.fn.self) x (contents_at l.heaps l.object);
      named : vertex_name l.self.graph.nodes l.node ≡ x;
      within : l.node < length l.self.graph.nodes;
      room : length rest ≤ l.self.graph.spare;
      next : l.self.next ≡ l.fn.self.next;
      built : IsBuilt l.self l.heaps;
      held : AreHeld l.self.graph (HasKey l.heaps);
    }

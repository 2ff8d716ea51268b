use Rattle.std.proofs.Common.{◌≡◌, true, [], length, IsSome, IfSome, option_and_then}
use Rattle.cc_lists.specs.Members.{with_all_last}
use Rattle.cc_names.specs.declared.number.NKey.{NKey}
use Rattle.cc_names.specs.Names.{same_name}
use Rattle.cc_counted.specs.Suspects.{is_in_buffer}
use Rattle.cc_heaps.specs.Keyed.{number_at, the_number}
use Rattle.cc_builder.specs.Building.{IsBuilt, vertex_names}
use Rattle.cc_graph.specs.Held.{AreHeld}
use Rattle.cc_heaps.specs.HasKey.{HasKey}
use Rattle.cc_builder.proofs.BufferWalks.{buffer_from, purple_names}
use Rattle.cc_builder.proofs.build.Build.of_purple.Given as goal

abbrev pub invariant-buffer : goal.invariant-buffer
invariant-buffer l =
    let buffer = l.heaps.heap.buffer in
    record {
      names : with_all_last same_name (vertex_names l.build.graph.nodes) (purple_names (buffer_from buffer (option_and_then (λ (k : NKey). number_at l.heaps k.0) l.suspect)))
          ≡ with_all_last same_name [] (purple_names buffer);
      live : IfSome l.suspect (λ (k : NKey). IsSome (number_at l.heaps k.0));
      there : IfSome l.suspect (λ (k : NKey). is_in_buffer buffer (the_number l.heaps k.0) ≡ true);
      edges : l.build.graph.edges ≡ [];
      hyperedges : l.build.graph.hyperedges ≡ [];
      next : l.build.next ≡ 0;
      spare : l.build.graph.spare ≡ l.fn.graph.spare;
      built : IsBuilt l.build l.heaps;
      held : AreHeld l.build.graph (HasKey l.heaps);
    }

abbrev pub decreases-buffer : goal.decreases-buffer
decreases-buffer l = length (buffer_from l.heaps.heap.buffer (option_and_then (λ (k : NKey). number_at l.heaps k.0) l.suspect))

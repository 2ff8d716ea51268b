use Rattle.std.proofs.Common.{◌≡◌, [], ◌++◌, map, sym, ◌∙◌, ap}
use Rattle.std.proofs.lemmas.List.{length-map}
use Rattle.cc_lists.proofs.KnownBytes.{on_err_of}
use Rattle.cc_graph.specs.Shown.{Vertex}
use Rattle.cc_model.specs.Units.{begun, mappings_of}
use Rattle.cc_builder.specs.Building.{mapping_of, vertex_names, snapshot_of}
use Rattle.cc_builder.proofs.Begun.{snapshot-begun, holders-some_are, mappings-some_are}
use Rattle.cc_builder.proofs.Promises.{same-unseen, with_buffer-unseen, begun-fresh_in, begun-suspected}
use Rattle.cc_builder.proofs.GivingBack.{AreSame-buffer, AreHeld-same, IsBuilt-same}
use Rattle.cc_builder.proofs.build.Build.begin_in.Goals as goal

pub returns-in_err-add_holders-clause-refused : goal.returns-in_err-add_holders-clause-refused
returns-in_err-add_holders-clause-refused c =
    on_err_of c.from_residual-in_err-add_holders.result (holders-some_are c.args.heaps.now.heap c.in_err-add_holders.ensures.refused)

pub returns-in_err-add_mappings-clause-refused : goal.returns-in_err-add_mappings-clause-refused
returns-in_err-add_mappings-clause-refused c =
    on_err_of c.from_residual-in_err-add_mappings.result (mappings-some_are c.args.heaps.now.heap c.in_err-add_mappings.ensures.refused)

-- the snapshot is the one that the definitions begin
the_snapshot : (c : goal.After-empty_buffer) → snapshot_of c.add_mappings.new.self ≡ begun c.args.heaps.now.heap
the_snapshot c =
    let purple = c.in_ok-build.ensures in
    let holders = c.add_holders.ensures in
    let mappings = c.add_mappings.ensures in
    let vs = c.in_ok-build.build.graph.nodes in
    let ws = c.add_holders.new.self.graph.nodes in
    snapshot-begun c.add_mappings.new.self c.args.heaps.now (vertex_names vs) (vertex_names ws) c.requires.order
    (record {
      purple = purple.names;
      holders = c.in_ok-add_holders.ensures.names;
      names = c.in_ok-add_mappings.ensures.names;
      mappings = c.in_ok-add_mappings.ensures.mappings
          ∙ ap (λ ms. map (mapping_of ws) ms ++ mappings_of c.args.heaps.now.heap) (holders.hyperedges ∙ purple.hyperedges);
      next = mappings.next ∙ holders.next ∙ purple.next;
      candidates = mappings.candidates ∙ holders.candidates ∙ purple.candidates ∙ sym (length-map vs (λ (v : Vertex). v.name));
      edges = mappings.edges ∙ holders.edges ∙ purple.edges;
    })

pub returns-clause-begun : goal.returns-clause-begun
returns-clause-begun c =
    let v = c.args.heaps.now in
    let w = c.empty_buffer.new.heaps in
    let b = c.add_mappings.new.self in
    let same = AreSame-buffer v w [] c.empty_buffer.ensures.heap in
    record {
      snapshot = the_snapshot c;
      built = IsBuilt-same b v w same c.add_mappings.ensures.built;
      held = AreHeld-same b.graph v w same c.add_mappings.ensures.held;
      heap = c.empty_buffer.ensures.heap;
      fresh = begun-fresh_in v w (snapshot_of b) c.requires.order c.empty_buffer.ensures.heap (the_snapshot c);
      suspected = begun-suspected v w (snapshot_of b) c.empty_buffer.ensures.heap (the_snapshot c);
    }

pub returns-clause-room : goal.returns-clause-room
returns-clause-room c = c.add_mappings.ensures.spare ∙ c.add_holders.ensures.spare ∙ c.in_ok-build.ensures.spare

-- and nothing else changed but the buffer
pub returns-clause-unseen : goal.returns-clause-unseen
returns-clause-unseen c = with_buffer-unseen c.args.heaps.now c.empty_buffer.new.heaps [] c.empty_buffer.ensures.order c.empty_buffer.ensures.heap

pub returns-in_err-build-clause-unseen : goal.returns-in_err-build-clause-unseen
returns-in_err-build-clause-unseen c = same-unseen c.args.heaps.now c.requires.order

pub returns-in_err-add_holders-clause-unseen : goal.returns-in_err-add_holders-clause-unseen
returns-in_err-add_holders-clause-unseen c = same-unseen c.args.heaps.now c.requires.order

pub returns-in_err-add_mappings-clause-unseen : goal.returns-in_err-add_mappings-clause-unseen
returns-in_err-add_mappings-clause-unseen c = same-unseen c.args.heaps.now c.requires.order

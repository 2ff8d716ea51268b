use Rattle.std.proofs.Common.{◌≡◌, [], length, Option, sym, ◌∙◌, ap, subst}
use Rattle.cc_lists.specs.Members.{with_all_last}
use Rattle.cc_lists.proofs.KnownBytes.{on_err_of}
use Rattle.cc_names.specs.declared.number.NKey.{NKey}
use Rattle.cc_names.specs.Names.{same_name}
use Rattle.cc_heaps.specs.Keyed.{the_number}
use Rattle.cc_counted.specs.Suspects.{number_behind}
use Rattle.cc_builder.specs.Building.{Built, IsBuilt, vertex_names}
use Rattle.cc_graph.specs.Held.{AreHeld}
use Rattle.cc_heaps.specs.HasKey.{HasKey}
use Rattle.cc_builder.proofs.BufferWalks.{buffer_from, purple_names, after-there}
use Rattle.cc_builder.proofs.BuildKept.{built_of}
use Rattle.cc_builder.proofs.BuildWalks.{is-at, read-next, read-live, read-there, turn-names, turn-shorter, turn-purple, left_from}
use Rattle.cc_builder.proofs.Begun.{first-some_are, IsBuilt-all}
use Rattle.cc_builder.proofs.build.Build.of_purple.Goals as goal

pub returns-in_err-add_purple-clause-refused : goal.returns-in_err-add_purple-clause-refused
returns-in_err-add_purple-clause-refused c =
    let v = c.args.heaps.now in
    let l = c.buffer.invariant in
    let key = c.in-Some.key in
    let xs = vertex_names c.buffer.build.graph.nodes in
    let i = is-at v c.buffer.suspect key c.in-Some.is l.live l.there in
    let k = the_number v key.0 in
    on_err_of c.from_residual.result
    (first-some_are v.heap xs (purple_names (buffer_from v.heap.buffer (number_behind v.heap.buffer k))) k
    (turn-purple v c.buffer.suspect key xs (with_all_last same_name [] (purple_names v.heap.buffer)) c.requires.order i c.in_err-add_purple.ensures.refused l.names))

pub buffer-smaller : goal.buffer-smaller
buffer-smaller c =
    let v = c.args.heaps.now in
    let l = c.buffer.invariant in
    let i = is-at v c.buffer.suspect c.in-Some.key c.in-Some.is l.live l.there in
    turn-shorter v c.buffer.suspect c.next_in_buffer-suspect.result c.in-Some.key c.requires.order i
    (read-next v c.counted-counted.result.now c.in-Some.key c.next_in_buffer-suspect.result c.counted-counted.ensures c.next_in_buffer-suspect.ensures.number)

pub buffer-preserved : goal.buffer-preserved
buffer-preserved c =
    let v = c.args.heaps.now in
    let l = c.buffer.invariant in
    let r = c.next_in_buffer-suspect.result in
    let d = c.counted-counted.result.now in
    let k = the_number v c.in-Some.key.0 in
    let xs = vertex_names c.buffer.build.graph.nodes in
    let ys = vertex_names c.add_purple.new.self.graph.nodes in
    let i = is-at v c.buffer.suspect c.in-Some.key c.in-Some.is l.live l.there in
    let next = read-next v d c.in-Some.key r c.counted-counted.ensures c.next_in_buffer-suspect.ensures.number in
    let live = read-live v d r c.counted-counted.ensures c.next_in_buffer-suspect.ensures.live in
    record {
      names = turn-names v c.buffer.suspect r c.in-Some.key xs ys (with_all_last same_name [] (purple_names v.heap.buffer)) c.requires.order i next c.in_ok-add_purple.ensures.names l.names;
      live = live;
      there = read-there v r (number_behind v.heap.buffer k) next live (after-there v.heap.buffer k);
      edges = c.in_ok-add_purple.ensures.edges ∙ l.edges;
      hyperedges = c.in_ok-add_purple.ensures.hyperedges ∙ l.hyperedges;
      next = c.in_ok-add_purple.ensures.next ∙ l.next;
      spare = c.in_ok-add_purple.ensures.spare ∙ l.spare;
      built = c.in_ok-add_purple.ensures.built;
      held = c.in_ok-add_purple.ensures.held;
    }

pub returns-clause-names : goal.returns-clause-names
returns-clause-names c =
    let v = c.args.heaps.now in
    let b = c.buffer.build in
    let names : vertex_names b.graph.nodes ≡ with_all_last same_name [] (purple_names v.heap.buffer) =
    subst (λ (o : Option NKey). with_all_last same_name (vertex_names b.graph.nodes) (left_from v o) ≡ with_all_last same_name [] (purple_names v.heap.buffer)) c.in_default.is c.buffer.invariant.names in
    ap (λ (a : Built). vertex_names a.graph.nodes) c.build-2.view_is ∙ names

pub returns-clause-edges : goal.returns-clause-edges
returns-clause-edges c = ap (λ (a : Built). a.graph.edges) c.build-2.view_is ∙ c.buffer.invariant.edges

pub returns-clause-hyperedges : goal.returns-clause-hyperedges
returns-clause-hyperedges c = ap (λ (a : Built). a.graph.hyperedges) c.build-2.view_is ∙ c.buffer.invariant.hyperedges

pub returns-clause-next : goal.returns-clause-next
returns-clause-next c = ap (λ (a : Built). a.next) c.build-2.view_is ∙ c.buffer.invariant.next

pub returns-clause-spare : goal.returns-clause-spare
returns-clause-spare c = ap (λ (a : Built). a.graph.spare) c.build-2.view_is ∙ c.buffer.invariant.spare

pub returns-clause-candidates : goal.returns-clause-candidates
returns-clause-candidates c = c.len.ensures ∙ ap (λ (a : Built). length a.graph.nodes) (sym c.build-2.view_is)

pub returns-clause-built : goal.returns-clause-built
returns-clause-built c =
    let v = c.args.heaps.now in
    IsBuilt-all (built_of c.build-2.inside.graph c.build-2.inside.candidates c.build-2.inside.next) v c.len.result (c.len.ensures ∙ ap (λ (a : Built). length a.graph.nodes) (sym c.build-2.view_is))
    (subst (λ a. IsBuilt a v) (sym c.build-2.view_is) c.buffer.invariant.built)

pub returns-clause-held : goal.returns-clause-held
returns-clause-held c = subst (λ (a : Built). AreHeld a.graph (HasKey c.args.heaps.now)) (sym c.build-2.view_is) c.buffer.invariant.held

use Rattle.std.proofs.Common.{◌≡◌, ◌<◌, ◌≤◌, arith, length, Some, sym, ◌∙◌, ap, subst}
use Rattle.cc_graph.specs.Shown.{number_of}
use Rattle.cc_builder.specs.Building.{Built, IsBuilt, snapshot_of}
use Rattle.cc_graph.specs.Held.{AreHeld}
use Rattle.cc_heaps.specs.HasKey.{HasKey}
use Rattle.cc_builder.specs.BuildSteps.{the_name}
use Rattle.cc_builder.proofs.BuildNodes.{number_of-at}
use Rattle.cc_builder.proofs.BuildSnapshots.{snapshot-noted}
use Rattle.cc_builder.proofs.BuildKept.{built_of, IsBuilt-closed, IsBuilt-reference, with_vertex-longer}
use Rattle.cc_builder.proofs.build.Build.note_reference.Goals as goal

pub note_edge-requires-clause-to : goal.note_edge-requires-clause-to
note_edge-requires-clause-to c =
    let x = the_name c.args.heaps.now c.args.target in
    (number_of-at c.self.inside.graph.nodes x c.in_ok-to.to
    (subst (λ (b : Built). number_of b.graph.nodes x ≡ Some c.in_ok-to.to) (sym c.self.view_is) c.in_ok-to.ensures.number)).0

pub returns-clause-noted : goal.returns-clause-noted
returns-clause-noted c =
    let b = c.args.self.now in
    let x = the_name c.args.heaps.now c.args.target in
    let now = built_of c.self.inside.graph c.self.inside.candidates c.self.inside.next in
    ap (λ g. snapshot_of (built_of g c.self.inside.candidates c.self.inside.next)) c.note_edge.ensures
    ∙ snapshot-noted b now x c.args.target c.args.node c.in_ok-to.to (c.self.view_is ∙ c.in_ok-to.ensures.added)
    (IsBuilt-closed b c.args.heaps.now c.requires.built) c.requires.within
    (subst (λ (a : Built). number_of a.graph.nodes x ≡ Some c.in_ok-to.to) (sym c.self.view_is) c.in_ok-to.ensures.number)

pub returns-clause-built : goal.returns-clause-built
returns-clause-built c =
    let b = c.args.self.now in
    let v = c.args.heaps.now in
    let x = the_name v c.args.target in
    let now = built_of c.self.inside.graph c.self.inside.candidates c.self.inside.next in
    let to = (number_of-at c.self.inside.graph.nodes x c.in_ok-to.to
    (subst (λ (a : Built). number_of a.graph.nodes x ≡ Some c.in_ok-to.to) (sym c.self.view_is) c.in_ok-to.ensures.number)).0 in
    let longer : length b.graph.nodes ≤ length c.self.inside.graph.nodes =
    subst (λ (a : Built). length b.graph.nodes ≤ length a.graph.nodes) (sym (c.self.view_is ∙ c.in_ok-to.ensures.added)) (with_vertex-longer b.graph.nodes x c.args.target) in
    let from : c.args.node < length c.self.inside.graph.nodes = omega (arith, c.requires.within) in
    subst (λ g. IsBuilt (built_of g c.self.inside.candidates c.self.inside.next) v) (sym c.note_edge.ensures)
    (IsBuilt-reference now v c.args.node c.in_ok-to.to (subst (λ a. IsBuilt a v) (sym c.self.view_is) c.in_ok-to.ensures.built) from to)

pub returns-clause-held : goal.returns-clause-held
returns-clause-held c =
    let v = c.args.heaps.now in
    subst (λ g. AreHeld g (HasKey v)) (sym c.note_edge.ensures) (subst (λ (a : Built). AreHeld a.graph (HasKey v)) (sym c.self.view_is) c.in_ok-to.ensures.held)

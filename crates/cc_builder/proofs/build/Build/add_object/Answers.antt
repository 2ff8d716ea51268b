use Rattle.std.proofs.Common.{◌<◌, arith, length, sym, ◌∙◌, ap, subst}
use Rattle.cc_graph.specs.Shown.{with_vertex}
use Rattle.cc_builder.specs.Building.{Built}
use Rattle.cc_graph.specs.Held.{AreHeld}
use Rattle.cc_heaps.specs.HasKey.{HasKey}
use Rattle.cc_builder.proofs.BuildKept.{IsAdded-built, IsAdded-held}
use Rattle.cc_builder.proofs.FewObjects.{nodes-limited}
use Rattle.cc_builder.proofs.build.Build.add_object.Goals as goal

pub add_node-requires : goal.add_node-requires
add_node-requires c =
    let few = nodes-limited c.args.self.now c.args.heaps.now c.requires.order c.requires.built in
    record { few = subst (λ (a : Built). length a.graph.nodes < 4294967295) (sym c.self.view_is) (omega arith) }

pub returns-clause-built : goal.returns-clause-built
returns-clause-built c =
    let e = c.in_ok-node.ensures in
    IsAdded-built {object = c.args.object} c.self.view_is c.requires.built c.requires.order c.requires.there
    (record { nodes = e.nodes ∙ ap (λ x. with_vertex c.self.inside.graph.nodes x c.args.object) c.name_of-name.ensures; edges = e.edges; hyperedges = e.hyperedges; blacks = e.blacks; spare = e.spare })

pub returns-clause-held : goal.returns-clause-held
returns-clause-held c =
    let e = c.in_ok-node.ensures in
    IsAdded-held c.args.heaps.now {object = c.args.object} {g = c.add_node.new.self} c.self.view_is c.requires.held c.requires.order c.requires.there
    (record { nodes = e.nodes ∙ ap (λ x. with_vertex c.self.inside.graph.nodes x c.args.object) c.name_of-name.ensures; edges = e.edges; hyperedges = e.hyperedges; blacks = e.blacks; spare = e.spare })

pub returns-in_err-node-clause-held : goal.returns-in_err-node-clause-held
returns-in_err-node-clause-held c =
    let e = c.in_err-node.ensures in
    subst (λ g. AreHeld g (HasKey c.args.heaps.now)) (sym e.err) (subst (λ b. AreHeld b.graph (HasKey c.args.heaps.now)) (sym c.self.view_is) c.requires.held)

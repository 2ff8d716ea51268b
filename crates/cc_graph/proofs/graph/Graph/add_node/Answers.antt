use Rattle.std.proofs.Common.{◌<◌, ap, subst, arith, length}
use Rattle.std.specs.Prelude.{IfSome}
use Rattle.cc_graph.proofs.Numbering.{length-vertices, number-within}
use Rattle.cc_graph.proofs.Whole.{number-with, whole-with}
use Rattle.cc_graph.proofs.graph.Graph.add_node.Goals as goal

pub invariant_of-self-2 : goal.invariant_of-self-2
invariant_of-self-2 c =
    let count = ap (λ v. length v.nodes) c.self.view_is in
    let few : length c.self.inside.nodes.nodes < 4294967295 = omega (arith, count, length-vertices c.self.inside.nodes.nodes, c.requires.few) in
    rw (c.in_ok-number.ensures.nodes, c.add.ensures.blacks) (whole-with _ _ _ _ _ c.args.name c.args.held c.self.invariant few)

pub returns-clause-number : goal.returns-clause-number
returns-clause-number c = grind (arith, number-with)

pub returns-clause-within : goal.returns-clause-within
returns-clause-within c =
    let inside : c.in_ok-number.number < length c.add.new.self.nodes =
    subst (λ o. IfSome o (λ k. k < length c.add.new.self.nodes)) (returns-clause-number c) (number-within c.add.new.self.nodes c.args.name) in
    omega (arith, inside, length-vertices c.add.new.self.nodes)

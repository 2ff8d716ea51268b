use Rattle.std.proofs.Common.{◌≡◌, ◌<◌, ◌∙◌, ◌==◌, ap, sym, arith, length, false}
use Rattle.cc_lists.specs.Members.{has}
use Rattle.cc_graph.specs.Shown.{is_black}
use Rattle.cc_graph.proofs.Numbering.{length-vertices}
use Rattle.cc_graph.proofs.Whole.{rooms-same, shown-same, vertices-black, black-last, whole-black_node, whole-blackened}
use Rattle.cc_graph.proofs.graph.Graph.blacken.Goals as goal

pub invariant_of-self : goal.invariant_of-self
invariant_of-self c =
    let count = ap (λ v. length v.nodes) c.self.view_is in
    let inside : c.args.node < length c.self.inside.nodes.nodes = omega (arith, count, length-vertices c.self.inside.nodes.nodes, c.requires) in
    let off : has ◌==◌ c.self.inside.nodes.blacks c.args.node ≡ false = ap (λ v. is_black v c.args.node) c.self.view_is ∙ (sym c.is_black.ensures ∙ c.if-is_black.false) in
    rw c.blacken.ensures (whole-black_node _ _ _ _ _ c.args.node (whole-blackened _ _ _ _ _ c.args.node c.self.invariant inside off))

pub returns : goal.returns
returns c = grind (arith, shown-same, vertices-black, black-last, rooms-same)

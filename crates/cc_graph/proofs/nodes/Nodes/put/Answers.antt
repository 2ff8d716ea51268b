use Rattle.std.proofs.Common.{◌<◌, ◌∙◌, ap, subst, sym, arith, length, get_or}
use Rattle.cc_graph.specs.Kept.{IsNumbered}
use Rattle.cc_graph.proofs.Numbering.{numbered-put}
use Rattle.cc_graph.proofs.nodes.Nodes.put.Goals as goal

pub invariant_of-self : goal.invariant_of-self
invariant_of-self c =
    let nodes = ap (λ v. v.nodes) c.self.view_is in
    let inside : c.args.i < length c.self.inside.nodes.items = omega (arith, ap length nodes, c.requires.within) in
    subst (λ ks. IsNumbered ks c.self.inside.blacks.items c.self.inside.blacks.capacity c.self.inside.numbers) (sym (ap (λ p. p.items) c.set.ensures))
    (numbered-put _ _ _ _ c.args.i c.args.node c.args.node c.self.invariant inside
    (c.requires.name ∙ ap (λ ks. (get_or ks c.args.i c.args.node).name) (sym nodes))
    (c.requires.black ∙ ap (λ ks. (get_or ks c.args.i c.args.node).black) (sym nodes)))

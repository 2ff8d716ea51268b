use Rattle.std.proofs.Common.{◌≡◌, ◌<◌, ◌∙◌, ◌==◌, ap, arith, length, false, rules}
use Rattle.cc_lists.specs.Members.{has}
use Rattle.cc_graph.proofs.Numbering.{numbered-room, numbered-blackened, numbered-same, black_node-at}
use Rattle.cc_graph.proofs.nodes.Nodes.blacken.Goals as goal

pub push-requires : goal.push-requires
push-requires c =
    let inside : c.args.i < length c.self.inside.nodes.items = omega (arith, ap (λ v. length v.nodes) c.self.view_is, c.requires.within) in
    let off : has ◌==◌ c.self.inside.blacks.items c.args.i ≡ false = ap (λ v. has ◌==◌ v.blacks c.args.i) c.self.view_is ∙ c.requires.white in
    let room : length c.self.inside.blacks.items < c.self.inside.blacks.capacity = numbered-room _ _ _ _ c.args.i c.at.result.now c.self.invariant inside off in
    search rules

pub invariant_of-self : goal.invariant_of-self
invariant_of-self c =
    let inside : c.args.i < length c.self.inside.nodes.items = omega (arith, ap (λ v. length v.nodes) c.self.view_is, c.requires.within) in
    let off : has ◌==◌ c.self.inside.blacks.items c.args.i ≡ false = ap (λ v. has ◌==◌ v.blacks c.args.i) c.self.view_is ∙ c.requires.white in
    rw (c.set.ensures, c.push.ensures)
    (numbered-blackened _ _ _ _ c.args.i c.at.result.now c.blacken.new.self c.self.invariant inside off
    (ap (λ k. k.name) c.blacken.ensures ∙ ap (λ k. k.name) c.at.ensures) (ap (λ k. k.black) c.blacken.ensures))

pub returns : goal.returns
returns c = grind (arith, numbered-same, black_node-at)

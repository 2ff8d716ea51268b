use Rattle.std.proofs.Common.{sym, ◌∙◌, ap, refl}
use Rattle.cc_walk.specs.Walks.{members}
use Rattle.cc_walk.specs.declared.walk_list.WalkList.{WalkList}
use Rattle.cc_walk.proofs.WalkLists.{walk-absent, walk-left, next-left, next-stays, is-next, is-not-next, chain-passed}
use Rattle.cc_walk.proofs.walk_list.WalkList.leave.Goals as goal
use Rattle.cc_walk.proofs.walk_list.WalkList.leave.Goals.{then-eq, else-eq}

pub returns-then-not-holds-clause-walk : goal.returns-then-not-holds-clause-walk
returns-then-not-holds-clause-walk g c w i = walk-absent _ _ w i c.args.key (sym (c.if-not-holds.ensures.keys (members w) i.chain))

pub unlink_at-requires-clause-chain : goal.unlink_at-requires-clause-chain
unlink_at-requires-clause-chain g c =
    let f = c.requires.walk in
    elim c.if-eq.branch [
      | then-eq b ↦ (members f.0, chain-passed _ c.args.self.now b.pass.new.self c.if-eq.self _ b.pass.ensures.chain b.self-is f.1.chain)
      | else-eq b ↦ (members f.0, chain-passed _ c.args.self.now c.args.self.now c.if-eq.self _ refl b.self-is f.1.chain)
    ]

pub returns-clause-walk : goal.returns-clause-walk
returns-clause-walk g c w i =
    elim c.if-eq.branch [
      | then-eq b ↦ walk-left _ _ w i c.args.key _ _
          (c.unlink_at.ensures.keys (members w) (chain-passed _ c.args.self.now b.pass.new.self c.if-eq.self _ b.pass.ensures.chain b.self-is i.chain))
          (next-left _ _ w i c.args.key (is-next _ _ (sym c.eq.ensures ∙ b.if-eq.true)) c.if-eq.self.next
          (ap (λ (l : WalkList _). l.next) b.self-is ∙ b.pass.ensures.next (members w) i.chain))
      | else-eq b ↦ walk-left _ _ w i c.args.key _ _
          (c.unlink_at.ensures.keys (members w) (chain-passed _ c.args.self.now c.args.self.now c.if-eq.self _ refl b.self-is i.chain))
          (ap (λ (l : WalkList _). l.next) b.self-is ∙ next-stays _ _ w i c.args.key (is-not-next _ _ (sym c.eq.ensures ∙ b.if-eq.false)))
    ]

use Rattle.cc_walk.specs.Walks.{members}
use Rattle.cc_walk.proofs.WalkLists.{member-linked, walk-given}
use Rattle.cc_walk.proofs.walk_list.WalkList.give.Goals as goal

pub pass-requires : goal.pass-requires
pass-requires g c = member-linked _ _ _ c.requires.1 c.in_ok-key.key c.in_ok-key.was

pub returns-clause-walk : goal.returns-clause-walk
returns-clause-walk g c w i = walk-given _ _ w i c.in_ok-key.key c.in_ok-key.was _ c.pass.ensures.chain (c.pass.ensures.next (members w) i.chain)

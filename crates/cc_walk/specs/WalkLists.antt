-- A LIST FOR A WALK AND ITS STORE AS A SET OF KEYS.
use Rattle.std.specs.Prelude.{◌≡◌}
use Rattle.cc_lists.specs.Walks.{first_of}
use Rattle.cc_chain.specs.Links.{Links}
use Rattle.cc_chain.specs.Chains.{IsChain}
use Rattle.cc_walk.specs.declared.walk_list.WalkList.{WalkList}
use Rattle.cc_walk.specs.Walks.{Walk, members}

-- the list is the set: its chain is the members, those that were given first, and next is the first that waits
pub record IsWalk {R : Type 0} (links : Links) (list : WalkList R) (w : Walk) : Type 0 where
  pub chain : IsChain links list.chain (members w)
  pub next : list.next ≡ first_of w.waiting

-- it is some set
abbrev pub IsSomeWalk : {R : Type 0} → Links → WalkList R → Type 0
IsSomeWalk links list = (w : Walk) × IsWalk links list w

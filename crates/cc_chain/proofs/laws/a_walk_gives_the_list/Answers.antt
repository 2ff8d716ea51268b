use Rattle.cc_chain.proofs.Walks.{behind-first, behind-next}
use Rattle.cc_chain.proofs.Chains.{chain-walked, chain-bounded, chain-one_list}
use Rattle.cc_chain.proofs.laws.a_walk_gives_the_list.Goals as goal

pub returns : goal.returns
returns g c = search (behind-first, behind-next, chain-walked, chain-bounded, chain-one_list)

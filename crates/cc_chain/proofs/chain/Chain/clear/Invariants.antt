use Rattle.std.proofs.Common.{◌≡◌, ◌^◌}
use Rattle.cc_chain.specs.Links.{SameLive, is_linked}
use Rattle.cc_chain.proofs.Cleared.{AreLeft, passing}
use Rattle.cc_chain.proofs.chain.Chain.clear.Given as goal

-- the keys from `next` on are left
abbrev pub invariant-keys : goal.invariant-keys
invariant-keys g l = record {
  left : AreLeft (g.T.LinkStore.links l.store) l.next;
  live : SameLive (g.T.LinkStore.links l.initial.store) (g.T.LinkStore.links l.store);
  rest : g.T.LinkStore.rest l.store ≡ g.T.LinkStore.rest l.initial.store;
}

-- how many keys below 2 ^ 32 have a link: each time one loses it
abbrev pub decreases-keys : goal.decreases-keys
decreases-keys g l = passing (2 ^ 32) (is_linked (g.T.LinkStore.links l.store))

use Rattle.std.proofs.Common.{◌^◌, ◌∙◌}
use Rattle.cc_chain.proofs.Links.{SameLive-then, SameLive-with_link}
use Rattle.cc_chain.proofs.Chains.{linked-live}
use Rattle.cc_chain.proofs.Cleared.{left-linked, one-taken, fewer-linked}
use Rattle.cc_chain.proofs.chain.Chain.clear.Goals as goal

pub take_link-next-requires : goal.take_link-next-requires
take_link-next-requires g c = linked-live (g.T.LinkStore.links c.keys.store) c.in-Some.key (left-linked _ _ c.in-Some.key c.in-Some.is c.keys.invariant.left)

pub keys-smaller : goal.keys-smaller
keys-smaller g c = fewer-linked (2 ^ 32) c.in-Some.key _ _ c.take_link-next.ensures.below (left-linked _ _ c.in-Some.key c.in-Some.is c.keys.invariant.left) c.take_link-next.ensures.links

pub keys-preserved : goal.keys-preserved
keys-preserved g c = record {
  left = one-taken _ _ _ _ c.in-Some.key c.in-Some.is c.keys.invariant.left c.take_link-next.ensures.after c.take_link-next.ensures.links;
  live = SameLive-then _ _ _ c.keys.invariant.live (SameLive-with_link _ _ _ _ c.take_link-next.ensures.links (linked-live (g.T.LinkStore.links c.keys.store) c.in-Some.key (left-linked _ _ c.in-Some.key c.in-Some.is c.keys.invariant.left)));
  rest = c.take_link-next.ensures.rest ∙ c.keys.invariant.rest;
}

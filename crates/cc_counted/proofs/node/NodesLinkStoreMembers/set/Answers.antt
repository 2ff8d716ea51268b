use Rattle.std.proofs.Common.{Option, ap, ◌∙◌}
use Rattle.cc_chain.specs.declared.link.Link.{Link}
use Rattle.cc_chain.specs.Links.{with_link}
use Rattle.cc_chain.proofs.Stores.{slot_at-set, slot_at-live}
use Rattle.cc_counted.specs.declared.node.Node.{Node}
use Rattle.cc_counted.specs.Nodes.{walk_links}
use Rattle.cc_counted.proofs.Nodes.{threads-same, cells-kept, links-kept, marks-kept}
use Rattle.cc_counted.proofs.node.NodesLinkStoreMembers.set.Goals as goal

pub returns-clause-links : goal.returns-clause-links
returns-clause-links c =
    let slots = c.args.self.now.slab.slots in
    slot_at-set (λ (n : Node). n.walk) slots c.args.key _ (slot_at-live (λ (n : Node). n.walk) slots c.args.key c.requires)
    ∙ ap (λ (link : Option Link). with_link (walk_links slots) c.args.key link) c.of.ensures

pub returns-clause-rest : goal.returns-clause-rest
returns-clause-rest c = search (threads-same, cells-kept, links-kept, marks-kept)

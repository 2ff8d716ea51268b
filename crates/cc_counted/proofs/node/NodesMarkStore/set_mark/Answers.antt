use Rattle.std.proofs.Common.{refl}
use Rattle.cc_counted.specs.declared.node.Node.{Node}
use Rattle.cc_counted.proofs.Nodes.{threads-same, cells-kept, links-kept}
use Rattle.cc_counted.proofs.node.NodesMarkStore.set_mark.Goals as goal

pub returns-clause-links : goal.returns-clause-links
returns-clause-links c = links-kept c.args.self.now.slab.slots c.args.key _ _ c.index_mut.ensures.value (λ (n : Node). n.suspects) refl

pub returns-clause-beside : goal.returns-clause-beside
returns-clause-beside c = search (threads-same, cells-kept, links-kept)

use Rattle.std.proofs.Common.{◌≡◌, ℕ, ◌==◌, if◌then◌else◌, sym, subst}
use Rattle.cc_chain.proofs.Slots.{among-linked}
use Rattle.cc_lists.specs.Members.{Among}
use Rattle.cc_holders.specs.declared.entry.Entry.TheVariants.{Unknown}
use Rattle.cc_holders.specs.Known.{entry_at}
use Rattle.cc_counted.specs.declared.node.Node.{Node}
use Rattle.cc_counted.specs.Stored.{Stored}
use Rattle.cc_counted.specs.Nodes.{order_links}
use Rattle.cc_counted.specs.Natives.{slots_in, lists_of}
use Rattle.cc_counted.proofs.Threading.{stored-removed, kept-removed}
use Rattle.cc_counted.proofs.natives.Natives.remove.Goals as goal

pub unlink_at-requires-clause-linked : goal.unlink_at-requires-clause-linked
unlink_at-requires-clause-linked c =
    among-linked (order_links (slots_in c.self.inside)) c.self.inside.order (lists_of c.self.inside).order c.self.invariant.chained.order c.args.key.0
    (subst (λ (s : Stored). Among c.args.key.0 s.lists.order) (sym c.self.view_is) c.requires.order)

pub invariant_of-self : goal.invariant_of-self
invariant_of-self c =
    kept-removed c.self.inside c.self.invariant _ c.self.view_is c.args.key.0 c.requires.queue c.requires.buffer c.requires.walk c.unlink_at.new.store _ c.unlink_at.ensures.rest
    (c.unlink_at.ensures.keys (lists_of c.self.inside).order c.self.invariant.chained.order) c.remove-node.new.self c.remove-node.ensures.slots c.remove-node.ensures.capacity c.remove.new.self
    c.remove-node.result c.remove-node.ensures.value
    (subst (λ (q : Node). (m : ℕ) → entry_at c.remove.new.self m ≡ (if q.cell.number == m then Unknown else entry_at c.self.inside.holders m)) c.node.view_is c.remove.ensures.entries)

pub returns-clause-lists : goal.returns-clause-lists
returns-clause-lists c =
    stored-removed c.self.inside c.self.invariant _ c.self.view_is c.args.key.0 c.requires.queue c.requires.buffer c.requires.walk c.unlink_at.new.store _ c.unlink_at.ensures.rest
    (c.unlink_at.ensures.keys (lists_of c.self.inside).order c.self.invariant.chained.order) c.remove-node.new.self c.remove-node.ensures.slots c.remove-node.ensures.capacity c.remove.new.self

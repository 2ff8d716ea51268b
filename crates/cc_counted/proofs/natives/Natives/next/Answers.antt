use Rattle.std.proofs.Common.{sym, subst}
use Rattle.cc_chain.proofs.Slots.{among-linked}
use Rattle.cc_lists.specs.Members.{Among}
use Rattle.cc_counted.specs.Stored.{Stored}
use Rattle.cc_counted.specs.Nodes.{order_links}
use Rattle.cc_counted.specs.Natives.{slots_in, lists_of}
use Rattle.cc_counted.proofs.natives.Natives.next.Goals as goal

pub next-requires : goal.next-requires
next-requires c =
    among-linked (order_links (slots_in c.self.inside)) c.self.inside.order (lists_of c.self.inside).order c.self.invariant.chained.order c.args.key.0
    (subst (λ (s : Stored). Among c.args.key.0 s.lists.order) (sym c.self.view_is) c.requires)

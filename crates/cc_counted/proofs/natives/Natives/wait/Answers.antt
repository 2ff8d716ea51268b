use Rattle.std.proofs.Common.{◌≡◌, [], ◌∷◌, ◌++◌, is_some, true, sym, subst}
use Rattle.cc_chain.proofs.Slots.{absent-free}
use Rattle.cc_lists.specs.Members.{Among}
use Rattle.cc_counted.specs.declared.node.Node.{Node}
use Rattle.cc_counted.specs.Lists.{cell_at}
use Rattle.cc_counted.specs.Stored.{Stored}
use Rattle.cc_counted.specs.Nodes.{queue_links}
use Rattle.cc_counted.specs.Natives.{slots_in, lists_of}
use Rattle.cc_counted.proofs.Nodes.{live-part}
use Rattle.cc_counted.proofs.Threading.{stored-queue}
use Rattle.cc_counted.proofs.natives.Natives.wait.Goals as goal

pub push_back-requires-clause-free : goal.push_back-requires-clause-free
push_back-requires-clause-free c =
    absent-free (queue_links (slots_in c.self.inside)) c.self.inside.queue (lists_of c.self.inside).queue c.self.invariant.chained.queue c.args.key.0
    (subst (λ (s : Stored). ¬ (Among c.args.key.0 s.lists.queue)) (sym c.self.view_is) c.requires.queue)
    (live-part (λ (n : Node). n.queue) (slots_in c.self.inside) c.args.key.0
    (subst (λ (s : Stored). is_some (cell_at s.lists.cells c.args.key.0) ≡ true) (sym c.self.view_is) c.requires.live))

pub invariant_of-self : goal.invariant_of-self
invariant_of-self c = (stored-queue c.self.inside c.self.invariant _ c.self.view_is c.push_back.new.store _ (λ keys. keys ++ c.args.key.0 ∷ []) c.push_back.ensures.rest (c.push_back.ensures.keys (lists_of c.self.inside).queue c.self.invariant.chained.queue)).1

pub returns : goal.returns
returns c = (stored-queue c.self.inside c.self.invariant _ c.self.view_is c.push_back.new.store _ (λ keys. keys ++ c.args.key.0 ∷ []) c.push_back.ensures.rest (c.push_back.ensures.keys (lists_of c.self.inside).queue c.self.invariant.chained.queue)).0

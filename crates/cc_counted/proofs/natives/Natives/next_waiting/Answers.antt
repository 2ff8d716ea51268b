use Rattle.std.proofs.Common.{drop}
use Rattle.cc_counted.specs.Natives.{lists_of}
use Rattle.cc_counted.proofs.Threading.{stored-queue}
use Rattle.cc_counted.proofs.natives.Natives.next_waiting.Goals as goal

pub invariant_of-self : goal.invariant_of-self
invariant_of-self c = (stored-queue c.self.inside c.self.invariant _ c.self.view_is c.pop_front.new.store _ (drop 1) c.pop_front.ensures.rest (c.pop_front.ensures.keys (lists_of c.self.inside).queue c.self.invariant.chained.queue)).1

pub returns-clause-lists : goal.returns-clause-lists
returns-clause-lists c = (stored-queue c.self.inside c.self.invariant _ c.self.view_is c.pop_front.new.store _ (drop 1) c.pop_front.ensures.rest (c.pop_front.ensures.keys (lists_of c.self.inside).queue c.self.invariant.chained.queue)).0

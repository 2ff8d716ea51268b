use Rattle.cc_counted.specs.Natives.{lists_of}
use Rattle.cc_counted.proofs.Scripts.{next-placed, none-placed}
use Rattle.cc_counted.proofs.natives.Natives.next_holder.Goals as goal

pub returns-in-Some-clause-next : goal.returns-in-Some-clause-next
returns-in-Some-clause-next c = rw (← c.self.view_is) (next-placed (lists_of c.self.inside).cells c.self.inside.holders c.self.invariant.known c.args.after _ c.in-Some.key c.in-Some.ensures.next)

pub returns-in-None-clause-last : goal.returns-in-None-clause-last
returns-in-None-clause-last c = rw (← c.self.view_is) (none-placed (lists_of c.self.inside).cells c.self.inside.holders c.self.invariant.known c.args.after c.in-None.ensures.last)

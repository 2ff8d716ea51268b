use Rattle.cc_counted.proofs.Scripts.{next-shown-key, none-shown-key}
use Rattle.cc_counted.proofs.counted.Counted.next_holder.Goals as goal

pub returns-clause-next : goal.returns-clause-next
returns-clause-next c =
    let at = rw (← c.self.view_is) at c.number_of.ensures in
    rw (← c.self.view_is) (next-shown-key c.self.inside.natives.lists c.self.invariant.placed c.next_holder.result c.number_of.result _ at c.next_holder.ensures.next)

pub returns-clause-last : goal.returns-clause-last
returns-clause-last c =
    let at = rw (← c.self.view_is) at c.number_of.ensures in
    rw (← c.self.view_is) (none-shown-key c.self.inside.natives.lists c.self.invariant.placed c.next_holder.result c.number_of.result _ at c.next_holder.ensures.last)

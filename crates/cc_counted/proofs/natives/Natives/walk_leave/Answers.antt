use Rattle.cc_walk.specs.Walks.{without_member}
use Rattle.cc_counted.specs.Natives.{lists_of}
use Rattle.cc_counted.proofs.Threading.{stored-walk}
use Rattle.cc_counted.proofs.natives.Natives.walk_leave.Goals as goal

pub invariant_of-self : goal.invariant_of-self
invariant_of-self c = (stored-walk c.self.inside c.self.invariant _ c.self.view_is c.leave.new.store _ (without_member c.args.key.0) c.leave.ensures.rest (c.leave.ensures.walk (lists_of c.self.inside).walk c.self.invariant.chained.walk)).1

pub returns : goal.returns
returns c = (stored-walk c.self.inside c.self.invariant _ c.self.view_is c.leave.new.store _ (without_member c.args.key.0) c.leave.ensures.rest (c.leave.ensures.walk (lists_of c.self.inside).walk c.self.invariant.chained.walk)).0

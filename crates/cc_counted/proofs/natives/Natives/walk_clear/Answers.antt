use Rattle.cc_walk.specs.Walks.{no_walk}
use Rattle.cc_counted.proofs.Threading.{stored-walk}
use Rattle.cc_counted.proofs.natives.Natives.walk_clear.Goals as goal

pub invariant_of-self : goal.invariant_of-self
invariant_of-self c = (stored-walk c.self.inside c.self.invariant _ c.self.view_is c.clear.new.store _ (λ w. no_walk) c.clear.ensures.rest c.clear.ensures.walk).1

pub returns : goal.returns
returns c = (stored-walk c.self.inside c.self.invariant _ c.self.view_is c.clear.new.store _ (λ w. no_walk) c.clear.ensures.rest c.clear.ensures.walk).0

use Rattle.cc_host.proofs.Quietly.{none-comes, quietly}
use Rattle.cc_host.proofs.host.Host.preserve.Goals as goal

pub returns-clause-quiet : goal.returns-clause-quiet
returns-clause-quiet c = quietly _ _ c.preserve-done.new.self c.self.view_is c.preserve-done.ensures.none_left c.preserve-done.ensures.places

pub returns-clause-none_came : goal.returns-clause-none_came
returns-clause-none_came c = none-comes _ _ c.preserve-done.new.self c.self.view_is c.preserve-done.ensures.none_came

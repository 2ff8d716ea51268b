use Rattle.cc_host.proofs.Quietly.{none-comes, quietly}
use Rattle.cc_host.proofs.host.Host.set_script_root.Goals as goal

pub returns-clause-quiet : goal.returns-clause-quiet
returns-clause-quiet c = quietly _ _ c.set_script_root-done.new.self c.self.view_is c.set_script_root-done.ensures.none_left c.set_script_root-done.ensures.places

pub returns-clause-none_came : goal.returns-clause-none_came
returns-clause-none_came c = none-comes _ _ c.set_script_root-done.new.self c.self.view_is c.set_script_root-done.ensures.none_came

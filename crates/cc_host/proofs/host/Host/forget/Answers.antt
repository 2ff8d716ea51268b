use Rattle.cc_host.proofs.Quietly.{none-comes, quietly}
use Rattle.cc_host.proofs.host.Host.forget.Goals as goal

pub returns-clause-quiet : goal.returns-clause-quiet
returns-clause-quiet c = quietly _ _ c.forget-marks.new.self c.self.view_is c.forget-marks.ensures.none_left c.forget-marks.ensures.places

pub returns-clause-none_came : goal.returns-clause-none_came
returns-clause-none_came c = none-comes _ _ c.forget-marks.new.self c.self.view_is c.forget-marks.ensures.none_came

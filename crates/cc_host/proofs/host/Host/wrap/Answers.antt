use Rattle.std.proofs.Common.{sym, subst}
use Rattle.cc_host.specs.Calls.{Comes}
use Rattle.cc_host.specs.Hosts.{State}
use Rattle.cc_host.proofs.Wrapped.{none-but}
use Rattle.cc_host.proofs.host.Host.wrap.Goals as goal

pub returns-in_default-clause-came : goal.returns-in_default-clause-came
returns-in_default-clause-came c =
    subst (λ (s : State). Comes c.in_ok-reflector-2.reflector.name c.args.self.now.host s.host) (sym c.self-in_default.view_is) c.in_ok-reflector-2.ensures.came

pub returns-clause-came : goal.returns-clause-came
returns-clause-came c = none-but c.args.self.now.host c.wrap_again.new.self.host c.wrap_again.result c.wrap_again.ensures.none_came

use Rattle.cc_host.specs.Calls.{NoneComes}
use Rattle.cc_c.proofs.Statuses.{carried}
use Rattle.cc_host.specs.Hosts.{State}
use Rattle.cc_c.proofs.roots.cc_set_script_root.Goals as goal

pub returns-in-Ok-clause-none_came : goal.returns-in-Ok-clause-none_came
returns-in-Ok-clause-none_came c = λ s t e f.
    carried (λ (a b : State). NoneComes a.host b.host) _ _ _ s t _ _
    c.deref_mut.ensures.value c.in-Some.ensures.taken e c.of.ensures f c.in-Ok.ensures.none_came

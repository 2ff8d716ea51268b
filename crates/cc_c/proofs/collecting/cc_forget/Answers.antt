use Rattle.cc_host.specs.Calls.{NoneComes}
use Rattle.cc_c.proofs.Statuses.{carried}
use Rattle.cc_host.specs.Hosts.{State}
use Rattle.cc_c.proofs.collecting.cc_forget.Goals as goal

pub returns-clause-none_came : goal.returns-clause-none_came
returns-clause-none_came c = λ s t e f.
    carried (λ (a b : State). NoneComes a.host b.host) _ _ _ s t _ _
    c.deref_mut.ensures.value c.in-Some.ensures.taken e c.of.ensures f c.forget-answer.ensures.none_came

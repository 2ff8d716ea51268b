use Rattle.cc_host.specs.Calls.{Comes, NoneComes}
use Rattle.cc_c.specs.Values.{to_object}
use Rattle.cc_c.proofs.Statuses.{came_as, carried}
use Rattle.cc_host.specs.Hosts.{State}
use Rattle.cc_c.proofs.reflectors.cc_wrap.Goals as goal

pub returns-in-Ok-clause-came : goal.returns-in-Ok-clause-came
returns-in-Ok-clause-came c = λ _ s t e f. came_as (to_object c.show.result) c.in-Ok.x s t c.show.ensures.object
    (carried (λ (a b : State). Comes c.in-Ok.x.name a.host b.host) _ _ _ s t _ _
    c.deref_mut.ensures.value c.in-Some.ensures.taken e c.of.ensures f c.in-Ok.ensures.came)

pub returns-in-Err-clause-none_came : goal.returns-in-Err-clause-none_came
returns-in-Err-clause-none_came c = λ _ s t e f.
    carried (λ (a b : State). NoneComes a.host b.host) _ _ _ s t _ _
    c.deref_mut.ensures.value c.in-Some.ensures.taken e c.of.ensures f c.in-Err.ensures.none_came

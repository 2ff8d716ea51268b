use Rattle.cc_host.specs.Calls.{Comes, NoneComes}
use Rattle.cc_host.specs.declared.object.Object.{Object}
use Rattle.cc_host.specs.Stops.{stop_proxy}
use Rattle.cc_host.specs.Hosts.{State}
use Rattle.cc_c.specs.Values.{IsStatusOrWants, to_object}
use Rattle.cc_c.proofs.Statuses.{answered, both, came_as, carried, taken, wants-err}
use Rattle.cc_c.proofs.making.cc_new_proxy.Goals as goal

pub returns-in-Err-clause-stops : goal.returns-in-Err-clause-stops
returns-in-Err-clause-stops c = λ s t e f.
    answered IsStatusOrWants (λ (p : State × Object). stop_proxy p.0.host p.1 c.args.r)
    (c.deref_mut.result.now, c.object.result) (s, to_object c.args.delegate.now)
    c.in-Err.stop c.of_stop.result (wants-err _ _ _ c.in-Err.ensures.stops)
    (both _ _ _ _ (taken _ _ _ _ c.deref_mut.ensures.value c.in-Some.ensures.taken e) (c.object.ensures)) c.of_stop.ensures.number

pub returns-in-Ok-clause-came : goal.returns-in-Ok-clause-came
returns-in-Ok-clause-came c = λ _ s t e f. came_as (to_object c.show.result) c.in-Ok.x s t c.show.ensures.object
    (carried (λ (a b : State). Comes c.in-Ok.x.name a.host b.host) _ _ _ s t _ _
    c.deref_mut.ensures.value c.in-Some.ensures.taken e c.of.ensures f c.in-Ok.ensures.came)

pub returns-in-Err-clause-none_came : goal.returns-in-Err-clause-none_came
returns-in-Err-clause-none_came c = λ _ s t e f.
    carried (λ (a b : State). NoneComes a.host b.host) _ _ _ s t _ _
    c.deref_mut.ensures.value c.in-Some.ensures.taken e c.of.ensures f c.in-Err.ensures.none_came

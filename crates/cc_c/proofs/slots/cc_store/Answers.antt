use Rattle.cc_host.specs.Calls.{NoneComes}
use Rattle.std.specs.Prelude.{Option}
use Rattle.cc_host.specs.declared.object.Object.{Object}
use Rattle.cc_host.specs.Stops.{stop_storing}
use Rattle.cc_host.specs.Hosts.{State}
use Rattle.cc_c.specs.Values.{IsStatus, to_object, to_content}
use Rattle.cc_c.proofs.Statuses.{answered, both, carried, status-err, taken}
use Rattle.cc_c.proofs.slots.cc_store.Goals as goal

pub returns-in-Err-clause-stops : goal.returns-in-Err-clause-stops
returns-in-Err-clause-stops c = λ s t e f.
    answered IsStatus (λ (p : State × (Object × Option Object)). stop_storing p.0.host p.1.0 c.args.i p.1.1)
    (c.deref_mut.result.now, (c.object.result, c.content.result)) (s, (to_object c.args.x.now, to_content c.args.y.now))
    c.in-Err.stop c.of_stop.result (status-err _ _ _ c.in-Err.ensures.stops)
    (both _ _ _ _ (taken _ _ _ _ c.deref_mut.ensures.value c.in-Some.ensures.taken e) (both _ _ _ _ (c.object.ensures) (c.content.ensures))) c.of_stop.ensures.number

pub returns-in-Ok-clause-none_came : goal.returns-in-Ok-clause-none_came
returns-in-Ok-clause-none_came c = λ s t e f.
    carried (λ (a b : State). NoneComes a.host b.host) _ _ _ s t _ _
    c.deref_mut.ensures.value c.in-Some.ensures.taken e c.of.ensures f c.in-Ok.ensures.none_came

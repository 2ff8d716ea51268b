use Rattle.cc_host.specs.Calls.{NoneComes}
use Rattle.cc_host.specs.declared.object.Object.{Object}
use Rattle.cc_host.specs.Stops.{stop_moving}
use Rattle.cc_host.specs.Hosts.{State}
use Rattle.cc_c.specs.Values.{IsStatus, to_object}
use Rattle.cc_c.proofs.Statuses.{answered, both, carried, status-err, taken}
use Rattle.cc_c.proofs.slots.cc_move_slot.Goals as goal

pub returns-in-Err-clause-stops : goal.returns-in-Err-clause-stops
returns-in-Err-clause-stops c = λ s t e f.
    answered IsStatus (λ (p : State × (Object × Object)). stop_moving p.0.host p.1.0 c.args.i p.1.1 c.args.j)
    (c.deref_mut.result.now, (c.object.result, c.object-2.result)) (s, (to_object c.args.to.now, to_object c.args.from.now))
    c.in-Err.stop c.of_stop.result (status-err _ _ _ c.in-Err.ensures.stops)
    (both _ _ _ _ (taken _ _ _ _ c.deref_mut.ensures.value c.in-Some.ensures.taken e) (both _ _ _ _ (c.object.ensures) (c.object-2.ensures))) c.of_stop.ensures.number

pub returns-in-Ok-clause-none_came : goal.returns-in-Ok-clause-none_came
returns-in-Ok-clause-none_came c = λ s t e f.
    carried (λ (a b : State). NoneComes a.host b.host) _ _ _ s t _ _
    c.deref_mut.ensures.value c.in-Some.ensures.taken e c.of.ensures f c.in-Ok.ensures.none_came

use Rattle.cc_host.specs.Calls.{NoneComes}
use Rattle.cc_host.specs.declared.object.Object.{Object}
use Rattle.cc_host.specs.Stops.{stop_setting}
use Rattle.cc_host.specs.Hosts.{State}
use Rattle.cc_c.specs.Values.{IsStatusOrRefused, to_object}
use Rattle.cc_c.proofs.Statuses.{answered, both, carried, refused-err, taken}
use Rattle.cc_c.proofs.entries.cc_set_entry.Goals as goal

pub returns-in-Err-clause-stops : goal.returns-in-Err-clause-stops
returns-in-Err-clause-stops c = λ s t e f.
    answered IsStatusOrRefused (λ (p : State × (Object × (Object × Object))). stop_setting p.0.host p.1.0 p.1.1.0 p.1.1.1)
    (c.deref_mut.result.now, (c.object.result, (c.object-2.result, c.object-3.result))) (s, (to_object c.args.the_map.now, (to_object c.args.key.now, to_object c.args.value.now)))
    c.in-Err.stop c.of_stop.result (refused-err _ _ _ c.in-Err.ensures.stops)
    (both _ _ _ _ (taken _ _ _ _ c.deref_mut.ensures.value c.in-Some.ensures.taken e) (both _ _ _ _ (c.object.ensures) (both _ _ _ _ (c.object-2.ensures) (c.object-3.ensures)))) c.of_stop.ensures.number

pub returns-in-Ok-clause-none_came : goal.returns-in-Ok-clause-none_came
returns-in-Ok-clause-none_came c = λ s t e f.
    carried (λ (a b : State). NoneComes a.host b.host) _ _ _ s t _ _
    c.deref_mut.ensures.value c.in-Some.ensures.taken e c.of.ensures f c.in-Ok.ensures.none_came

pub returns-in-Err-clause-none_came : goal.returns-in-Err-clause-none_came
returns-in-Err-clause-none_came c = λ s t e f.
    carried (λ (a b : State). NoneComes a.host b.host) _ _ _ s t _ _
    c.deref_mut.ensures.value c.in-Some.ensures.taken e c.of.ensures f c.in-Err.ensures.none_came

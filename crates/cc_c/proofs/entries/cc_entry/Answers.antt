use Rattle.cc_host.specs.declared.object.Object.{Object}
use Rattle.cc_host.specs.Stops.{stop_entry}
use Rattle.cc_host.specs.Hosts.{State}
use Rattle.cc_c.specs.Values.{IsStatus, to_object}
use Rattle.cc_c.proofs.Statuses.{answered, both, status-err, taken}
use Rattle.cc_c.proofs.entries.cc_entry.Goals as goal

pub returns-in-Err-clause-stops : goal.returns-in-Err-clause-stops
returns-in-Err-clause-stops c = λ s e.
    answered IsStatus (λ (p : State × (Object × Object)). stop_entry p.0.host p.1.0 p.1.1)
    (c.deref.result.now, (c.object.result, c.object-2.result)) (s, (to_object c.args.the_map.now, to_object c.args.key.now))
    c.in-Err.stop c.of_stop.result (status-err _ _ _ c.in-Err.ensures.stops)
    (both _ _ _ _ (taken _ _ _ _ c.deref.ensures c.in-Some.ensures.taken e) (both _ _ _ _ (c.object.ensures) (c.object-2.ensures))) c.of_stop.ensures.number

use Rattle.cc_host.specs.Missing.{KeepsDoomed, KeepsDoomedBut}
use Rattle.cc_host.proofs.NextReach.{brought-out, empty-used, leads-out}
use Rattle.cc_host.proofs.NextCalls.{still_ended, still_have}
use Rattle.cc_host.proofs.next.what_was_unlinked_goes_at_the_next_gc.Goals as goal

pub returns-clause-starts : goal.returns-clause-starts
returns-clause-starts c = λ limits h is. empty-used limits h is

pub returns-clause-does : goal.returns-clause-does
unfolding KeepsDoomed
returns-clause-does c = λ change old new does k.
    let d = does.doomed tt in
    let u = k.unlinked in
    record {
      graph = let s = does.stands tt k.graph.0 k.graph.1 k.graph.2 in (change k.graph.0, s.0, s.1);
      unlinked = record { names = u.names; out_of_reach = d.1 u.names u.out_of_reach; unlinked = still_have old.heaps.heap new.heaps.heap u.names d.3 u.unlinked };
    }

pub returns-clause-brings : goal.returns-clause-brings
unfolding KeepsDoomedBut
returns-clause-brings c = λ x change old new brings k.
    let d = brings.doomed in
    let u = k.unlinked in
    record {
      graph = let s = brings.stands k.graph.0 k.graph.1 k.graph.2 in (change k.graph.0, s.0, s.1);
      unlinked = record {
        names = u.names;
        out_of_reach = d.1 u.names (brought-out old.heaps.heap u.names u.out_of_reach x brings.held) u.out_of_reach;
        unlinked = still_have old.heaps.heap new.heaps.heap u.names d.3 u.unlinked;
      };
    }

pub returns-clause-tries : goal.returns-clause-tries
unfolding KeepsDoomed
returns-clause-tries c = λ old new tries k.
    let d = tries.doomed tt in
    let u = k.unlinked in
    record {
      graph = (k.graph.0, k.graph.1, tries.stands k.graph.0 k.graph.1 k.graph.2);
      unlinked = record { names = u.names; out_of_reach = d.1 u.names u.out_of_reach; unlinked = still_have old.heaps.heap new.heaps.heap u.names d.3 u.unlinked };
    }

pub returns-clause-collects : goal.returns-clause-collects
returns-clause-collects c = λ old new before after collects k. collects.used k

pub returns-clause-leads : goal.returns-clause-leads
returns-clause-leads c = λ h o x l. leads-out h o x l

pub returns-clause-does_so : goal.returns-clause-does_so
unfolding KeepsDoomed
returns-clause-does_so c = λ change old new does.
    let d = does.doomed tt in
    record { out_of_reach = d.1; ended = still_ended old.heaps.heap new.heaps.heap d.3 }

pub returns-clause-brings_so : goal.returns-clause-brings_so
unfolding KeepsDoomedBut
returns-clause-brings_so c = λ x change old new brings.
    let d = brings.doomed in
    record { out_of_reach = λ ds o. d.1 ds (brought-out old.heaps.heap ds o x brings.held) o; ended = still_ended old.heaps.heap new.heaps.heap d.3 }

pub returns-clause-tries_so : goal.returns-clause-tries_so
unfolding KeepsDoomed
returns-clause-tries_so c = λ old new tries.
    let d = tries.doomed tt in
    record { out_of_reach = d.1; ended = still_ended old.heaps.heap new.heaps.heap d.3 }

pub returns-clause-collects_so : goal.returns-clause-collects_so
returns-clause-collects_so c = λ old new before after collects. collects.unlinked

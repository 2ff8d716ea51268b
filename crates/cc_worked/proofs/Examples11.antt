-- WORKED EXAMPLES, part 11: what each writes, and that its run is lawful, quiet and passes the audit.
-- Made by tools/worked_examples.py from examples/worked.txt.
use Rattle.std.specs.Prelude.{codes, refl}
use Rattle.cc_worked.specs.Examples.{default_limits, refused_at}
use Rattle.cc_worked.specs.Inputs as input
use Rattle.cc_worked.specs.Works.{Works}
use Rattle.cc_worked.proofs.Opened.{all_of_a_run}

-- A collection whose begin is refused memory is abandoned, and nothing is forgotten.
pub collect_refused_at_its_begin : Works default_limits (refused_at 2) input.collect_refused_at_its_begin
    (codes "= #1\n= ok\n= ok\n- abandon\n! nomem\n= ok\n- unlink #1\n- free #1\n= ok\n= ok\n= census 0\n")
unfolding all_of_a_run
collect_refused_at_its_begin = record { writes = refl; passes = refl; audited = refl }

-- A collection whose first node is refused memory is abandoned, and its candidate comes back.
pub collect_refused_at_a_node : Works default_limits (refused_at 3) input.collect_refused_at_a_node
    (codes "= #1\n= ok\n= ok\n- abandon\n! nomem\n= ok\n- unlink #1\n- free #1\n= ok\n= ok\n= census 0\n")
unfolding all_of_a_run
collect_refused_at_a_node = record { writes = refl; passes = refl; audited = refl }

-- A candidate that is freed before its collection is abandoned does not come back with the others, so the next collection takes three units.
pub freed_candidate_does_not_come_back : Works default_limits (refused_at 4) input.freed_candidate_does_not_come_back
    (codes "= #1\n= #1\n= ok\n= #2\n= ok\n= ok\n= ok\n- free #1\n= ok\n- abandon\n! nomem\n= ok\n- unlink #2\n- free #2\n= ok\n= census 0\n")
unfolding all_of_a_run
freed_candidate_does_not_come_back = record { writes = refl; passes = refl; audited = refl }

-- A collect that is refused memory while it ends the collection that runs begins no other, and the next one takes all.
pub collect_stops_where_the_running_one_is_refused : Works default_limits (refused_at 3) input.collect_stops_where_the_running_one_is_refused
    (codes "= #1\n= ok\n= ok\n= ok\n- abandon\n! nomem\n- unlink #1\n- free #1\n= ok\n")
unfolding all_of_a_run
collect_stops_where_the_running_one_is_refused = record { writes = refl; passes = refl; audited = refl }

-- A collect that is refused memory in its own collection has ended the one that ran.
pub collect_refused_in_its_own : Works default_limits (refused_at 5) input.collect_refused_in_its_own
    (codes "= #1\n= ok\n= ok\n= ok\n= #2\n= ok\n= ok\n- unlink #1\n- free #1\n- abandon\n! nomem\n- unlink #2\n- free #2\n= ok\n")
unfolding all_of_a_run
collect_refused_in_its_own = record { writes = refl; passes = refl; audited = refl }

-- Gc abandons a collection that is refused memory, says so first, and sweeps all the same.
pub gc_goes_on_where_the_running_one_is_refused : Works default_limits (refused_at 4) input.gc_goes_on_where_the_running_one_is_refused
    (codes "= #1\n= ok\n= ok\n= @1\n= ok\n= ok\n- abandon\n- free @1\n= ok\n- unlink #1\n- free #1\n= ok\n")
unfolding all_of_a_run
gc_goes_on_where_the_running_one_is_refused = record { writes = refl; passes = refl; audited = refl }

-- A weak map is not made where memory is refused, and the next one gets the number.
pub weak_map_takes_memory : Works default_limits (refused_at 1) input.weak_map_takes_memory
    (codes "! nomem\n= census 0\n= @1\n")
unfolding all_of_a_run
weak_map_takes_memory = record { writes = refl; passes = refl; audited = refl }

-- A new entry that is refused memory is not there, and its key is not preserved: a blank reflector is swept, though its native lives.
pub refused_entry_preserves_nothing : Works default_limits (refused_at 5) input.refused_entry_preserves_nothing
    (codes "= #1\n= ~1\n= @1\n= @2\n! nomem\n= none\n= ok\n- free ~1\n= ok\n= ~1\n= none\n= ok\n= @2\n= ok\n= ok\n= ~1\n= @2\n")
unfolding all_of_a_run
refused_entry_preserves_nothing = record { writes = refl; passes = refl; audited = refl }

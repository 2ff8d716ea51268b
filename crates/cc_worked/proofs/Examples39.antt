-- WORKED EXAMPLES, part 39: what each writes, and that its run is lawful, quiet and passes the audit.
-- Made by tools/worked_examples.py from examples/worked.txt.
use Rattle.std.specs.Prelude.{codes, refl}
use Rattle.cc_worked.specs.Examples.{default_limits, ample, refused_at}
use Rattle.cc_worked.specs.Inputs as input
use Rattle.cc_worked.specs.Works.{Works}
use Rattle.cc_worked.proofs.Opened.{all_of_a_run}

-- A collect ends the marking that goes on, which frees what has no mark, and then a collection is whole.
pub collect_ends_a_marking_first : Works default_limits ample input.collect_ends_a_marking_first
    (codes "= ok\n= @1\n= ok\n= ok\n= #1\n= ok\n= ok\n= ok\n- free @1\n- unlink #1\n- free #1\n= ok\n= census 0\n")
unfolding all_of_a_run
collect_ends_a_marking_first = record { writes = refl; passes = refl; audited = refl }

-- A slice of three units is a whole collection of a native that holds itself, whatever is left to scan.
pub marking_ends_outside_the_units_of_a_slice : Works default_limits ample input.marking_ends_outside_the_units_of_a_slice
    (codes "= ok\n= #1\n= ok\n= ok\n= @1\n= @2\n= @3\n= ok\n= ok\n= ok\n= ok\n= ok\n= ok\n- unlink #1\n- free #1\n= ok\n")
unfolding all_of_a_run
marking_ends_outside_the_units_of_a_slice = record { writes = refl; passes = refl; audited = refl }

-- A mark ends the collection that runs before its units.
pub mark_ends_a_running_collection : Works default_limits ample input.mark_ends_a_running_collection
    (codes "= ok\n= #1\n= ok\n= ok\n= @1\n= ok\n= ok\n- unlink #1\n- free #1\n= ok\n- free @1\n= ok\n= census 0\n")
unfolding all_of_a_run
mark_ends_a_running_collection = record { writes = refl; passes = refl; audited = refl }

-- A mark whose running collection is refused memory abandons it, and does its units all the same.
pub mark_with_a_refused_collection : Works default_limits (refused_at 5) input.mark_with_a_refused_collection
    (codes "= ok\n= #1\n= ok\n= #2\n= ok\n= ok\n= ok\n= @1\n= ok\n= ok\n- abandon\n- free @1\n= ok\n+ #1\n+ #2\n= census 2\n= ok\n+ #1\n+ #2\n= census 2\n")
unfolding all_of_a_run
mark_with_a_refused_collection = record { writes = refl; passes = refl; audited = refl }

-- Units of a marking are no wish for memory: the third one is that of the second native.
pub mark_takes_no_memory : Works default_limits (refused_at 3) input.mark_takes_no_memory
    (codes "= ok\n= #1\n= @1\n= ok\n= ok\n! nomem\n- free @1\n= ok\n= #2\n")
unfolding all_of_a_run
mark_takes_no_memory = record { writes = refl; passes = refl; audited = refl }

-- A slice that is refused memory has ended the marking before, and what that freed stays freed.
pub slice_ends_a_marking_and_is_refused : Works default_limits (refused_at 3) input.slice_ends_a_marking_and_is_refused
    (codes "= ok\n= #1\n= ok\n= ok\n= @1\n= ok\n= ok\n- free @1\n- abandon\n! nomem\n+ #1\n= census 1\n- unlink #1\n- free #1\n= ok\n")
unfolding all_of_a_run
slice_ends_a_marking_and_is_refused = record { writes = refl; passes = refl; audited = refl }

-- A collect that is refused memory has ended the marking before: a reflector and its native are freed, and a cycle stays.
pub collect_ends_a_marking_and_is_refused : Works default_limits (refused_at 4) input.collect_ends_a_marking_and_is_refused
    (codes "= ok\n= #1\n= ok\n= ok\n= #2\n= ~2\n= ok\n= ok\n- free ~2\n- free #2\n= ok\n- abandon\n! nomem\n+ #1\n= census 1\n- unlink #1\n- free #1\n= ok\n= census 0\n")
unfolding all_of_a_run
collect_ends_a_marking_and_is_refused = record { writes = refl; passes = refl; audited = refl }

-- A script object that is read from a native that a weak register brought back is exposed, and kept.
pub marking_beside_weak_registers : Works default_limits ample input.marking_beside_weak_registers
    (codes "= ok\n= #1\n= ok\n= @1\n= @2\n= ok\n= ok\n= #1\n= ok\n= ok\n= ok\n= ok\n= #1\n= @1\n= ok\n= ok\n= ok\n- unlink #1\n- free #1\n= ok\n+ @1\n+ @2\n= census 2\n= ok\n- free @1\n- free @2\n= ok\n")
unfolding all_of_a_run
marking_beside_weak_registers = record { writes = refl; passes = refl; audited = refl }

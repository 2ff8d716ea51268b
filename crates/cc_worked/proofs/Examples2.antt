-- WORKED EXAMPLES, part 2: what each writes, and that its run is lawful, quiet and passes the audit.
-- Made by tools/worked_examples.py from examples/worked.txt.
use Rattle.std.specs.Prelude.{codes, refl}
use Rattle.cc_worked.specs.Examples.{default_limits, ample}
use Rattle.cc_worked.specs.Inputs as input
use Rattle.cc_worked.specs.Works.{Works}
use Rattle.cc_worked.proofs.Opened.{all_of_a_run}

-- White natives are taken by rising number, also where the collection came to the later one first.
pub whites_are_taken_by_rising_number : Works default_limits ample input.whites_are_taken_by_rising_number
    (codes "= #1\n= #2\n= ok\n= ok\n= ok\n= ok\n= ok\n- unlink #1\n- unlink #2\n- free #1\n- free #2\n= ok\n")
unfolding all_of_a_run
whites_are_taken_by_rising_number = record { writes = refl; passes = refl; audited = refl }

-- A native whose last reference is given up goes to the end of the queue: what the first one held is freed before what the second one held.
pub freed_natives_queue_up : Works default_limits ample input.freed_natives_queue_up
    (codes "= #1\n= #2\n= #3\n= #4\n= ok\n= ok\n= ok\n= ok\n= ok\n= ok\n- free #1\n- free #2\n- free #3\n- free #4\n= ok\n")
unfolding all_of_a_run
freed_natives_queue_up = record { writes = refl; passes = refl; audited = refl }

-- A freed native gives up its slots in rising order, so of two chains that it holds the one in its first slot goes first, link by link with the other.
pub slots_are_given_up_in_rising_order : Works default_limits ample input.slots_are_given_up_in_rising_order
    (codes "= #1\n= #2\n= #3\n= #4\n= #5\n= ok\n= ok\n= ok\n= ok\n= ok\n= ok\n= ok\n= ok\n- free #1\n- free #5\n- free #2\n- free #3\n- free #4\n= ok\n")
unfolding all_of_a_run
slots_are_given_up_in_rising_order = record { writes = refl; passes = refl; audited = refl }

-- What a register holds is copied, and an object is kept as long as one register holds it; an empty register is copied and emptied too.
pub registers_are_copied_and_emptied : Works default_limits ample input.registers_are_copied_and_emptied
    (codes "= #1\n= @1\n= #1\n= @1\n= ok\n= ok\n= ok\n= none\n- free #1\n= ok\n= ok\n- free @1\n= ok\n")
unfolding all_of_a_run
registers_are_copied_and_emptied = record { writes = refl; passes = refl; audited = refl }

-- A collection after one that ended takes what became garbage since, and one that finds nothing tells nothing.
pub collections_follow_each_other : Works default_limits ample input.collections_follow_each_other
    (codes "= #1\n= #2\n= ok\n= ok\n= ok\n= ok\n- unlink #1\n- unlink #2\n- free #1\n- free #2\n= ok\n= ok\n= #3\n= #4\n= ok\n= ok\n= #5\n= ok\n= ok\n= ok\n= ok\n- unlink #3\n- unlink #4\n- unlink #5\n- free #3\n- free #4\n- free #5\n= ok\n= census 0\n")
unfolding all_of_a_run
collections_follow_each_other = record { writes = refl; passes = refl; audited = refl }

-- A slot of a script object is written, emptied and read, and what is refused meanwhile leaves it.
pub script_slots_are_written_and_read : Works default_limits ample input.script_slots_are_written_and_read
    (codes "= @1\n= @2\n= ok\n= @2\n= none\n= ok\n= none\n! slot\n! empty\n! empty\n! empty\n+ @1\n+ @2\n= census 2\n")
unfolding all_of_a_run
script_slots_are_written_and_read = record { writes = refl; passes = refl; audited = refl }

-- A slot is not emptied by writing what an empty register holds.
pub empty_source_of_put_is_refused : Works default_limits ample input.empty_source_of_put_is_refused
    (codes "= @1\n= @2\n= ok\n! empty\n= @2\n")
unfolding all_of_a_run
empty_source_of_put_is_refused = record { writes = refl; passes = refl; audited = refl }

-- A native is not read into a script register nor exposed, and a script object not read into a native register.
pub wrong_kinds_in_slots : Works default_limits ample input.wrong_kinds_in_slots
    (codes "= #1\n= #2\n= @1\n= ok\n= ok\n! kind\n! kind\n! slot\n! kind\n= @1\n! slot\n! empty\n")
unfolding all_of_a_run
wrong_kinds_in_slots = record { writes = refl; passes = refl; audited = refl }

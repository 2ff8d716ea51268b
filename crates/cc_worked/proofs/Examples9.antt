-- WORKED EXAMPLES, part 9: what each writes, and that its run is lawful, quiet and passes the audit.
-- Made by tools/worked_examples.py from examples/worked.txt.
use Rattle.std.specs.Prelude.{codes, refl}
use Rattle.cc_worked.specs.Examples.{default_limits, ample}
use Rattle.cc_worked.specs.Inputs as input
use Rattle.cc_worked.specs.Works.{Works}
use Rattle.cc_worked.proofs.Opened.{all_of_a_run}

-- An entry that was taken out and set again goes last, so its members are looked at after those of an entry that was set in between.
pub entry_set_again_goes_last : Works default_limits ample input.entry_set_again_goes_last
    (codes "= #1\n= @1\n= @2\n= @3\n= @4\n= ok\n= ok\n= ok\n= ok\n= ok\n= ok\n= ok\n= ok\n= ok\n= ok\n= #2\n= ok\n= ok\n= ok\n= ok\n= @3\n= ok\n- unlink #2\n- free #2\n= ok\n")
unfolding all_of_a_run
entry_set_again_goes_last = record { writes = refl; passes = refl; audited = refl }

-- Collect ends the collection that runs and begins another, which takes what became garbage in between.
pub collect_begins_one_of_its_own : Works default_limits ample input.collect_begins_one_of_its_own
    (codes "= #1\n= ok\n= ok\n= ok\n- unlink #1\n- free #1\n= ok\n")
unfolding all_of_a_run
collect_begins_one_of_its_own = record { writes = refl; passes = refl; audited = refl }

-- The numbers of what a collect unlinks begin anew where it has ended the collection that ran, and runs one of its own.
pub collect_ends_one_and_takes_more_in_its_own : Works default_limits ample input.collect_ends_one_and_takes_more_in_its_own
    (codes "= #1\n= ok\n= #2\n= ok\n= ok\n= ok\n= ok\n- unlink #2\n- free #2\n- unlink #1\n- free #1\n= ok\n")
unfolding all_of_a_run
collect_ends_one_and_takes_more_in_its_own = record { writes = refl; passes = refl; audited = refl }

-- A native that was touched while a collection ran waits for the next one.
pub touched_between_slices : Works default_limits ample input.touched_between_slices
    (codes "= #1\n= ok\n= #1\n= ok\n= ok\n= #1\n= ok\n= ok\n= ok\n- unlink #1\n- free #1\n= ok\n")
unfolding all_of_a_run
touched_between_slices = record { writes = refl; passes = refl; audited = refl }

-- What script read from a native while a collection ran keeps what it holds.
pub read_between_slices : Works default_limits ample input.read_between_slices
    (codes "= #1\n= @1\n= @2\n= ok\n= ok\n= ok\n= ok\n= ok\n= ok\n= @1\n= ok\n= ok\n= @2\n")
unfolding all_of_a_run
read_between_slices = record { writes = refl; passes = refl; audited = refl }

-- A native lives by its reflector, which script touched while the collection ran.
pub native_lives_by_an_exposed_reflector : Works default_limits ample input.native_lives_by_an_exposed_reflector
    (codes "= #1\n= #2\n= #3\n= ~2\n= ok\n= ok\n= ok\n= ok\n= ok\n= ok\n= ok\n= ok\n= ~2\n= ok\n- unlink #3\n- free #3\n= ok\n= #2\n")
unfolding all_of_a_run
native_lives_by_an_exposed_reflector = record { writes = refl; passes = refl; audited = refl }

-- A native that gets a reference after it was sampled is touched, so it is not looked at with an old count.
pub copied_after_its_node_was_traversed : Works default_limits ample input.copied_after_its_node_was_traversed
    (codes "= #1\n= ok\n= #1\n= ok\n= ok\n= #1\n= ok\n= ok\n= ok\n- unlink #1\n- free #1\n= ok\n")
unfolding all_of_a_run
copied_after_its_node_was_traversed = record { writes = refl; passes = refl; audited = refl }

-- A native that was looked at and is freed before the end counts as it was sampled: it was held, so this collection keeps what it led to.
pub freed_after_its_node_was_traversed : Works default_limits ample input.freed_after_its_node_was_traversed
    (codes "= #1\n= ~1\n= #2\n= ok\n= ok\n= ok\n= ok\n= ok\n- free #2\n= ok\n= ok\n- free ~1\n- free #1\n= ok\n= census 0\n")
unfolding all_of_a_run
freed_after_its_node_was_traversed = record { writes = refl; passes = refl; audited = refl }

-- WORKED EXAMPLES, part 24: what each writes, and that its run is lawful, quiet and passes the audit.
-- Made by tools/worked_examples.py from examples/worked.txt.
use Rattle.std.specs.Prelude.{codes, refl}
use Rattle.cc_worked.specs.Examples.{default_limits, ample, refused_at}
use Rattle.cc_worked.specs.Inputs as input
use Rattle.cc_worked.specs.Works.{Works}
use Rattle.cc_worked.proofs.Opened.{all_of_a_run}

-- A native that a refused move would have moved is suspected still: the collection has two nodes and takes four units.
pub refused_move_touches_nothing : Works default_limits ample input.refused_move_touches_nothing
    (codes "= ok\n= #1\n= #2\n= ok\n= ok\n= #3\n= ok\n= ok\n! slot\n= ok\n- unlink #3\n- free #3\n= ok\n")
unfolding all_of_a_run
refused_move_touches_nothing = record { writes = refl; passes = refl; audited = refl }

-- References that move from a traversed native to one that is not are noted twice, and nothing that a register reaches is unlinked.
pub moved_to_a_native_that_is_yet_to_be_traversed : Works default_limits ample input.moved_to_a_native_that_is_yet_to_be_traversed
    (codes "= ok\n= #1\n= #2\n= ok\n= ok\n= #1\n= ok\n= #2\n= ok\n= ok\n= #2\n= #1\n= ok\n= #2\n= #1\n+ #1\n+ #2\n= census 2\n= ok\n= ok\n= ok\n= ok\n- unlink #1\n- unlink #2\n- free #1\n- free #2\n= ok\n")
unfolding all_of_a_run
moved_to_a_native_that_is_yet_to_be_traversed = record { writes = refl; passes = refl; audited = refl }

-- References that move from a native that is yet to be traversed to one that was are noted nowhere, and nothing is unlinked.
pub moved_to_a_native_that_was_traversed : Works default_limits ample input.moved_to_a_native_that_was_traversed
    (codes "= ok\n= #1\n= #2\n= ok\n= ok\n= #1\n= ok\n= #2\n= ok\n= ok\n= #1\n= #2\n= ok\n= #1\n= #2\n+ #1\n+ #2\n= census 2\n= ok\n= ok\n= ok\n= ok\n- unlink #1\n- unlink #2\n- free #1\n- free #2\n= ok\n")
unfolding all_of_a_run
moved_to_a_native_that_was_traversed = record { writes = refl; passes = refl; audited = refl }

-- References that were noted twice move back, and nothing that a register reaches is unlinked.
pub moved_forth_and_back_between_slices : Works default_limits ample input.moved_forth_and_back_between_slices
    (codes "= ok\n= #1\n= #2\n= ok\n= ok\n= #1\n= ok\n= #2\n= ok\n= ok\n= #2\n= #1\n= ok\n= #2\n= #1\n= ok\n= #2\n= #1\n")
unfolding all_of_a_run
moved_forth_and_back_between_slices = record { writes = refl; passes = refl; audited = refl }

-- The only reference to a native moves from a traversed native to one that is not, and the native is kept.
pub only_reference_moves_behind_its_node : Works default_limits ample input.only_reference_moves_behind_its_node
    (codes "= ok\n= #1\n= #2\n= #3\n= ok\n= #1\n= ok\n= #2\n= ok\n= ok\n= ok\n= #3\n= ok\n= ok\n= #3\n+ #1\n+ #2\n+ #3\n= census 3\n")
unfolding all_of_a_run
only_reference_moves_behind_its_node = record { writes = refl; passes = refl; audited = refl }

-- The only reference to a native moves from a native that is yet to be traversed to one that was, and the native is kept.
pub only_reference_moves_before_its_node : Works default_limits ample input.only_reference_moves_before_its_node
    (codes "= ok\n= #1\n= #2\n= #3\n= ok\n= #1\n= ok\n= #2\n= ok\n= ok\n= ok\n= #3\n= ok\n= ok\n= #3\n+ #1\n+ #2\n+ #3\n= census 3\n")
unfolding all_of_a_run
only_reference_moves_before_its_node = record { writes = refl; passes = refl; audited = refl }

-- A candidate that moved is suspected again when the collection is abandoned: the next one has two nodes and takes four units.
pub abandonment_suspects_a_moved_candidate : Works default_limits (refused_at 6) input.abandonment_suspects_a_moved_candidate
    (codes "= ok\n= #1\n= #2\n= #3\n= ok\n= ok\n= ok\n= #4\n= ok\n= ok\n= ok\n= #3\n- abandon\n! nomem\n= ok\n- unlink #4\n- free #4\n= ok\n")
unfolding all_of_a_run
abandonment_suspects_a_moved_candidate = record { writes = refl; passes = refl; audited = refl }

-- A move is done where the next wish for memory is refused.
pub move_takes_no_memory : Works default_limits (refused_at 3) input.move_takes_no_memory
    (codes "= ok\n= #1\n= #2\n= ok\n= #2\n! nomem\n")
unfolding all_of_a_run
move_takes_no_memory = record { writes = refl; passes = refl; audited = refl }

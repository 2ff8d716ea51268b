-- WORKED EXAMPLES, part 23: what each writes, and that its run is lawful, quiet and passes the audit.
-- Made by tools/worked_examples.py from examples/worked.txt.
use Rattle.std.specs.Prelude.{codes, refl}
use Rattle.cc_worked.specs.Examples.{default_limits, ample}
use Rattle.cc_worked.specs.Inputs as input
use Rattle.cc_worked.specs.Works.{Works}
use Rattle.cc_worked.proofs.Opened.{all_of_a_run}

-- A native that moves onto itself in another slot is held by one slot then.
pub move_onto_a_slot_that_holds_it : Works default_limits ample input.move_onto_a_slot_that_holds_it
    (codes "= ok\n= #1\n= #2\n= ok\n= ok\n= ok\n= #2\n= none\n- free #2\n= ok\n")
unfolding all_of_a_run
move_onto_a_slot_that_holds_it = record { writes = refl; passes = refl; audited = refl }

-- Script objects of each kind move, onto natives too, and a native moves onto a script object.
pub all_kinds_of_objects_move : Works default_limits ample input.all_kinds_of_objects_move
    (codes "= ok\n= #1\n= #2\n= #3\n= @1\n= @2\n= @3\n= ~2\n= ok\n= ok\n= ok\n- free #3\n= @1\n! kind\n= ok\n= @2\n= ok\n= @3\n= ok\n= ~2\n= ~2\n= ok\n= #1\n! kind\n")
unfolding all_of_a_run
all_kinds_of_objects_move = record { writes = refl; passes = refl; audited = refl }

-- Both registers hold natives before a slot is asked for, and both slots are there before anything moves.
pub refused_moves_in_their_order : Works default_limits ample input.refused_moves_in_their_order
    (codes "= ok\n= #1\n= #2\n= ok\n! empty\n! empty\n! empty\n! empty\n! slot\n! slot\n! slot\n! line\n= #1\n")
unfolding all_of_a_run
refused_moves_in_their_order = record { writes = refl; passes = refl; audited = refl }

-- A move has a native register and a slot for each of its places, and nothing else.
pub forms_of_moves_are_few : Works default_limits ample input.forms_of_moves_are_few
    (codes "= ok\n! line\n! line\n! line\n! line\n! line\n! line\n! line\n! line\n! line\n! line\n! line\n! line\n! line\n! line\n! line\n! line\n! line\n! empty\n")
unfolding all_of_a_run
forms_of_moves_are_few = record { writes = refl; passes = refl; audited = refl }

-- A collection takes a native that only itself holds, when a move made the slot give it up.
pub native_given_up_by_a_move_is_suspected : Works default_limits ample input.native_given_up_by_a_move_is_suspected
    (codes "= ok\n= #1\n= #2\n= #3\n= ok\n= ok\n= ok\n= ok\n= none\n- unlink #3\n- free #3\n= ok\n")
unfolding all_of_a_run
native_given_up_by_a_move_is_suspected = record { writes = refl; passes = refl; audited = refl }

-- A move puts the native into the buffer without the purple mark: the collection has one node and takes three units.
pub moved_native_is_no_candidate : Works default_limits ample input.moved_native_is_no_candidate
    (codes "= ok\n= #1\n= #2\n= #3\n= ok\n= ok\n= ok\n= #4\n= ok\n= ok\n= #3\n- unlink #4\n- free #4\n= ok\n")
unfolding all_of_a_run
moved_native_is_no_candidate = record { writes = refl; passes = refl; audited = refl }

-- A native that was suspected is no longer, when it moves: the collection has one node and takes three units.
pub move_ends_purple : Works default_limits ample input.move_ends_purple
    (codes "= ok\n= #1\n= #2\n= #3\n= ok\n= ok\n= #4\n= ok\n= ok\n= #3\n- unlink #4\n- free #4\n= ok\n")
unfolding all_of_a_run
move_ends_purple = record { writes = refl; passes = refl; audited = refl }

-- A native that moves to where it is comes into the buffer as any other that moves.
pub move_onto_its_own_place_ends_purple : Works default_limits ample input.move_onto_its_own_place_ends_purple
    (codes "= ok\n= #1\n= #2\n= ok\n= ok\n= #3\n= ok\n= ok\n= #2\n- unlink #3\n- free #3\n= ok\n")
unfolding all_of_a_run
move_onto_its_own_place_ends_purple = record { writes = refl; passes = refl; audited = refl }

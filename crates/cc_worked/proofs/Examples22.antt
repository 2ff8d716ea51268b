-- WORKED EXAMPLES, part 22: what each writes, and that its run is lawful, quiet and passes the audit.
-- Made by tools/worked_examples.py from examples/worked.txt.
use Rattle.std.specs.Prelude.{codes, refl}
use Rattle.cc_worked.specs.Examples.{default_limits, ample}
use Rattle.cc_worked.specs.Inputs as input
use Rattle.cc_worked.specs.Works.{Works}
use Rattle.cc_worked.proofs.Opened.{all_of_a_run}

-- A freed native gives up its slots above 63 as the others, in rising order.
pub slots_above_63_are_given_up_in_rising_order : Works default_limits ample input.slots_above_63_are_given_up_in_rising_order
    (codes "= ok\n= #1\n= #2\n= #3\n= #4\n= ok\n= ok\n= ok\n= ok\n= ok\n= ok\n- free #1\n- free #4\n- free #3\n- free #2\n= ok\n")
unfolding all_of_a_run
slots_above_63_are_given_up_in_rising_order = record { writes = refl; passes = refl; audited = refl }

-- A cycle through both heaps is collected, where it goes through the last slot of a native and of a script object.
pub last_slots_are_looked_at : Works default_limits ample input.last_slots_are_looked_at
    (codes "= ok\n= #1\n= @1\n= ~1\n= ok\n= ok\n= ok\n= ok\n= ok\n= ok\n- unlink #1\n= ok\n- free @1\n- free ~1\n- free #1\n= ok\n")
unfolding all_of_a_run
last_slots_are_looked_at = record { writes = refl; passes = refl; audited = refl }

-- What the last slot of the last register's native holds is moved, and its slot is empty then.
pub last_register_and_last_slot_move : Works default_limits ample input.last_register_and_last_slot_move
    (codes "= ok\n= #1\n= ok\n! line\n! line\n! line\n= #2\n= #1\n= #1\n= none\n")
unfolding all_of_a_run
last_register_and_last_slot_move = record { writes = refl; passes = refl; audited = refl }

-- A native that moves is freed when the slot that it moved to lets it go, and not before.
pub move_changes_no_count : Works default_limits ample input.move_changes_no_count
    (codes "= ok\n= #1\n= #2\n= #3\n= ok\n= ok\n= #3\n= #3\n= none\n- free #2\n= ok\n= #3\n= ok\n- free #3\n= ok\n- free #1\n= ok\n")
unfolding all_of_a_run
move_changes_no_count = record { writes = refl; passes = refl; audited = refl }

-- The slot that a native moves to gives up what it held, with all that this alone held.
pub move_gives_up_what_the_slot_held : Works default_limits ample input.move_gives_up_what_the_slot_held
    (codes "= ok\n= #1\n= #2\n= #3\n= #4\n= ok\n= ok\n= ok\n= ok\n= #5\n= ok\n= ok\n- free #3\n- free #4\n= #5\n= #5\n= none\n")
unfolding all_of_a_run
move_gives_up_what_the_slot_held = record { writes = refl; passes = refl; audited = refl }

-- Where there is nothing to move, the slot that it would move to is emptied.
pub move_of_nothing_empties_the_slot : Works default_limits ample input.move_of_nothing_empties_the_slot
    (codes "= ok\n= #1\n= #2\n= #3\n= @1\n= ok\n= ok\n= ok\n= ok\n- free #3\n= none\n= none\n= none\n- free @1\n= ok\n")
unfolding all_of_a_run
move_of_nothing_empties_the_slot = record { writes = refl; passes = refl; audited = refl }

-- A native moves into a slot of its own, and only itself holds it then.
pub native_moves_into_its_own_slot : Works default_limits ample input.native_moves_into_its_own_slot
    (codes "= ok\n= #1\n= #2\n= ok\n= #1\n= ok\n= none\n+ #1\n+ #2\n= census 2\n- unlink #1\n- free #1\n= ok\n+ #2\n= census 1\n")
unfolding all_of_a_run
native_moves_into_its_own_slot = record { writes = refl; passes = refl; audited = refl }

-- What moves to where it is stays there, also where two registers name its holder.
pub move_onto_its_own_place : Works default_limits ample input.move_onto_its_own_place
    (codes "= ok\n= #1\n= #2\n= ok\n= ok\n= #1\n= #2\n= #2\n= #2\n= ok\n= ok\n- free #1\n- free #2\n= ok\n")
unfolding all_of_a_run
move_onto_its_own_place = record { writes = refl; passes = refl; audited = refl }

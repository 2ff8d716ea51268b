-- WORKED EXAMPLES, part 36: what each writes, and that its run is lawful, quiet and passes the audit.
-- Made by tools/worked_examples.py from examples/worked.txt.
use Rattle.std.specs.Prelude.{codes, refl}
use Rattle.cc_worked.specs.Examples.{default_limits, ample}
use Rattle.cc_worked.specs.Inputs as input
use Rattle.cc_worked.specs.Works.{Works}
use Rattle.cc_worked.proofs.Opened.{all_of_a_run}

-- A marking has a unit for its beginning, one for each object that is scanned, and one for its end.
pub units_of_a_marking : Works default_limits ample input.units_of_a_marking
    (codes "= ok\n= @1\n= @2\n= @3\n= ok\n= ok\n= ok\n= ok\n+ @1\n+ @2\n+ @3\n= census 3\n- free @3\n= ok\n+ @1\n+ @2\n= census 2\n")
unfolding all_of_a_run
units_of_a_marking = record { writes = refl; passes = refl; audited = refl }

-- Units that are left when a marking ends begin no second one.
pub no_second_marking_begins : Works default_limits ample input.no_second_marking_begins
    (codes "= ok\n= @1\n= ok\n- free @1\n= ok\n= @2\n= ok\n= ok\n= @3\n= ok\n- free @2\n= ok\n- free @3\n= ok\n")
unfolding all_of_a_run
no_second_marking_begins = record { writes = refl; passes = refl; audited = refl }

-- A script object that is made while a marking goes on outlives it, and is freed by the next one.
pub object_made_during_a_marking_stays : Works default_limits ample input.object_made_during_a_marking_stays
    (codes "= ok\n= ok\n= @1\n= ok\n= ok\n= @2\n= @3\n= ok\n= ok\n= ok\n+ @1\n+ @2\n+ @3\n= census 3\n- free @1\n- free @2\n- free @3\n= ok\n")
unfolding all_of_a_run
object_made_during_a_marking_stays = record { writes = refl; passes = refl; audited = refl }

-- A script object that is stored, read and taken out of its slots between units is held by registers at each of them, and kept.
pub held_by_registers_alone : Works default_limits ample input.held_by_registers_alone
    (codes "= ok\n= @1\n= @2\n= @3\n= ok\n= ok\n= ok\n= @3\n= ok\n= ok\n= ok\n= ok\n= ok\n= @3\n= ok\n= ok\n+ @1\n+ @2\n+ @3\n= census 3\n= ok\n- free @3\n= ok\n")
unfolding all_of_a_run
held_by_registers_alone = record { writes = refl; passes = refl; audited = refl }

-- The tail of a chain is stored in an object that was scanned, and is kept with all that it holds.
pub tail_moves_in_front_of_the_scan : Works default_limits ample input.tail_moves_in_front_of_the_scan
    (codes "= ok\n= @1\n= @2\n= @3\n= @4\n= @5\n= ok\n= ok\n= ok\n= ok\n= ok\n= ok\n= ok\n= ok\n= ok\n= @2\n= @3\n= @4\n= ok\n= ok\n= ok\n= ok\n= ok\n= ok\n+ @1\n+ @2\n+ @3\n+ @4\n+ @5\n= census 5\n= ok\n- free @2\n- free @3\n= ok\n")
unfolding all_of_a_run
tail_moves_in_front_of_the_scan = record { writes = refl; passes = refl; audited = refl }

-- What the first object of the black list holds is scanned last: with two units it is not marked yet.
pub black_list_is_scanned_in_order : Works default_limits ample input.black_list_is_scanned_in_order
    (codes "= ok\n= @1\n= @2\n= @3\n= ok\n= ok\n= ok\n= ok\n- free @3\n= ok\n")
unfolding all_of_a_run
black_list_is_scanned_in_order = record { writes = refl; passes = refl; audited = refl }

-- With a third unit the second object was scanned, and what its slot held stays though it is taken out.
pub scanned_before_its_slot_is_emptied : Works default_limits ample input.scanned_before_its_slot_is_emptied
    (codes "= ok\n= @1\n= @2\n= @3\n= ok\n= ok\n= ok\n= ok\n= ok\n- free @3\n= ok\n")
unfolding all_of_a_run
scanned_before_its_slot_is_emptied = record { writes = refl; passes = refl; audited = refl }

-- A black object is scanned before gray ones: with two units what it held is marked, and stays though it is taken out.
pub gray_objects_are_scanned_last : Works default_limits ample input.gray_objects_are_scanned_last
    (codes "= ok\n= #1\n= @1\n= ok\n= ok\n= @2\n= @3\n= ok\n= ok\n= ok\n= ok\n= ok\n- free @3\n= ok\n")
unfolding all_of_a_run
gray_objects_are_scanned_last = record { writes = refl; passes = refl; audited = refl }

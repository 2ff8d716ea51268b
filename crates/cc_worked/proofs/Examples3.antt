-- WORKED EXAMPLES, part 3: what each writes, and that its run is lawful, quiet and passes the audit.
-- Made by tools/worked_examples.py from examples/worked.txt.
use Rattle.std.specs.Prelude.{codes, refl}
use Rattle.cc_worked.specs.Examples.{default_limits, ample}
use Rattle.cc_worked.specs.Inputs as input
use Rattle.cc_worked.specs.Works.{Works}
use Rattle.cc_worked.proofs.Opened.{all_of_a_run}

-- Gc keeps what a native holds, with all that this reaches, until the native is freed.
pub native_keeps_what_it_holds : Works default_limits ample input.native_keeps_what_it_holds
    (codes "= #1\n= @1\n= @2\n= ok\n= ok\n= ok\n= ok\n= ok\n= @1\n- free #1\n= ok\n= ok\n- free @1\n- free @2\n= ok\n")
unfolding all_of_a_run
native_keeps_what_it_holds = record { writes = refl; passes = refl; audited = refl }

-- A script object gets a number that no other one had, though one was freed.
pub number_of_a_freed_script_object_is_never_used_again : Works default_limits ample input.number_of_a_freed_script_object_is_never_used_again
    (codes "= @1\n= @2\n= ok\n- free @1\n= ok\n= @3\n+ @2\n+ @3\n= census 2\n= ok\n= @2\n")
unfolding all_of_a_run
number_of_a_freed_script_object_is_never_used_again = record { writes = refl; passes = refl; audited = refl }

-- A script object that holds itself is touched in a native's slot, and outlives the native in a register.
pub gray_cycle_through_a_slot_is_exposed : Works default_limits ample input.gray_cycle_through_a_slot_is_exposed
    (codes "= #1\n= @1\n= ok\n= ok\n= ok\n= ok\n= @1\n= none\n= ok\n= @1\n- free #1\n= ok\n= ok\n+ @1\n= census 1\n")
unfolding all_of_a_run
gray_cycle_through_a_slot_is_exposed = record { writes = refl; passes = refl; audited = refl }

-- A collection takes a native cycle that holds script objects, and the next gc takes these.
pub native_cycle_that_holds_script_objects_is_collected : Works default_limits ample input.native_cycle_that_holds_script_objects_is_collected
    (codes "= #1\n= @1\n= @2\n= ok\n= ok\n= ok\n= ok\n= ok\n= ok\n= ok\n- unlink #1\n- free #1\n= ok\n- free @1\n- free @2\n= ok\n= census 0\n")
unfolding all_of_a_run
native_cycle_that_holds_script_objects_is_collected = record { writes = refl; passes = refl; audited = refl }

-- Gc frees a script object that nothing holds, and the next gc finds nothing more.
pub what_nothing_holds_is_freed_once : Works default_limits ample input.what_nothing_holds_is_freed_once
    (codes "= @1\n= @2\n= ok\n= @3\n= ok\n- free @3\n= ok\n= ok\n")
unfolding all_of_a_run
what_nothing_holds_is_freed_once = record { writes = refl; passes = refl; audited = refl }

-- Gc keeps what each slot of a native holds, and the reflector that it preserves.
pub native_keeps_what_each_slot_holds_and_its_reflector : Works default_limits ample input.native_keeps_what_each_slot_holds_and_its_reflector
    (codes "= #1\n= @1\n= ok\n= @2\n= ok\n= ~1\n= ok\n= @3\n= ok\n- free @3\n= ok\n+ #1\n+ @1\n+ @2\n+ ~1\n= census 4\n")
unfolding all_of_a_run
native_keeps_what_each_slot_holds_and_its_reflector = record { writes = refl; passes = refl; audited = refl }

-- A reflector has four slots: the last of them is written and read, and there is none behind it.
pub reflector_has_four_slots : Works default_limits ample input.reflector_has_four_slots
    (codes "= #1\n= ~1\n= @1\n= ok\n! slot\n= @1\n! slot\n")
unfolding all_of_a_run
reflector_has_four_slots = record { writes = refl; passes = refl; audited = refl }

-- A reflector that was made since the last gc keeps its cycle through a collection.
pub reflector_is_still_black : Works default_limits ample input.reflector_is_still_black
    (codes "= #1\n= ~1\n= ok\n= ok\n= ok\n= ok\n+ #1\n+ ~1\n= census 2\n")
unfolding all_of_a_run
reflector_is_still_black = record { writes = refl; passes = refl; audited = refl }

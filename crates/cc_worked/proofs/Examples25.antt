-- WORKED EXAMPLES, part 25: what each writes, and that its run is lawful, quiet and passes the audit.
-- Made by tools/worked_examples.py from examples/worked.txt.
use Rattle.std.specs.Prelude.{codes, refl}
use Rattle.cc_worked.specs.Examples.{default_limits, ample}
use Rattle.cc_worked.specs.Inputs as input
use Rattle.cc_worked.specs.Works.{Works}
use Rattle.cc_worked.proofs.Opened.{all_of_a_run}

-- A gray reflector that moves is black, so a collection does not look at it before the next gc.
pub moved_reflector_waits_for_gc : Works default_limits ample input.moved_reflector_waits_for_gc
    (codes "= ok\n= #1\n= ~1\n= ok\n= ok\n= ok\n= ~1\n= ok\n= ok\n= ok\n- unlink #1\n= ok\n- free ~1\n- free #1\n= ok\n")
unfolding all_of_a_run
moved_reflector_waits_for_gc = record { writes = refl; passes = refl; audited = refl }

-- A gray reflector that moves to where it is is black as any other that moves.
pub move_onto_its_own_place_exposes : Works default_limits ample input.move_onto_its_own_place_exposes
    (codes "= ok\n= #1\n= ~1\n= ok\n= ok\n= ok\n= ~1\n= ok\n= ok\n= ok\n- unlink #1\n= ok\n- free ~1\n- free #1\n= ok\n")
unfolding all_of_a_run
move_onto_its_own_place_exposes = record { writes = refl; passes = refl; audited = refl }

-- A gray reflector moves out of a native before its node is traversed, and the native that it refers to is kept.
pub native_lives_by_a_moved_reflector : Works default_limits ample input.native_lives_by_a_moved_reflector
    (codes "= ok\n= #1\n= #2\n= #3\n= ~2\n= ok\n= ok\n= ok\n= ok\n= ok\n= ok\n= #4\n= ok\n= ok\n= ~2\n- unlink #3\n- free #3\n= ok\n= ~2\n= #2\n")
unfolding all_of_a_run
native_lives_by_a_moved_reflector = record { writes = refl; passes = refl; audited = refl }

-- A gray key moves out of a native before its node is traversed, and what the value of its entry leads to is kept.
pub value_lives_by_a_moved_key : Works default_limits ample input.value_lives_by_a_moved_key
    (codes "= ok\n= #1\n= #2\n= @1\n= @2\n= @3\n= ~2\n= ok\n= ok\n= ok\n= ok\n= ok\n= ok\n= ok\n= #3\n= ok\n= ok\n= @2\n= ok\n= @2\n= @3\n= ~2\n= #2\n")
unfolding all_of_a_run
value_lives_by_a_moved_key = record { writes = refl; passes = refl; audited = refl }

-- What a gray script object that moves holds in its slots is black too, and the native that this leads to is kept.
pub move_exposes_over_slots : Works default_limits ample input.move_exposes_over_slots
    (codes "= ok\n= #1\n= #2\n= #3\n= @1\n= ~2\n= ok\n= ok\n= ok\n= ok\n= ok\n= ok\n= ok\n= ok\n= #4\n= ok\n= ok\n= @1\n- unlink #3\n- free #3\n= ok\n= @1\n= ~2\n= #2\n")
unfolding all_of_a_run
move_exposes_over_slots = record { writes = refl; passes = refl; audited = refl }

-- How a register reaches a native, and that none does once the register lets go.
pub steps_from_a_register : Works default_limits ample input.steps_from_a_register
    (codes "= ok\n= #1\n= #2\n= ok\n= ok\n: #1 n0\n: #2 #1\n= ok\n- free #1\n- free #2\n= ok\n= none\n")
unfolding all_of_a_run
steps_from_a_register = record { writes = refl; passes = refl; audited = refl }

-- A value follows from its map and its key, and a name that was never made follows from nothing.
pub steps_to_a_value : Works default_limits ample input.steps_to_a_value
    (codes "= ok\n= @1\n= @2\n= @3\n= ok\n= ok\n: @1 s0\n: @2 s1\n: @3 @1 @2\n= ok\n= none\n")
unfolding all_of_a_run
steps_to_a_value = record { writes = refl; passes = refl; audited = refl }

-- An object that some registers hold follows from the first of them, whichever took it first.
pub first_register_tells : Works default_limits ample input.first_register_tells
    (codes "= ok\n= #1\n= #1\n= #1\n= @1\n= @1\n= @1\n: #1 n7\n= ok\n: @1 s9\n= ok\n= ok\n= ok\n: #1 n300\n= ok\n: @1 s255\n= ok\n= ok\n= ok\n: #1 n1023\n= ok\n: @1 s1023\n= ok\n")
unfolding all_of_a_run
first_register_tells = record { writes = refl; passes = refl; audited = refl }

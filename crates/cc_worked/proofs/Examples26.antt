-- WORKED EXAMPLES, part 26: what each writes, and that its run is lawful, quiet and passes the audit.
-- Made by tools/worked_examples.py from examples/worked.txt.
use Rattle.std.specs.Prelude.{codes, refl}
use Rattle.cc_worked.specs.Examples.{default_limits, ample}
use Rattle.cc_worked.specs.Inputs as input
use Rattle.cc_worked.specs.Works.{Works}
use Rattle.cc_worked.proofs.Opened.{all_of_a_run}

-- An object that a register holds needs no other step, though a slot of an earlier one holds it too.
pub register_tells_before_a_slot : Works default_limits ample input.register_tells_before_a_slot
    (codes "= ok\n= #1\n= #2\n= #3\n= ok\n= ok\n: #2 n1\n= ok\n: #3 n2\n= ok\n= ok\n: #2 n1\n: #3 #2\n= ok\n= ok\n: #1 n0\n: #2 #1\n: #3 #2\n= ok\n")
unfolding all_of_a_run
register_tells_before_a_slot = record { writes = refl; passes = refl; audited = refl }

-- A native that a register holds does not follow from its reflector, which a script register holds.
pub native_register_tells_before_a_reflector : Works default_limits ample input.native_register_tells_before_a_reflector
    (codes "= ok\n= #1\n= ~1\n: #1 n9\n= ok\n: ~1 s0\n= ok\n= ok\n: ~1 s0\n: #1 ~1\n= ok\n: ~1 s0\n= ok\n")
unfolding all_of_a_run
native_register_tells_before_a_reflector = record { writes = refl; passes = refl; audited = refl }

-- An object that two others hold follows from the one in the lower slot, whichever was made or written first.
pub slots_tell_in_rising_order : Works default_limits ample input.slots_tell_in_rising_order
    (codes "= ok\n= #1\n= #2\n= #3\n= #4\n= ok\n= ok\n= ok\n= ok\n= ok\n= ok\n= ok\n: #1 n0\n: #3 #1\n: #4 #3\n= ok\n- free #3\n= ok\n: #1 n0\n: #2 #1\n: #4 #2\n= ok\n")
unfolding all_of_a_run
slots_tell_in_rising_order = record { writes = refl; passes = refl; audited = refl }

-- An object that the second of two registers leads to at once does not follow from the longer path of the first.
pub nearer_path_tells : Works default_limits ample input.nearer_path_tells
    (codes "= ok\n= #1\n= #2\n= #3\n= #4\n= ok\n= ok\n= ok\n= ok\n= ok\n: #4 n3\n: #3 #4\n= ok\n- free #4\n= ok\n: #1 n0\n: #2 #1\n: #3 #2\n= ok\n")
unfolding all_of_a_run
nearer_path_tells = record { writes = refl; passes = refl; audited = refl }

-- A path goes from a native over a script object and a reflector to the next native, and on.
pub steps_through_both_heaps : Works default_limits ample input.steps_through_both_heaps
    (codes "= ok\n= #1\n= #2\n= #3\n= @1\n= ~2\n= ok\n= ok\n= ok\n= ok\n= ok\n= ok\n= ok\n: #1 n0\n: @1 #1\n: ~2 @1\n: #2 ~2\n: #3 #2\n= ok\n: #1 n0\n: @1 #1\n= ok\n= ok\n= ok\n: #1 n0\n: @1 #1\n: ~2 @1\n: #2 ~2\n: #3 #2\n= ok\n")
unfolding all_of_a_run
steps_through_both_heaps = record { writes = refl; passes = refl; audited = refl }

-- A native leads to its reflector, and over its slots on, once script wrote to it, and not before.
pub steps_through_a_preserved_reflector : Works default_limits ample input.steps_through_a_preserved_reflector
    (codes "= ok\n= #1\n= ~1\n= @1\n= ok\n= none\n= ~1\n= ok\n= ok\n= ok\n: #1 n0\n: ~1 #1\n= ok\n: #1 n0\n: ~1 #1\n: @1 ~1\n= ok\n= ok\n= none\n= none\n= none\n")
unfolding all_of_a_run
steps_through_a_preserved_reflector = record { writes = refl; passes = refl; audited = refl }

-- An object to which a slot of a native leads, and its preserved reflector too, follows from the slot.
pub slots_tell_before_the_preserved_reflector : Works default_limits ample input.slots_tell_before_the_preserved_reflector
    (codes "= ok\n= #1\n= ~1\n= @1\n= @2\n= ok\n= ok\n= ok\n= ok\n= ok\n= ok\n: #1 n0\n: @1 #1\n: @2 @1\n= ok\n= ok\n: #1 n0\n: ~1 #1\n: @2 ~1\n= ok\n")
unfolding all_of_a_run
slots_tell_before_the_preserved_reflector = record { writes = refl; passes = refl; audited = refl }

-- An object to which a slot of a reflector leads, and its native too, follows from the slot.
pub slots_tell_before_the_native : Works default_limits ample input.slots_tell_before_the_native
    (codes "= ok\n= #1\n= ~1\n= @1\n= @2\n= ok\n= ok\n= ok\n= ok\n= ok\n= ok\n: ~1 s0\n: @1 ~1\n: @2 @1\n= ok\n= ok\n: ~1 s0\n: #1 ~1\n: @2 #1\n= ok\n")
unfolding all_of_a_run
slots_tell_before_the_native = record { writes = refl; passes = refl; audited = refl }

-- WORKED EXAMPLES, part 34: what each writes, and that its run is lawful, quiet and passes the audit.
-- Made by tools/worked_examples.py from examples/worked.txt.
use Rattle.std.specs.Prelude.{codes, refl}
use Rattle.cc_worked.specs.Examples.{default_limits, ample}
use Rattle.cc_worked.specs.Inputs as input
use Rattle.cc_worked.specs.Works.{Works}
use Rattle.cc_worked.proofs.Opened.{all_of_a_run}

-- Nothing is noted for an empty register, and what was noted stays.
pub weak_of_an_empty_register : Works default_limits ample input.weak_of_an_empty_register
    (codes "= ok\n! empty\n= none\n= #1\n= #1\n! empty\n= #1\n")
unfolding all_of_a_run
weak_of_an_empty_register = record { writes = refl; passes = refl; audited = refl }

-- Where nothing is noted the register is emptied, and what it held is freed.
pub deref_of_nothing_empties_its_register : Works default_limits ample input.deref_of_nothing_empties_its_register
    (codes "= ok\n= #1\n- free #1\n= none\n= #2\n= #2\n= #2\n+ #2\n= census 1\n")
unfolding all_of_a_run
deref_of_nothing_empties_its_register = record { writes = refl; passes = refl; audited = refl }

-- A weak register that is emptied gives nothing more, and the native stays as it was.
pub dropped_weak_register_gives_up_no_reference : Works default_limits ample input.dropped_weak_register_gives_up_no_reference
    (codes "= ok\n= #1\n= #1\n= #1\n= ok\n= ok\n= none\n= #1\n= ok\n+ #1\n= census 1\n= ok\n+ #1\n= census 1\n")
unfolding all_of_a_run
dropped_weak_register_gives_up_no_reference = record { writes = refl; passes = refl; audited = refl }

-- A weak register notes the native of its last weak alone.
pub weak_register_is_noted_again : Works default_limits ample input.weak_register_is_noted_again
    (codes "= ok\n= #1\n= #2\n= #1\n= #2\n= #2\n= #1\n= #1\n= ok\n- free #1\n= ok\n= none\n")
unfolding all_of_a_run
weak_register_is_noted_again = record { writes = refl; passes = refl; audited = refl }

-- W0 and w255 are weak registers, and w256 is none.
pub all_weak_registers : Works default_limits ample input.all_weak_registers
    (codes "= ok\n= #1\n= #1\n! line\n= #1\n! line\n! line\n= ok\n= none\n! line\n! empty\n= none\n! line\n! line\n")
unfolding all_of_a_run
all_weak_registers = record { writes = refl; passes = refl; audited = refl }

-- All 256 weak registers note one native, keep it no more than one does, and give it till it has ended.
pub every_weak_register_notes_one_native : Works default_limits ample input.every_weak_register_notes_one_native
    (codes "= ok\n= #1\n= ok\n= #1\n= #1\n= #1\n= #1\n= #1\n= #1\n= #1\n= #1\n= #1\n= #1\n= #1\n= #1\n= #1\n= #1\n= #1\n= #1\n= #1\n= #1\n= #1\n= #1\n= #1\n= #1\n= #1\n= #1\n= #1\n= #1\n= #1\n= #1\n= #1\n= #1\n= #1\n= #1\n= #1\n= #1\n= #1\n= #1\n= #1\n= #1\n= #1\n= #1\n= #1\n= #1\n= #1\n= #1\n= #1\n= #1\n= #1\n= #1\n= #1\n= #1\n= #1\n= #1\n= #1\n= #1\n= #1\n= #1\n= #1\n= #1\n= #1\n= #1\n= #1\n= #1\n= #1\n= #1\n= #1\n= #1\n= #1\n= #1\n= #1\n= #1\n= #1\n= #1\n= #1\n= #1\n= #1\n= #1\n= #1\n= #1\n= #1\n= #1\n= #1\n= #1\n= #1\n= #1\n= #1\n= #1\n= #1\n= #1\n= #1\n= #1\n= #1\n= #1\n= #1\n= #1\n= #1\n= #1\n= #1\n= #1\n= #1\n= #1\n= #1\n= #1\n= #1\n= #1\n= #1\n= #1\n= #1\n= #1\n= #1\n= #1\n= #1\n= #1\n= #1\n= #1\n= #1\n= #1\n= #1\n= #1\n= #1\n= #1\n= #1\n= #1\n= #1\n= #1\n= #1\n= #1\n= #1\n= #1\n= #1\n= #1\n= #1\n= #1\n= #1\n= #1\n= #1\n= #1\n= #1\n= #1\n= #1\n= #1\n= #1\n= #1\n= #1\n= #1\n= #1\n= #1\n= #1\n= #1\n= #1\n= #1\n= #1\n= #1\n= #1\n= #1\n= #1\n= #1\n= #1\n= #1\n= #1\n= #1\n= #1\n= #1\n= #1\n= #1\n= #1\n= #1\n= #1\n= #1\n= #1\n= #1\n= #1\n= #1\n= #1\n= #1\n= #1\n= #1\n= #1\n= #1\n= #1\n= #1\n= #1\n= #1\n= #1\n= #1\n= #1\n= #1\n= #1\n= #1\n= #1\n= #1\n= #1\n= #1\n= #1\n= #1\n= #1\n= #1\n= #1\n= #1\n= #1\n= #1\n= #1\n= #1\n= #1\n= #1\n= #1\n= #1\n= #1\n= #1\n= #1\n= #1\n= #1\n= #1\n= #1\n= #1\n= #1\n= #1\n= #1\n= #1\n= #1\n= #1\n= #1\n= #1\n= #1\n= #1\n= #1\n= #1\n= #1\n= #1\n= #1\n= #1\n= #1\n= #1\n= #1\n= #1\n= #1\n= #1\n= #1\n= #1\n= #1\n= #1\n= #1\n= #1\n= #1\n= #1\n= #1\n= #1\n= #1\n= #1\n= #1\n= #1\n= #1\n= #1\n= #1\n= #1\n= #1\n= #1\n= ok\n= #1\n= #1\n= #1\n= ok\n= ok\n- unlink #1\n- free #1\n= ok\n= none\n= none\n")
unfolding all_of_a_run
every_weak_register_notes_one_native = record { writes = refl; passes = refl; audited = refl }

-- The map of an entry and its key are brought back one after the other, so the value is kept though it was reached at no moment.
pub map_and_key_come_back_at_different_moments : Works default_limits ample input.map_and_key_come_back_at_different_moments
    (codes "= ok\n= #1\n= ok\n= @1\n= ok\n= #1\n= #2\n= ok\n= @2\n= ok\n= #2\n= #3\n= ok\n= ~3\n= @3\n= ok\n= ok\n= ok\n= ok\n= ok\n= ok\n= ok\n= ok\n= ok\n= ok\n= ok\n= #1\n= ok\n= #2\n= ok\n= ok\n- unlink #1\n- unlink #2\n- unlink #3\n- free #1\n- free #2\n= ok\n+ #3\n+ @1\n+ @2\n+ ~3\n+ @3\n= census 5\n")
unfolding all_of_a_run
map_and_key_come_back_at_different_moments = record { writes = refl; passes = refl; audited = refl }

-- A script object that a gray native holds is exposed when it is read from the native that was brought back.
pub gray_script_object_of_a_native_brought_back : Works default_limits ample input.gray_script_object_of_a_native_brought_back
    (codes "= ok\n= #1\n= ok\n= @1\n= ok\n= ok\n= #1\n= ok\n= ok\n= ok\n= ok\n= #1\n= @1\n= ok\n= ok\n- unlink #1\n- free #1\n= ok\n+ @1\n= census 1\n")
unfolding all_of_a_run
gray_script_object_of_a_native_brought_back = record { writes = refl; passes = refl; audited = refl }

-- WORKED EXAMPLES, part 4: what each writes, and that its run is lawful, quiet and passes the audit.
-- Made by tools/worked_examples.py from examples/worked.txt.
use Rattle.std.specs.Prelude.{codes, refl}
use Rattle.cc_worked.specs.Examples.{default_limits, ample}
use Rattle.cc_worked.specs.Inputs as input
use Rattle.cc_worked.specs.Works.{Works}
use Rattle.cc_worked.proofs.Opened.{all_of_a_run}

-- Gc, collect and gc take a cycle of a native and its reflector.
pub cycle_through_a_reflector : Works default_limits ample input.cycle_through_a_reflector
    (codes "= #1\n= ~1\n= ok\n= ok\n= ok\n= ok\n+ #1\n+ ~1\n= census 2\n= ok\n- unlink #1\n= ok\n- free ~1\n- free #1\n= ok\n= census 0\n")
unfolding all_of_a_run
cycle_through_a_reflector = record { writes = refl; passes = refl; audited = refl }

-- A blank reflector is freed though its native lives, and goes last when it is made again.
pub reflector_made_again_is_listed_last : Works default_limits ample input.reflector_made_again_is_listed_last
    (codes "= #1\n= ~1\n= @1\n= ok\n- free ~1\n= ok\n= ~1\n+ #1\n+ @1\n+ ~1\n= census 3\n")
unfolding all_of_a_run
reflector_made_again_is_listed_last = record { writes = refl; passes = refl; audited = refl }

-- A reflector whose slot was written lives as long as its native, with what it holds.
pub written_reflector_is_preserved : Works default_limits ample input.written_reflector_is_preserved
    (codes "= #1\n= ~1\n= @1\n= ok\n= ok\n= ok\n= ok\n= ~1\n= @1\n")
unfolding all_of_a_run
written_reflector_is_preserved = record { writes = refl; passes = refl; audited = refl }

-- Gc marks and sweeps again as long as a freed native lets go of script objects.
pub gc_sweeps_three_rounds : Works default_limits ample input.gc_sweeps_three_rounds
    (codes "= #1\n= #2\n= @1\n= ok\n= ~2\n= ok\n= ~1\n= ok\n= ok\n= ok\n= ok\n= ok\n- free ~1\n- free #1\n- free ~2\n- free #2\n- free @1\n= ok\n")
unfolding all_of_a_run
gc_sweeps_three_rounds = record { writes = refl; passes = refl; audited = refl }

-- A collection leaves a cycle that script touched after the last gc, and the next one takes it.
pub exposed_reflector_waits_for_gc : Works default_limits ample input.exposed_reflector_waits_for_gc
    (codes "= #1\n= ~1\n= ok\n= ok\n= ok\n= ~1\n= ok\n= ok\n= ok\n- unlink #1\n= ok\n- free ~1\n- free #1\n= ok\n")
unfolding all_of_a_run
exposed_reflector_waits_for_gc = record { writes = refl; passes = refl; audited = refl }

-- A native and its preserved reflector hold each other, and are taken together.
pub preserved_reflector_is_collected : Works default_limits ample input.preserved_reflector_is_collected
    (codes "= #1\n= ~1\n= ok\n= ok\n= ok\n= ok\n= ok\n- unlink #1\n= ok\n- free ~1\n- free #1\n= ok\n")
unfolding all_of_a_run
preserved_reflector_is_collected = record { writes = refl; passes = refl; audited = refl }

-- Gc, collect and gc take two natives that hold each other through both reflectors and a plain object.
pub cycle_of_two_natives_and_three_script_objects : Works default_limits ample input.cycle_of_two_natives_and_three_script_objects
    (codes "= #1\n= #2\n= ~1\n= ~2\n= @1\n= ok\n= ok\n= ok\n= ok\n= ok\n= ok\n= ok\n= ok\n= ok\n+ #1\n+ #2\n+ ~1\n+ ~2\n+ @1\n= census 5\n- unlink #1\n- unlink #2\n= ok\n- free ~1\n- free #1\n- free ~2\n- free #2\n- free @1\n= ok\n= census 0\n")
unfolding all_of_a_run
cycle_of_two_natives_and_three_script_objects = record { writes = refl; passes = refl; audited = refl }

-- Unwrap and preserve are refused for what is no reflector, and for an empty register before that.
pub what_is_no_reflector_is_refused : Works default_limits ample input.what_is_no_reflector_is_refused
    (codes "= @1\n! kind\n! kind\n! empty\n! empty\n= #1\n! empty\n! empty\n= ~1\n= #1\n= ok\n+ #1\n+ @1\n+ ~1\n= census 3\n")
unfolding all_of_a_run
what_is_no_reflector_is_refused = record { writes = refl; passes = refl; audited = refl }

-- WORKED EXAMPLES, part 31: what each writes, and that its run is lawful, quiet and passes the audit.
-- Made by tools/worked_examples.py from examples/worked.txt.
use Rattle.std.specs.Prelude.{codes, refl}
use Rattle.cc_worked.specs.Examples.{default_limits, ample}
use Rattle.cc_worked.specs.Inputs as input
use Rattle.cc_worked.specs.Works.{Works}
use Rattle.cc_worked.proofs.Opened.{all_of_a_run}

-- Without forget the same collection takes four units.
pub suspect_that_is_not_forgotten_is_a_candidate : Works default_limits ample input.suspect_that_is_not_forgotten_is_a_candidate
    (codes "= ok\n= #1\n= #1\n= ok\n= #2\n= ok\n= ok\n= ok\n- unlink #2\n- free #2\n= ok\n")
unfolding all_of_a_run
suspect_that_is_not_forgotten_is_a_candidate = record { writes = refl; passes = refl; audited = refl }

-- A native that a register reaches over its reflector alone is no candidate once suspects are forgotten, and goes with the reflector.
pub suspect_behind_a_reflector_is_forgotten : Works default_limits ample input.suspect_behind_a_reflector_is_forgotten
    (codes "= ok\n= #1\n= ~1\n= ok\n= ok\n= ok\n= ok\n- free ~1\n- free #1\n= ok\n= census 0\n")
unfolding all_of_a_run
suspect_behind_a_reflector_is_forgotten = record { writes = refl; passes = refl; audited = refl }

-- Slots of natives and script objects, preserved reflectors, delegates and the natives of reflectors lead to what is forgotten: one of five suspects is left.
pub suspects_are_forgotten_over_every_edge : Works default_limits ample input.suspects_are_forgotten_over_every_edge
    (codes "= ok\n= #1\n= #2\n= #3\n= #4\n= ~1\n= ~4\n= @1\n= ok\n= ok\n= ok\n= ~2\n= ~3\n= ok\n= @2\n= ok\n= ok\n= ok\n= ok\n= ok\n= ok\n= ok\n= ok\n= ok\n= #5\n= ok\n= ok\n= ok\n- unlink #5\n- free #5\n= ok\n")
unfolding all_of_a_run
suspects_are_forgotten_over_every_edge = record { writes = refl; passes = refl; audited = refl }

-- A suspect that is reached as the value of an entry alone keeps its mark, so the collection takes four units.
pub suspects_are_not_forgotten_over_entries : Works default_limits ample input.suspects_are_not_forgotten_over_entries
    (codes "= ok\n= #1\n= ~1\n= @1\n= @2\n= ok\n= ok\n= ok\n= #2\n= ok\n= ok\n= ok\n= ok\n- unlink #2\n- free #2\n= ok\n")
unfolding all_of_a_run
suspects_are_not_forgotten_over_entries = record { writes = refl; passes = refl; audited = refl }

-- A suspect whose reflector is black still, though no register reaches it, keeps its mark, so the collection takes four units.
pub suspect_of_a_black_reflector_is_not_forgotten : Works default_limits ample input.suspect_of_a_black_reflector_is_not_forgotten
    (codes "= ok\n= #1\n= ~1\n= ok\n= ok\n= #2\n= ok\n= ok\n= ok\n= ok\n- unlink #2\n- free #2\n= ok\n")
unfolding all_of_a_run
suspect_of_a_black_reflector_is_not_forgotten = record { writes = refl; passes = refl; audited = refl }

-- A cycle through a black reflector is found by the next collection after gc.
pub unreached_cycle_is_not_forgotten : Works default_limits ample input.unreached_cycle_is_not_forgotten
    (codes "= ok\n= #1\n= ~1\n= ok\n= ok\n= ok\n= ok\n= ok\n- unlink #1\n= ok\n+ #1\n+ ~1\n= census 2\n- free ~1\n- free #1\n= ok\n")
unfolding all_of_a_run
unreached_cycle_is_not_forgotten = record { writes = refl; passes = refl; audited = refl }

-- A native whose mark is taken in mid-collection stays in the buffer: what was counted at two moments looks like garbage, and is kept.
pub forgotten_suspect_is_still_touched : Works default_limits ample input.forgotten_suspect_is_still_touched
    (codes "= ok\n= #1\n= #2\n= ok\n= ok\n= ok\n= ok\n= #1\n= #1\n= ok\n= ok\n= ok\n= ok\n+ #1\n+ #2\n= census 2\n= ok\n- unlink #1\n- unlink #2\n- free #1\n- free #2\n= ok\n= census 0\n")
unfolding all_of_a_run
forgotten_suspect_is_still_touched = record { writes = refl; passes = refl; audited = refl }

-- A collection that runs keeps its candidates, and ends after as many units.
pub forget_leaves_a_running_collection : Works default_limits ample input.forget_leaves_a_running_collection
    (codes "= ok\n= #1\n= ok\n= #2\n= #2\n= ok\n= ok\n= ok\n= ok\n= ok\n= ok\n- unlink #1\n- free #1\n= ok\n")
unfolding all_of_a_run
forget_leaves_a_running_collection = record { writes = refl; passes = refl; audited = refl }

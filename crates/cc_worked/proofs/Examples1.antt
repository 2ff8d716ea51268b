-- WORKED EXAMPLES, part 1: what each writes, and that its run is lawful, quiet and passes the audit.
-- Made by tools/worked_examples.py from examples/worked.txt.
use Rattle.std.specs.Prelude.{[], codes, refl}
use Rattle.cc_worked.specs.Examples.{default_limits, ample}
use Rattle.cc_worked.specs.Inputs as input
use Rattle.cc_worked.specs.Works.{Works}
use Rattle.cc_worked.proofs.Opened.{all_of_a_run}

-- Nothing is written for an empty input.
pub empty_input : Works default_limits ample input.empty_input
    []
unfolding all_of_a_run
empty_input = record { writes = refl; passes = refl; audited = refl }

-- A native whose last reference is given up is freed, and then what it alone held.
pub cascade_of_two : Works default_limits ample input.cascade_of_two
    (codes "= #1\n= #2\n= ok\n= ok\n- free #1\n- free #2\n= ok\n")
unfolding all_of_a_run
cascade_of_two = record { writes = refl; passes = refl; audited = refl }

-- A slot reads as nothing until it is written.
pub empty_slot_reads_none : Works default_limits ample input.empty_slot_reads_none
    (codes "= #1\n= none\n= ok\n= #1\n= ok\n= ok\n+ #1\n= census 1\n")
unfolding all_of_a_run
empty_slot_reads_none = record { writes = refl; passes = refl; audited = refl }

-- A native that holds itself is kept when its register lets it go.
pub self_cycle_outlives_its_register : Works default_limits ample input.self_cycle_outlives_its_register
    (codes "= #1\n= ok\n= ok\n+ #1\n= census 1\n")
unfolding all_of_a_run
self_cycle_outlives_its_register = record { writes = refl; passes = refl; audited = refl }

-- A collection unlinks and frees a native that only itself holds.
pub self_cycle_is_collected : Works default_limits ample input.self_cycle_is_collected
    (codes "= #1\n= ok\n= ok\n+ #1\n= census 1\n- unlink #1\n- free #1\n= ok\n= census 0\n")
unfolding all_of_a_run
self_cycle_is_collected = record { writes = refl; passes = refl; audited = refl }

-- Two natives that hold each other are both unlinked before the first of them is freed.
pub two_cycle_is_collected : Works default_limits ample input.two_cycle_is_collected
    (codes "= #1\n= #2\n= ok\n= ok\n= ok\n= ok\n- unlink #1\n- unlink #2\n- free #1\n- free #2\n= ok\n")
unfolding all_of_a_run
two_cycle_is_collected = record { writes = refl; passes = refl; audited = refl }

-- A cycle that a register holds is looked at and kept.
pub held_cycle_is_kept : Works default_limits ample input.held_cycle_is_kept
    (codes "= #1\n= #2\n= ok\n= ok\n= ok\n= ok\n+ #1\n+ #2\n= census 2\n")
unfolding all_of_a_run
held_cycle_is_kept = record { writes = refl; passes = refl; audited = refl }

-- Natives that hold each other in a ring are looked at and kept, where a register holds the last of them.
pub held_ring_of_three_is_kept : Works default_limits ample input.held_ring_of_three_is_kept
    (codes "= #1\n= #1\n= #2\n= ok\n= #2\n= #3\n= ok\n= #3\n= ok\n= ok\n= ok\n= ok\n+ #1\n+ #2\n+ #3\n= census 3\n")
unfolding all_of_a_run
held_ring_of_three_is_kept = record { writes = refl; passes = refl; audited = refl }

-- WORKED EXAMPLES, part 8: what each writes, and that its run is lawful, quiet and passes the audit.
-- Made by tools/worked_examples.py from examples/worked.txt.
use Rattle.std.specs.Prelude.{codes, refl}
use Rattle.cc_worked.specs.Examples.{default_limits, ample}
use Rattle.cc_worked.specs.Inputs as input
use Rattle.cc_worked.specs.Works.{Works}
use Rattle.cc_worked.proofs.Opened.{all_of_a_run}

-- A collection with two nodes takes a unit to begin, one for each node, and one to end.
pub two_cycle_takes_four_units : Works default_limits ample input.two_cycle_takes_four_units
    (codes "= #1\n= #2\n= ok\n= ok\n= ok\n= ok\n= ok\n= ok\n= ok\n- unlink #1\n- unlink #2\n- free #1\n- free #2\n= ok\n")
unfolding all_of_a_run
two_cycle_takes_four_units = record { writes = refl; passes = refl; audited = refl }

-- A native that stands in the buffer without the purple mark is no node, so a collection that begins with it alone takes two units.
pub only_purple_natives_are_candidates : Works default_limits ample input.only_purple_natives_are_candidates
    (codes "= #1\n= ok\n= #2\n= ok\n= ok\n- unlink #2\n- free #2\n= ok\n")
unfolding all_of_a_run
only_purple_natives_are_candidates = record { writes = refl; passes = refl; audited = refl }

-- A native that gets a reference is not purple any more, so a collection that begins with it alone takes two units.
pub added_reference_ends_purple : Works default_limits ample input.added_reference_ends_purple
    (codes "= #1\n= #1\n= ok\n= #1\n= ok\n= #2\n= ok\n= ok\n- unlink #2\n- free #2\n= ok\n")
unfolding all_of_a_run
added_reference_ends_purple = record { writes = refl; passes = refl; audited = refl }

-- A purple native that is freed leaves the buffer, so a collection that begins then takes two units.
pub freed_native_leaves_the_buffer : Works default_limits ample input.freed_native_leaves_the_buffer
    (codes "= #1\n= #1\n= ok\n- free #1\n= ok\n= ok\n= #2\n= ok\n= ok\n- unlink #2\n- free #2\n= ok\n")
unfolding all_of_a_run
freed_native_leaves_the_buffer = record { writes = refl; passes = refl; audited = refl }

-- A black script object that a native holds is no node, so a collection with that native alone takes three units.
pub black_objects_are_not_looked_at : Works default_limits ample input.black_objects_are_not_looked_at
    (codes "= #1\n= @1\n= ok\n= #1\n= ok\n= ok\n= #2\n= ok\n= ok\n- unlink #2\n- free #2\n= ok\n")
unfolding all_of_a_run
black_objects_are_not_looked_at = record { writes = refl; passes = refl; audited = refl }

-- A native that becomes purple once more keeps its place in the buffer, so it is looked at before those that became purple in between.
pub marked_again_keeps_its_place_in_the_buffer : Works default_limits ample input.marked_again_keeps_its_place_in_the_buffer
    (codes "= #1\n= ok\n= #1\n= ok\n= #2\n= #3\n= ok\n= #2\n= ok\n= ok\n= ok\n= ok\n- unlink #1\n- free #1\n= ok\n")
unfolding all_of_a_run
marked_again_keeps_its_place_in_the_buffer = record { writes = refl; passes = refl; audited = refl }

-- Candidates are looked at before the natives that hold gray objects, of which one is freed meanwhile.
pub candidates_come_before_holders : Works default_limits ample input.candidates_come_before_holders
    (codes "= #1\n= ok\n= #2\n= @1\n= ok\n= ok\n= ok\n= ok\n= ok\n- free #2\n= ok\n- unlink #1\n- free #1\n= ok\n")
unfolding all_of_a_run
candidates_come_before_holders = record { writes = refl; passes = refl; audited = refl }

-- An entry whose value was replaced keeps its place, so its members are looked at before those of an entry that was set in between.
pub replaced_entry_keeps_its_place : Works default_limits ample input.replaced_entry_keeps_its_place
    (codes "= #1\n= @1\n= @2\n= @3\n= @4\n= ok\n= ok\n= ok\n= ok\n= ok\n= ok\n= ok\n= ok\n= ok\n= #2\n= ok\n= ok\n= ok\n= ok\n= @3\n- unlink #2\n- free #2\n= ok\n")
unfolding all_of_a_run
replaced_entry_keeps_its_place = record { writes = refl; passes = refl; audited = refl }

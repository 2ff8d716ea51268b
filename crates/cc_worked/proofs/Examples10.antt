-- WORKED EXAMPLES, part 10: what each writes, and that its run is lawful, quiet and passes the audit.
-- Made by tools/worked_examples.py from examples/worked.txt.
use Rattle.std.specs.Prelude.{codes, refl}
use Rattle.cc_worked.specs.Examples.{default_limits, ample}
use Rattle.cc_worked.specs.Inputs as input
use Rattle.cc_worked.specs.Works.{Works}
use Rattle.cc_worked.proofs.Opened.{all_of_a_run}

-- Unlinking one white native may free the one that comes next in the walk.
pub native_vanishes_inside_an_unlink : Works default_limits ample input.native_vanishes_inside_an_unlink
    (codes "= #1\n= #2\n= ok\n= ok\n= ok\n= ok\n= ok\n- unlink #1\n- free #2\n- free #1\n= ok\n")
unfolding all_of_a_run
native_vanishes_inside_an_unlink = record { writes = refl; passes = refl; audited = refl }

-- A native made while a collection runs is kept, and the cycle that the collection began with is taken.
pub native_made_between_slices : Works default_limits ample input.native_made_between_slices
    (codes "= #1\n= ~1\n= ok\n= ok\n= ok\n= ok\n= ok\n= #2\n- unlink #1\n= ok\n- free ~1\n- free #1\n= ok\n+ #2\n= census 1\n")
unfolding all_of_a_run
native_made_between_slices = record { writes = refl; passes = refl; audited = refl }

-- Gc brings a collection that runs to its end before it marks.
pub gc_ends_a_running_collection : Works default_limits ample input.gc_ends_a_running_collection
    (codes "= #1\n= ok\n= ok\n= ok\n- unlink #1\n- free #1\n= ok\n")
unfolding all_of_a_run
gc_ends_a_running_collection = record { writes = refl; passes = refl; audited = refl }

-- A native that holds nothing gray but its reflector is looked at, and so is this, so a collection with one candidate takes five units.
pub native_that_preserves_a_gray_reflector_is_a_holder : Works default_limits ample input.native_that_preserves_a_gray_reflector_is_a_holder
    (codes "= #1\n= ~1\n= ok\n= ok\n= #2\n= ok\n= ok\n= ok\n= ok\n- unlink #2\n- free #2\n= ok\n")
unfolding all_of_a_run
native_that_preserves_a_gray_reflector_is_a_holder = record { writes = refl; passes = refl; audited = refl }

-- What a native's slots hold is looked at before its reflector, which has become black meanwhile and leads to nothing more.
pub preserved_reflector_is_looked_at_after_the_slots : Works default_limits ample input.preserved_reflector_is_looked_at_after_the_slots
    (codes "= #1\n= ~1\n= @1\n= @2\n= ok\n= ok\n= ok\n= ok\n= ok\n= #2\n= ok\n= ok\n= ok\n= ok\n= ~1\n= ok\n- unlink #2\n- free #2\n= ok\n")
unfolding all_of_a_run
preserved_reflector_is_looked_at_after_the_slots = record { writes = refl; passes = refl; audited = refl }

-- A map of which an entry tells is looked at before the key, and the key before the value, each of which is exposed in between and leads to nothing more.
pub map_comes_before_its_key : Works default_limits ample input.map_comes_before_its_key
    (codes "= #1\n= @1\n= @2\n= @3\n= @4\n= @5\n= ok\n= ok\n= ok\n= ok\n= ok\n= ok\n= ok\n= ok\n= ok\n= ok\n= ok\n= #2\n= ok\n= ok\n= ok\n= ok\n= @2\n= ok\n= @3\n= ok\n- unlink #2\n- free #2\n= ok\n")
unfolding all_of_a_run
map_comes_before_its_key = record { writes = refl; passes = refl; audited = refl }

-- A black key of a gray map is no node, so a collection with one candidate, the holder of the map, the map and the value takes six units.
pub black_key_is_not_looked_at : Works default_limits ample input.black_key_is_not_looked_at
    (codes "= #1\n= @1\n= @2\n= @3\n= ok\n= ok\n= ok\n= ok\n= #2\n= ok\n= ok\n= ok\n= ok\n- unlink #2\n- free #2\n= ok\n= @1\n= @3\n")
unfolding all_of_a_run
black_key_is_not_looked_at = record { writes = refl; passes = refl; audited = refl }

-- An unlinked native gives up its slots in rising order, each with all that goes with it before the next one.
pub unlinking_empties_slots_in_rising_order : Works default_limits ample input.unlinking_empties_slots_in_rising_order
    (codes "= #1\n= #2\n= #3\n= #4\n= ok\n= ok\n= ok\n= ok\n= ok\n= ok\n= ok\n= ok\n= ok\n- unlink #1\n- free #3\n- free #4\n- free #2\n- free #1\n= ok\n")
unfolding all_of_a_run
unlinking_empties_slots_in_rising_order = record { writes = refl; passes = refl; audited = refl }

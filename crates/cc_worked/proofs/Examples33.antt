-- WORKED EXAMPLES, part 33: what each writes, and that its run is lawful, quiet and passes the audit.
-- Made by tools/worked_examples.py from examples/worked.txt.
use Rattle.std.specs.Prelude.{codes, refl}
use Rattle.cc_worked.specs.Examples.{default_limits, ample}
use Rattle.cc_worked.specs.Inputs as input
use Rattle.cc_worked.specs.Works.{Works}
use Rattle.cc_worked.proofs.Opened.{all_of_a_run}

-- A native that comes back between the last node and the end of the collection is kept, and goes with the next collection.
pub brought_back_before_the_last_unit : Works default_limits ample input.brought_back_before_the_last_unit
    (codes "= ok\n= #1\n= ok\n= #1\n= ok\n= ok\n= ok\n= #1\n= ok\n= ok\n+ #1\n= census 1\n- unlink #1\n- free #1\n= ok\n= census 0\n")
unfolding all_of_a_run
brought_back_before_the_last_unit = record { writes = refl; passes = refl; audited = refl }

-- A weak register that is read before the end's unit gives the native, and behind it nothing.
pub asked_right_before_and_behind_the_end : Works default_limits ample input.asked_right_before_and_behind_the_end
    (codes "= ok\n= #1\n= ok\n= #1\n= #2\n= ok\n= #2\n= ok\n= ok\n= ok\n= #1\n- unlink #2\n- free #2\n= ok\n= none\n= #1\n+ #1\n= census 1\n")
unfolding all_of_a_run
asked_right_before_and_behind_the_end = record { writes = refl; passes = refl; audited = refl }

-- With the native comes all that it leads to: a neighbour, its reflector and the value of an entry.
pub brings_back_all_that_it_leads_to : Works default_limits ample input.brings_back_all_that_it_leads_to
    (codes "= ok\n= #1\n= #2\n= ok\n= ok\n= ~2\n= @1\n= @2\n= ok\n= ok\n= #1\n= ok\n= ok\n= ok\n= ok\n= ok\n= ok\n= #1\n= ok\n= ok\n= #2\n= ~2\n= @1\n= @2\n+ #1\n+ #2\n+ ~2\n+ @1\n+ @2\n= census 5\n")
unfolding all_of_a_run
brings_back_all_that_it_leads_to = record { writes = refl; passes = refl; audited = refl }

-- A native that a weak register brings back for a moment is kept by the collection that runs, and told by the next.
pub brought_back_and_let_go : Works default_limits ample input.brought_back_and_let_go
    (codes "= ok\n= #1\n= ok\n= #1\n= #2\n= ok\n= ok\n= ok\n= ok\n= #1\n= ok\n- unlink #2\n- free #2\n= ok\n- unlink #1\n- free #1\n= ok\n")
unfolding all_of_a_run
brought_back_and_let_go = record { writes = refl; passes = refl; audited = refl }

-- The next native in the place of a freed one is not taken for the one that was noted.
pub key_of_a_freed_native_is_not_the_noted_one : Works default_limits ample input.key_of_a_freed_native_is_not_the_noted_one
    (codes "= ok\n= #1\n= #1\n- free #1\n= ok\n= #2\n= none\n= #3\n= #3\n= #3\n")
unfolding all_of_a_run
key_of_a_freed_native_is_not_the_noted_one = record { writes = refl; passes = refl; audited = refl }

-- A native of no slots that was unlinked has nothing to lose but its reflector, and is given no more.
pub native_without_slots_is_not_given_once_unlinked : Works default_limits ample input.native_without_slots_is_not_given_once_unlinked
    (codes "= ok\n= #1\n= ~1\n= @1\n= ok\n= ok\n= #1\n= ok\n= ok\n= ok\n= ok\n- unlink #1\n= ok\n= none\n+ #1\n+ ~1\n+ @1\n= census 3\n- free ~1\n- free #1\n- free @1\n= ok\n")
unfolding all_of_a_run
native_without_slots_is_not_given_once_unlinked = record { writes = refl; passes = refl; audited = refl }

-- What only a weak register names is freed when its last reference goes, and the register then gives nothing.
pub weak_register_is_no_root : Works default_limits ample input.weak_register_is_no_root
    (codes "= ok\n= #1\n= @1\n= ok\n= #1\n= ok\n- free #1\n= ok\n- free @1\n= ok\n= none\n= census 0\n")
unfolding all_of_a_run
weak_register_is_no_root = record { writes = refl; passes = refl; audited = refl }

-- No path begins at a weak register: there is one again once the native was brought back.
pub why_of_what_a_weak_register_names : Works default_limits ample input.why_of_what_a_weak_register_names
    (codes "= ok\n= #1\n= ok\n= #1\n: #1 n0\n= ok\n= ok\n= none\n= #1\n: #1 n3\n= ok\n")
unfolding all_of_a_run
why_of_what_a_weak_register_names = record { writes = refl; passes = refl; audited = refl }

-- WORKED EXAMPLES, part 7: what each writes, and that its run is lawful, quiet and passes the audit.
-- Made by tools/worked_examples.py from examples/worked.txt.
use Rattle.std.specs.Prelude.{codes, refl}
use Rattle.cc_worked.specs.Examples.{default_limits, ample}
use Rattle.cc_worked.specs.Inputs as input
use Rattle.cc_worked.specs.Works.{Works}
use Rattle.cc_worked.proofs.Opened.{all_of_a_run}

-- The entry of a map that is freed is dropped, while its key and its value live on.
pub entry_goes_with_its_map : Works default_limits ample input.entry_goes_with_its_map
    (codes "= @1\n= @2\n= @3\n= ok\n= ok\n- free @1\n= ok\n= @4\n= none\n+ @2\n+ @3\n+ @4\n= census 3\n")
unfolding all_of_a_run
entry_goes_with_its_map = record { writes = refl; passes = refl; audited = refl }

-- A weak map that is its own key keeps the value as long as it lives.
pub map_is_its_own_key : Works default_limits ample input.map_is_its_own_key
    (codes "= @1\n= @2\n= ok\n= ok\n= ok\n= @2\n= ok\n= ok\n- free @1\n- free @2\n= ok\n")
unfolding all_of_a_run
map_is_its_own_key = record { writes = refl; passes = refl; audited = refl }

-- An entry does not keep its map, also where that is its value.
pub map_is_a_value_of_its_own : Works default_limits ample input.map_is_a_value_of_its_own
    (codes "= @1\n= @2\n= ok\n= @1\n= ok\n= ok\n- free @1\n= ok\n+ @2\n= census 1\n")
unfolding all_of_a_run
map_is_a_value_of_its_own = record { writes = refl; passes = refl; audited = refl }

-- The value of two entries lives by the one whose key lives, and goes when that key goes too.
pub two_entries_have_one_value : Works default_limits ample input.two_entries_have_one_value
    (codes "= @1\n= @2\n= @3\n= @4\n= ok\n= ok\n= ok\n= ok\n- free @2\n= ok\n= @4\n= ok\n= ok\n- free @3\n- free @4\n= ok\n")
unfolding all_of_a_run
two_entries_have_one_value = record { writes = refl; passes = refl; audited = refl }

-- An entry does not keep a value that is its own key.
pub value_is_its_own_key : Works default_limits ample input.value_is_its_own_key
    (codes "= @1\n= @2\n= ok\n= ok\n= @2\n= ok\n= ok\n- free @2\n= ok\n+ @1\n= census 1\n")
unfolding all_of_a_run
value_is_its_own_key = record { writes = refl; passes = refl; audited = refl }

-- A reflector is not preserved where its entry is taken out.
pub taken_out_entry_preserves_nothing : Works default_limits ample input.taken_out_entry_preserves_nothing
    (codes "= #1\n= ~1\n= @1\n= ok\n= ok\n- free ~1\n= ok\n+ #1\n+ @1\n= census 2\n")
unfolding all_of_a_run
taken_out_entry_preserves_nothing = record { writes = refl; passes = refl; audited = refl }

-- An entry is taken out of one map, where the other keys of that map and the same key of another map keep theirs.
pub entry_is_taken_out_of_its_map_alone : Works default_limits ample input.entry_is_taken_out_of_its_map_alone
    (codes "= @1\n= @2\n= @3\n= @4\n= ok\n= ok\n= ok\n= ok\n= none\n= @4\n= @3\n")
unfolding all_of_a_run
entry_is_taken_out_of_its_map_alone = record { writes = refl; passes = refl; audited = refl }

-- A reflector that is a value lives by its map and a key that a native holds, and goes with its native when the map goes.
pub value_goes_with_its_map : Works default_limits ample input.value_goes_with_its_map
    (codes "= #1\n= #2\n= ~2\n= @1\n= @2\n= ok\n= ok\n= ok\n= ok\n= ok\n= ok\n= ok\n= ok\n- free ~2\n- free #2\n- free @1\n= ok\n+ #1\n+ @2\n= census 2\n")
unfolding all_of_a_run
value_goes_with_its_map = record { writes = refl; passes = refl; audited = refl }

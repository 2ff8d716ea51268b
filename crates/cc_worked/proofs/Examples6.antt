-- WORKED EXAMPLES, part 6: what each writes, and that its run is lawful, quiet and passes the audit.
-- Made by tools/worked_examples.py from examples/worked.txt.
use Rattle.std.specs.Prelude.{codes, refl}
use Rattle.cc_worked.specs.Examples.{default_limits, ample}
use Rattle.cc_worked.specs.Inputs as input
use Rattle.cc_worked.specs.Works.{Works}
use Rattle.cc_worked.proofs.Opened.{all_of_a_run}

-- A reflector that became a key lives as long as its native, and its entry with it.
pub entry_preserves_its_reflector_key : Works default_limits ample input.entry_preserves_its_reflector_key
    (codes "= #1\n= ~1\n= @1\n= @2\n= ok\n= ok\n= ok\n= ok\n= ~1\n= @2\n")
unfolding all_of_a_run
entry_preserves_its_reflector_key = record { writes = refl; passes = refl; audited = refl }

-- Gc, collect and gc take a cycle that goes through an entry of a map that lives on.
pub cycle_through_an_entry : Works default_limits ample input.cycle_through_an_entry
    (codes "= #1\n= ~1\n= @1\n= @2\n= ok\n= ok\n= ok\n= ok\n= ok\n= ok\n- unlink #1\n= ok\n- free ~1\n- free #1\n- free @2\n= ok\n+ @1\n= census 1\n")
unfolding all_of_a_run
cycle_through_an_entry = record { writes = refl; passes = refl; audited = refl }

-- A collection keeps the value of an entry whose key a live native holds, and what the value leads to.
pub value_lives_by_its_mapping : Works default_limits ample input.value_lives_by_its_mapping
    (codes "= #1\n= #2\n= @1\n= @2\n= @3\n= ~2\n= ok\n= ok\n= ok\n= ok\n= ok\n= ok\n= ok\n= ok\n= ok\n= @2\n= @3\n= ~2\n= #2\n")
unfolding all_of_a_run
value_lives_by_its_mapping = record { writes = refl; passes = refl; audited = refl }

-- An entry's value is replaced, read and taken out; a register frees what it alone held when something else comes into it.
pub entries_are_replaced_and_taken_out : Works default_limits ample input.entries_are_replaced_and_taken_out
    (codes "= #1\n- free #1\n= #2\n= @1\n= @2\n= @3\n= ok\n= ok\n= @2\n= ok\n= none\n= none\n= ok\n- free @3\n= ok\n")
unfolding all_of_a_run
entries_are_replaced_and_taken_out = record { writes = refl; passes = refl; audited = refl }

-- Reading a slot of a weak map is refused for the kind of the object, and not for the slot.
pub weak_map_has_no_slot_to_read : Works default_limits ample input.weak_map_has_no_slot_to_read
    (codes "= @1\n! kind\n")
unfolding all_of_a_run
weak_map_has_no_slot_to_read = record { writes = refl; passes = refl; audited = refl }

-- An entry is not looked up by an empty register.
pub empty_key_is_refused : Works default_limits ample input.empty_key_is_refused
    (codes "= @1\n! empty\n= none\n")
unfolding all_of_a_run
empty_key_is_refused = record { writes = refl; passes = refl; audited = refl }

-- Writing a slot of a weak map, or emptying it, is refused for the kind of the object, but first for an empty register.
pub weak_map_has_no_slot_to_write : Works default_limits ample input.weak_map_has_no_slot_to_write
    (codes "= @1\n! kind\n! kind\n! empty\n! empty\n! kind\n")
unfolding all_of_a_run
weak_map_has_no_slot_to_write = record { writes = refl; passes = refl; audited = refl }

-- A weak map that is the value of an entry of another one lives by it, and so do the values of its own entries.
pub map_reached_through_an_entry_alone : Works default_limits ample input.map_reached_through_an_entry_alone
    (codes "= @1\n= @2\n= @3\n= @4\n= @5\n= ok\n= ok\n= ok\n= ok\n= ok\n= @2\n= @5\n= ok\n= ok\n= ok\n- free @2\n- free @5\n= ok\n+ @1\n+ @3\n+ @4\n= census 3\n")
unfolding all_of_a_run
map_reached_through_an_entry_alone = record { writes = refl; passes = refl; audited = refl }

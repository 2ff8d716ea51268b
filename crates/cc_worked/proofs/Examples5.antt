-- WORKED EXAMPLES, part 5: what each writes, and that its run is lawful, quiet and passes the audit.
-- Made by tools/worked_examples.py from examples/worked.txt.
use Rattle.std.specs.Prelude.{codes, refl}
use Rattle.cc_worked.specs.Examples.{default_limits, ample}
use Rattle.cc_worked.specs.Inputs as input
use Rattle.cc_worked.specs.Works.{Works}
use Rattle.cc_worked.proofs.Opened.{all_of_a_run}

-- A reflector that was swept and is made again has four empty slots.
pub reflector_made_again_is_blank : Works default_limits ample input.reflector_made_again_is_blank
    (codes "= #1\n= ~1\n= @1\n= ok\n- free ~1\n= ok\n= ~1\n= none\n= none\n! slot\n= ok\n= ok\n- free ~1\n- free #1\n= ok\n")
unfolding all_of_a_run
reflector_made_again_is_blank = record { writes = refl; passes = refl; audited = refl }

-- A reflector that is swept lets its native go before the next object is swept.
pub native_is_freed_before_the_next_object_is_swept : Works default_limits ample input.native_is_freed_before_the_next_object_is_swept
    (codes "= #1\n= ~1\n= @1\n= ok\n= ok\n= ok\n- free ~1\n- free #1\n- free @1\n= ok\n")
unfolding all_of_a_run
native_is_freed_before_the_next_object_is_swept = record { writes = refl; passes = refl; audited = refl }

-- A native that is wrapped twice has one reflector, and lives by it.
pub native_has_one_reflector : Works default_limits ample input.native_has_one_reflector
    (codes "= #1\n= ~1\n= ~1\n= ok\n= ok\n= ok\n= #1\n+ #1\n+ ~1\n= census 2\n")
unfolding all_of_a_run
native_has_one_reflector = record { writes = refl; passes = refl; audited = refl }

-- A reflector that was swept and is made again is preserved like the first one.
pub reflector_made_again_is_preserved : Works default_limits ample input.reflector_made_again_is_preserved
    (codes "= #1\n= ~1\n= ok\n- free ~1\n= ok\n= ~1\n= ok\n= ok\n= ok\n+ #1\n+ ~1\n= census 2\n")
unfolding all_of_a_run
reflector_made_again_is_preserved = record { writes = refl; passes = refl; audited = refl }

-- A reflector is preserved where a slot of it is emptied, too.
pub emptied_slot_preserves_its_reflector : Works default_limits ample input.emptied_slot_preserves_its_reflector
    (codes "= #1\n= ~1\n= ok\n= ok\n= ok\n+ #1\n+ ~1\n= census 2\n")
unfolding all_of_a_run
emptied_slot_preserves_its_reflector = record { writes = refl; passes = refl; audited = refl }

-- A reflector whose slot is not written is not preserved.
pub refused_put_preserves_nothing : Works default_limits ample input.refused_put_preserves_nothing
    (codes "= #1\n= ~1\n! slot\n! slot\n! empty\n= ok\n- free ~1\n= ok\n+ #1\n= census 1\n")
unfolding all_of_a_run
refused_put_preserves_nothing = record { writes = refl; passes = refl; audited = refl }

-- A reflector is not preserved where it comes into a slot, or becomes a value.
pub stored_reflector_is_not_preserved : Works default_limits ample input.stored_reflector_is_not_preserved
    (codes "= #1\n= ~1\n= @1\n= ok\n= @2\n= ok\n= ok\n= ok\n- free ~1\n- free @1\n= ok\n+ #1\n+ @2\n= census 2\n")
unfolding all_of_a_run
stored_reflector_is_not_preserved = record { writes = refl; passes = refl; audited = refl }

-- An entry whose value alone holds its key is dropped, with both.
pub entry_does_not_keep_its_key : Works default_limits ample input.entry_does_not_keep_its_key
    (codes "= @1\n= @2\n= @3\n= ok\n= ok\n= ok\n= ok\n- free @2\n- free @3\n= ok\n+ @1\n= census 1\n")
unfolding all_of_a_run
entry_does_not_keep_its_key = record { writes = refl; passes = refl; audited = refl }

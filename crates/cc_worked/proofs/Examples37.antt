-- WORKED EXAMPLES, part 37: what each writes, and that its run is lawful, quiet and passes the audit.
-- Made by tools/worked_examples.py from examples/worked.txt.
use Rattle.std.specs.Prelude.{codes, refl}
use Rattle.cc_worked.specs.Examples.{default_limits, ample}
use Rattle.cc_worked.specs.Inputs as input
use Rattle.cc_worked.specs.Works.{Works}
use Rattle.cc_worked.proofs.Opened.{all_of_a_run}

-- What is black by the old mark and gray by the new one is exposed with all that it holds, so a slot that is emptied afterwards frees nothing.
pub gray_by_the_new_mark_is_exposed : Works default_limits ample input.gray_by_the_new_mark_is_exposed
    (codes "= ok\n= #1\n= @1\n= @2\n= ok\n= ok\n= ok\n= ok\n= ok\n= @1\n= @2\n= ok\n= ok\n= ok\n+ #1\n+ @1\n+ @2\n= census 3\n")
unfolding all_of_a_run
gray_by_the_new_mark_is_exposed = record { writes = refl; passes = refl; audited = refl }

-- An exposed object leaves the gray list, and goes on no other: one unit more ends the marking.
pub exposed_object_is_not_scanned : Works default_limits ample input.exposed_object_is_not_scanned
    (codes "= ok\n= #1\n= @1\n= @2\n= ok\n= ok\n= ok\n= ok\n= @3\n= ok\n= ok\n= @1\n- free @3\n= ok\n")
unfolding all_of_a_run
exposed_object_is_not_scanned = record { writes = refl; passes = refl; audited = refl }

-- What is gray by the old mark and by the new one is exposed by both: it is kept, and then freed.
pub gray_by_both_marks_is_exposed : Works default_limits ample input.gray_by_both_marks_is_exposed
    (codes "= ok\n= #1\n= @1\n= @2\n= ok\n= ok\n= ok\n= ok\n= ok\n= ok\n= @1\n= ok\n= ok\n= ok\n+ #1\n+ @1\n+ @2\n= census 3\n- free @1\n- free @2\n= ok\n")
unfolding all_of_a_run
gray_by_both_marks_is_exposed = record { writes = refl; passes = refl; audited = refl }

-- The value of an entry is exposed where it is read, and what it holds with it, though it is black by the old mark and has no new one.
pub value_without_a_mark_is_exposed : Works default_limits ample input.value_without_a_mark_is_exposed
    (codes "= ok\n= @1\n= @2\n= @3\n= @4\n= ok\n= ok\n= ok\n= ok\n= ok\n= @3\n= @4\n= ok\n= ok\n= ok\n= ok\n+ @1\n+ @2\n+ @3\n+ @4\n= census 4\n- free @3\n= ok\n")
unfolding all_of_a_run
value_without_a_mark_is_exposed = record { writes = refl; passes = refl; audited = refl }

-- What the word exposes is kept by the marking, though its native lets it go.
pub expose_exposes_into_new_marks : Works default_limits ample input.expose_exposes_into_new_marks
    (codes "= ok\n= #1\n= @1\n= @2\n= ok\n= ok\n= ok\n= ok\n= ok\n= @1\n= ok\n= ok\n+ #1\n+ @1\n+ @2\n= census 3\n- free @1\n- free @2\n= ok\n")
unfolding all_of_a_run
expose_exposes_into_new_marks = record { writes = refl; passes = refl; audited = refl }

-- A script object that is moved from slot to slot between units is kept by the marking with what it holds, and freed by the next one.
pub move_exposes_into_new_marks : Works default_limits ample input.move_exposes_into_new_marks
    (codes "= ok\n= #1\n= @1\n= @2\n= ok\n= ok\n= ok\n= ok\n= ok\n= #2\n= @1\n= ok\n= ok\n+ #1\n+ #2\n+ @1\n+ @2\n= census 4\n- free @1\n- free @2\n= ok\n")
unfolding all_of_a_run
move_exposes_into_new_marks = record { writes = refl; passes = refl; audited = refl }

-- The value of an entry is kept where it was read while a marking went on, though the entry was replaced and taken out.
pub entry_gives_into_new_marks : Works default_limits ample input.entry_gives_into_new_marks
    (codes "= ok\n= @1\n= @2\n= @3\n= ok\n= ok\n= @4\n= ok\n= @3\n= ok\n= ok\n= ok\n= @4\n= ok\n= ok\n+ @1\n+ @2\n+ @3\n+ @4\n= census 4\n= ok\n= ok\n- free @3\n- free @4\n= ok\n")
unfolding all_of_a_run
entry_gives_into_new_marks = record { writes = refl; passes = refl; audited = refl }

-- What an entry gave and nobody read goes where the entry is replaced, and the key keeps the new value alone.
pub entry_is_replaced_between_units : Works default_limits ample input.entry_is_replaced_between_units
    (codes "= ok\n= @1\n= @2\n= @3\n= @4\n= ok\n= ok\n= ok\n= ok\n= ok\n- free @3\n= ok\n+ @1\n+ @2\n+ @4\n= census 3\n= ok\n- free @2\n- free @4\n= ok\n")
unfolding all_of_a_run
entry_is_replaced_between_units = record { writes = refl; passes = refl; audited = refl }

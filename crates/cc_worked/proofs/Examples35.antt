-- WORKED EXAMPLES, part 35: what each writes, and that its run is lawful, quiet and passes the audit.
-- Made by tools/worked_examples.py from examples/worked.txt.
use Rattle.std.specs.Prelude.{codes, refl}
use Rattle.cc_worked.specs.Examples.{default_limits, ample, refused_at}
use Rattle.cc_worked.specs.Inputs as input
use Rattle.cc_worked.specs.Works.{Works}
use Rattle.cc_worked.proofs.Opened.{all_of_a_run}

-- A native whose mark was taken is a suspect again once what a weak register brought back is let go.
pub forgotten_suspect_is_brought_back : Works default_limits ample input.forgotten_suspect_is_brought_back
    (codes "= ok\n= #1\n= ok\n= #1\n= #1\n= ok\n= ok\n= ok\n= ok\n= #1\n= ok\n= ok\n= ok\n- unlink #1\n- free #1\n= ok\n= none\n")
unfolding all_of_a_run
forgotten_suspect_is_brought_back = record { writes = refl; passes = refl; audited = refl }

-- Weak and deref take a weak and a native register in their own order, and no other word but drop names a weak register.
pub refused_forms_of_weak_registers : Works default_limits ample input.refused_forms_of_weak_registers
    (codes "= ok\n= #1\n= @1\n! line\n! line\n! line\n! line\n! line\n! line\n! line\n! line\n! line\n! line\n! line\n! line\n! line\n! line\n! line\n! line\n! line\n! line\n! line\n! line\n= #1\n= #1\n")
unfolding all_of_a_run
refused_forms_of_weak_registers = record { writes = refl; passes = refl; audited = refl }

-- Version 1 has neither word, and no weak register to drop.
pub weak_registers_are_words_of_version_2 : Works default_limits ample input.weak_registers_are_words_of_version_2
    (codes "! line\n! line\n! line\n= #1\n! line\n- free #1\n= ok\n")
unfolding all_of_a_run
weak_registers_are_words_of_version_2 = record { writes = refl; passes = refl; audited = refl }

-- Neither word is a wish for memory: the second one is that of the second native.
pub weak_registers_take_no_memory : Works default_limits (refused_at 2) input.weak_registers_take_no_memory
    (codes "= ok\n= #1\n= #1\n= #1\n! nomem\n= #2\n= #1\n")
unfolding all_of_a_run
weak_registers_take_no_memory = record { writes = refl; passes = refl; audited = refl }

-- A collection that is refused its memory at its begin ends no native, and a weak register gives what it gave.
pub brought_back_while_a_begin_is_refused : Works default_limits (refused_at 2) input.brought_back_while_a_begin_is_refused
    (codes "= ok\n= #1\n= ok\n= #1\n= ok\n- abandon\n! nomem\n= #1\n= ok\n- unlink #1\n- free #1\n= ok\n= none\n")
unfolding all_of_a_run
brought_back_while_a_begin_is_refused = record { writes = refl; passes = refl; audited = refl }

-- What is read from a slot while a marking goes on, and taken out of it, is kept; what nothing holds is freed.
pub object_read_between_units_is_kept : Works default_limits ample input.object_read_between_units_is_kept
    (codes "= ok\n= @1\n= @2\n= ok\n= ok\n= @3\n= ok\n= ok\n= @2\n= ok\n- free @3\n= ok\n")
unfolding all_of_a_run
object_read_between_units_is_kept = record { writes = refl; passes = refl; audited = refl }

-- A slice ends the marking that goes on, outside its units, and frees what has no mark.
pub slice_ends_a_marking_first : Works default_limits ample input.slice_ends_a_marking_first
    (codes "= ok\n= @1\n= ok\n= ok\n- free @1\n= ok\n")
unfolding all_of_a_run
slice_ends_a_marking_first = record { writes = refl; passes = refl; audited = refl }

-- Two units, that of the beginning and that of the end, are a whole marking where there is nothing to scan.
pub marking_of_nothing : Works default_limits ample input.marking_of_nothing
    (codes "= ok\n= ok\n= ok\n= @1\n= ok\n= ok\n- free @1\n= ok\n= ok\n= ok\n= census 0\n")
unfolding all_of_a_run
marking_of_nothing = record { writes = refl; passes = refl; audited = refl }

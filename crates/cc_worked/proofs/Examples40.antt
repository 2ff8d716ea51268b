-- WORKED EXAMPLES, part 40: what each writes, and that its run is lawful, quiet and passes the audit.
-- Made by tools/worked_examples.py from examples/worked.txt.
use Rattle.std.specs.Prelude.{codes, refl}
use Rattle.cc_worked.specs.Examples.{default_limits, ample}
use Rattle.cc_worked.specs.Inputs as input
use Rattle.cc_worked.specs.Works.{Works}
use Rattle.cc_worked.proofs.Opened.{all_of_a_run}

-- A census, a path, a forget and what is refused leave a marking as it is.
pub marking_beside_why_and_forget : Works default_limits ample input.marking_beside_why_and_forget
    (codes "= ok\n= #1\n= #1\n= ok\n= @1\n= @2\n= ok\n= ok\n= @3\n= ok\n= ok\n+ #1\n+ @1\n+ @2\n+ @3\n= census 4\n: @1 s0\n: @2 @1\n= ok\n= ok\n! slot\n! line\n= ok\n- free @3\n= ok\n+ #1\n+ @1\n+ @2\n= census 3\n")
unfolding all_of_a_run
marking_beside_why_and_forget = record { writes = refl; passes = refl; audited = refl }

-- A marking that is dropped by the first gc of a row leaves nothing behind.
pub marking_before_a_quiet_census : Works default_limits ample input.marking_before_a_quiet_census
    (codes "= ok\n= #1\n= ~1\n= ok\n= @1\n= ok\n= ok\n= ok\n= ok\n= ok\n- free @1\n= ok\n- unlink #1\n= ok\n- free ~1\n- free #1\n= ok\n= census 0\n= ok\n")
unfolding all_of_a_run
marking_before_a_quiet_census = record { writes = refl; passes = refl; audited = refl }

-- The word takes a number of units from 1 to 1000000 without zeros in front, and nothing else.
pub refused_forms_of_mark : Works default_limits ample input.refused_forms_of_mark
    (codes "= ok\n! line\n! line\n! line\n! line\n! line\n! line\n! line\n! line\n! line\n! line\n! line\n! line\n! line\n! line\n! line\n= ok\n= ok\n= ok\n! line\n")
unfolding all_of_a_run
refused_forms_of_mark = record { writes = refl; passes = refl; audited = refl }

-- Version 1 has no such word, and neither has the first line.
pub mark_is_a_word_of_version_2 : Works default_limits ample input.mark_is_a_word_of_version_2
    (codes "! line\n! line\n= @1\n! line\n= ok\n! line\n- free @1\n= ok\n")
unfolding all_of_a_run
mark_is_a_word_of_version_2 = record { writes = refl; passes = refl; audited = refl }

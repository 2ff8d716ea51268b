-- WORKED EXAMPLES, part 32: what each writes, and that its run is lawful, quiet and passes the audit.
-- Made by tools/worked_examples.py from examples/worked.txt.
use Rattle.std.specs.Prelude.{codes, refl}
use Rattle.cc_worked.specs.Examples.{default_limits, ample, refused_at}
use Rattle.cc_worked.specs.Inputs as input
use Rattle.cc_worked.specs.Works.{Works}
use Rattle.cc_worked.proofs.Opened.{all_of_a_run}

-- A native whose mark was taken is a candidate once a reference to it is given up again.
pub suspected_again_after_forget : Works default_limits ample input.suspected_again_after_forget
    (codes "= ok\n= #1\n= ok\n= #1\n= ok\n= ok\n= ok\n- unlink #1\n- free #1\n= ok\n")
unfolding all_of_a_run
suspected_again_after_forget = record { writes = refl; passes = refl; audited = refl }

-- A second forget finds nothing more, and neither changes what is there.
pub forgotten_twice : Works default_limits ample input.forgotten_twice
    (codes "= ok\n= #1\n= #1\n= ok\n= #2\n= ok\n= ok\n= ok\n= ok\n+ #1\n+ #2\n= census 2\n- unlink #2\n- free #2\n= ok\n= ok\n+ #1\n= census 1\n")
unfolding all_of_a_run
forgotten_twice = record { writes = refl; passes = refl; audited = refl }

-- It is answered where there is nothing, before a collection and behind it.
pub forgotten_with_no_suspects : Works default_limits ample input.forgotten_with_no_suspects
    (codes "= ok\n= ok\n= ok\n= ok\n= ok\n= ok\n= ok\n= ok\n= ok\n= census 0\n")
unfolding all_of_a_run
forgotten_with_no_suspects = record { writes = refl; passes = refl; audited = refl }

-- The word stands alone, in small letters, with spaces around it at most.
pub refused_forms_of_forget : Works default_limits ample input.refused_forms_of_forget
    (codes "= ok\n! line\n! line\n! line\n! line\n! line\n! line\n! line\n= ok\n! line\n= ok\n")
unfolding all_of_a_run
refused_forms_of_forget = record { writes = refl; passes = refl; audited = refl }

-- Version 1 has no such word, and neither has the first line.
pub forget_is_a_word_of_version_2 : Works default_limits ample input.forget_is_a_word_of_version_2
    (codes "! line\n! line\n= #1\n! line\n- free #1\n= ok\n")
unfolding all_of_a_run
forget_is_a_word_of_version_2 = record { writes = refl; passes = refl; audited = refl }

-- It is no wish for memory: the second one is that of the second native.
pub forget_takes_no_memory : Works default_limits (refused_at 2) input.forget_takes_no_memory
    (codes "= ok\n= #1\n= ok\n! nomem\n= #2\n= ok\n")
unfolding all_of_a_run
forget_takes_no_memory = record { writes = refl; passes = refl; audited = refl }

-- What only a weak register names comes back whole before a collection and while one runs, and is gone once it was unlinked.
pub weak_register_brings_a_native_back : Works default_limits ample input.weak_register_brings_a_native_back
    (codes "= ok\n= #1\n= ok\n= #1\n= ok\n= #1\n= ok\n= ok\n= #1\n= ok\n= ok\n- unlink #1\n- free #1\n= ok\n= none\n")
unfolding all_of_a_run
weak_register_brings_a_native_back = record { writes = refl; passes = refl; audited = refl }

-- An unlinked native that its dead reflector still holds is given no more, though it is not freed.
pub unlinked_native_is_not_given : Works default_limits ample input.unlinked_native_is_not_given
    (codes "= ok\n= #1\n= ~1\n= ok\n= #1\n= ok\n= ok\n= ok\n- unlink #1\n= ok\n= none\n+ #1\n+ ~1\n= census 2\n- free ~1\n- free #1\n= ok\n= none\n")
unfolding all_of_a_run
unlinked_native_is_not_given = record { writes = refl; passes = refl; audited = refl }

-- WORKED EXAMPLES, part 29: what each writes, and that its run is lawful, quiet and passes the audit.
-- Made by tools/worked_examples.py from examples/worked.txt.
use Rattle.std.specs.Prelude.{codes, refl}
use Rattle.cc_worked.specs.Examples.{default_limits, ample}
use Rattle.cc_worked.specs.Inputs as input
use Rattle.cc_worked.specs.Works.{Works}
use Rattle.cc_worked.proofs.Opened.{all_of_a_run}

-- It is asked for with one name, whose number is at least 1, and with nothing else.
pub forms_of_why_are_few : Works default_limits ample input.forms_of_why_are_few
    (codes "= ok\n= #1\n= @1\n= ~1\n! line\n! line\n! line\n! line\n! line\n! line\n! line\n! line\n! line\n! line\n! line\n! line\n! line\n! line\n! line\n! line\n! line\n! line\n! line\n! line\n! line\n! line\n! line\n! line\n! line\n! line\n! line\n! line\n! line\n! line\n! line\n! line\n! line\n! line\n! line\n! line\n! line\n: #1 n0\n= ok\n: @1 s0\n= ok\n: ~1 s1\n= ok\n")
unfolding all_of_a_run
forms_of_why_are_few = record { writes = refl; passes = refl; audited = refl }

-- Version 1 has no such word.
pub version_one_has_no_why : Works default_limits ample input.version_one_has_no_why
    (codes "= #1\n! line\n! line\n! line\n! line\n")
unfolding all_of_a_run
version_one_has_no_why = record { writes = refl; passes = refl; audited = refl }

-- It does not ask for version 2, and makes the script one of version 1 as any other line that is not in its grammar.
pub why_before_version_two : Works default_limits ample input.why_before_version_two
    (codes "! line\n! line\n! line\n")
unfolding all_of_a_run
why_before_version_two = record { writes = refl; passes = refl; audited = refl }

-- It takes no unit of a collection that runs, and tells what the registers reach at that moment: of a cycle that they let go, nothing.
pub why_between_slices : Works default_limits ample input.why_between_slices
    (codes "= ok\n= #1\n= #2\n= ok\n= ok\n= ok\n: #1 n0\n: #2 #1\n= ok\n= ok\n: #1 n0\n: #2 #1\n= ok\n= ok\n= none\n= none\n- unlink #1\n- unlink #2\n- free #1\n- free #2\n= ok\n= ok\n= #3\n= #4\n= ok\n= ok\n= ok\n= ok\n= none\n= ok\n= none\n= ok\n= none\n= ok\n= none\n- unlink #3\n- unlink #4\n- free #3\n- free #4\n= ok\n= none\n= none\n")
unfolding all_of_a_run
why_between_slices = record { writes = refl; passes = refl; audited = refl }

-- A native that a running collection has as a candidate follows from nothing when it is freed, and one that is made in its place from its own register.
pub why_of_a_freed_candidate : Works default_limits ample input.why_of_a_freed_candidate
    (codes "= ok\n= #1\n= #1\n= ok\n= ok\n: #1 n0\n= ok\n- free #1\n= ok\n= none\n= #2\n= #3\n= ok\n= ok\n= none\n: #2 n5\n= ok\n: #2 n5\n: #3 #2\n= ok\n= ok\n: #2 n5\n: #3 #2\n= ok\n= ok\n= none\n: #2 n5\n: #3 #2\n= ok\n")
unfolding all_of_a_run
why_of_a_freed_candidate = record { writes = refl; passes = refl; audited = refl }

-- A native that was unlinked, and that a reflector which nothing holds keeps, follows from nothing.
pub unlinked_native_follows_from_nothing : Works default_limits ample input.unlinked_native_follows_from_nothing
    (codes "= ok\n= #1\n= ~1\n= ok\n= ok\n= ok\n= ok\n- unlink #1\n= ok\n= none\n= none\n- free ~1\n- free #1\n= ok\n= none\n")
unfolding all_of_a_run
unlinked_native_follows_from_nothing = record { writes = refl; passes = refl; audited = refl }

-- A gray reflector to which a path goes stays gray, so the next collection takes its cycle.
pub why_exposes_nothing : Works default_limits ample input.why_exposes_nothing
    (codes "= ok\n= #1\n= ~1\n= ok\n= ok\n= ok\n: #1 n0\n: ~1 #1\n= ok\n= ok\n- unlink #1\n= ok\n- free ~1\n- free #1\n= ok\n= census 0\n")
unfolding all_of_a_run
why_exposes_nothing = record { writes = refl; passes = refl; audited = refl }

-- A native to which a path goes stays suspected where it was and becomes suspected nowhere else: the collection has one node and takes three units.
pub why_touches_nothing : Works default_limits ample input.why_touches_nothing
    (codes "= ok\n= #1\n= ok\n= #2\n= #3\n= ok\n= ok\n= ok\n= #1\n= ok\n= ok\n= none\n: #2 n1\n= ok\n: #2 n1\n: #3 #2\n= ok\n= ok\n: #2 n1\n: #3 #2\n= ok\n- unlink #1\n- free #1\n= ok\n")
unfolding all_of_a_run
why_touches_nothing = record { writes = refl; passes = refl; audited = refl }

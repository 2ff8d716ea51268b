-- WORKED EXAMPLES, part 12: what each writes, and that its run is lawful, quiet and passes the audit.
-- Made by tools/worked_examples.py from examples/worked.txt.
use Rattle.std.specs.Prelude.{codes, refl}
use Rattle.cc_worked.specs.Examples.{default_limits, ample, refused_at}
use Rattle.cc_worked.specs.Inputs as input
use Rattle.cc_worked.specs.Works.{Works}
use Rattle.cc_worked.proofs.Opened.{all_of_a_run}

-- Each of five commands takes memory once, and what changes no more than contents takes none.
pub what_takes_memory : Works default_limits (refused_at 6) input.what_takes_memory
    (codes "= #1\n= @1\n= @2\n= ~1\n= ok\n= ~1\n= ok\n= ok\n= ok\n= #1\n= ok\n! nomem\n")
unfolding all_of_a_run
what_takes_memory = record { writes = refl; passes = refl; audited = refl }

-- A reflector is not made where memory is refused, and the register that was to hold it stays as it was.
pub reflector_takes_memory : Works default_limits (refused_at 2) input.reflector_takes_memory
    (codes "= #1\n! nomem\n= none\n+ #1\n= census 1\n= ~1\n")
unfolding all_of_a_run
reflector_takes_memory = record { writes = refl; passes = refl; audited = refl }

-- A begin that finds no node, a native that leads to nothing, and the end take no memory, so what is made after them is refused.
pub unit_that_adds_nothing_takes_no_memory : Works default_limits (refused_at 3) input.unit_that_adds_nothing_takes_no_memory
    (codes "= #1\n= ok\n= #1\n= ok\n= ok\n= ok\n= ok\n! nomem\n")
unfolding all_of_a_run
unit_that_adds_nothing_takes_no_memory = record { writes = refl; passes = refl; audited = refl }

-- A native that is made where a freed candidate stood is not looked at in its place, so no memory is taken for what it holds.
pub reused_key_is_not_taken_for_its_node : Works default_limits (refused_at 4) input.reused_key_is_not_taken_for_its_node
    (codes "= #1\n= #1\n= ok\n= ok\n- free #1\n= ok\n= #2\n= ok\n= ok\n= ok\n! nomem\n")
unfolding all_of_a_run
reused_key_is_not_taken_for_its_node = record { writes = refl; passes = refl; audited = refl }

-- A candidate that is touched while its collection runs stands in the buffer behind what was touched before, and keeps that place, with the mark, when the collection is abandoned.
pub abandonment_leaves_a_candidate_at_its_place : Works default_limits (refused_at 8) input.abandonment_leaves_a_candidate_at_its_place
    (codes "= #1\n= #2\n= ok\n= #1\n= ok\n= ok\n= #3\n= ok\n= ok\n= #1\n= #4\n= #5\n= #6\n= ok\n= ok\n= #4\n= ok\n- abandon\n! nomem\n= ok\n= ok\n= ok\n= ok\n= ok\n= ok\n- unlink #3\n- free #3\n= ok\n")
unfolding all_of_a_run
abandonment_leaves_a_candidate_at_its_place = record { writes = refl; passes = refl; audited = refl }

-- A line with a token too many or too few is not in the grammar, and the next one is answered.
pub wrong_number_of_tokens : Works default_limits ample input.wrong_number_of_tokens
    (codes "! line\n! line\n= #1\n")
unfolding all_of_a_run
wrong_number_of_tokens = record { writes = refl; passes = refl; audited = refl }

-- Tokens are parted by spaces, more than one too and at both ends, and a tab, a sign, a leading zero or a capital letter is not taken.
pub spaces_part_tokens : Works default_limits ample input.spaces_part_tokens
    (codes "= #1\n! line\n! line\n! line\n! line\n! line\n! line\n! line\n! line\n= ok\n+ #1\n= census 1\n")
unfolding all_of_a_run
spaces_part_tokens = record { writes = refl; passes = refl; audited = refl }

-- What is near to a form with native registers and in none is refused.
pub forms_of_natives_are_few : Works default_limits ample input.forms_of_natives_are_few
    (codes "! line\n! line\n! line\n! line\n! line\n! line\n! line\n! line\n! line\n! line\n! line\n! line\n! line\n! line\n! line\n! line\n! line\n! line\n! line\n! line\n")
unfolding all_of_a_run
forms_of_natives_are_few = record { writes = refl; passes = refl; audited = refl }

-- WORKED EXAMPLES, part 21: what each writes, and that its run is lawful, quiet and passes the audit.
-- Made by tools/worked_examples.py from examples/worked.txt.
use Rattle.std.specs.Prelude.{◌≡◌, [], codes, refl}
use Rattle.cc_worked.specs.Examples.{limits, default_limits, ample, text_within}
use Rattle.cc_worked.specs.Inputs as input
use Rattle.cc_worked.specs.Works.{Works}
use Rattle.cc_worked.proofs.Opened.{all_of_a_run}

-- One carriage return is dropped, and two of them are not.
pub version_two_with_two_carriage_returns : Works default_limits ample input.version_two_with_two_carriage_returns
    (codes "! line\n! line\n! line\n")
unfolding all_of_a_run
version_two_with_two_carriage_returns = record { writes = refl; passes = refl; audited = refl }

-- Version 2 is asked for by a last line that no line feed ends.
pub version_two_without_a_line_feed : Works default_limits ample input.version_two_without_a_line_feed
    (codes "= ok\n")
unfolding all_of_a_run
version_two_without_a_line_feed = record { writes = refl; passes = refl; audited = refl }

-- The lines that end within the limit are answered in version 2, where the input goes on behind it.
pub version_two_within_the_bytes_allowed : text_within (limits 1000000 1000000 24) ample input.version_two_within_the_bytes_allowed
    ≡ codes "= ok\n= #1\n"
unfolding all_of_a_run
version_two_within_the_bytes_allowed = refl

-- Version 2 is not asked for where its line feed is one byte more than may be read.
pub version_two_of_one_byte_too_many : text_within (limits 1000000 1000000 9) ample input.version_two_of_one_byte_too_many
    ≡ []
unfolding all_of_a_run
version_two_of_one_byte_too_many = refl

-- In version 2 each form takes registers above 255.
pub wide_registers_in_every_form : Works default_limits ample input.wide_registers_in_every_form
    (codes "= ok\n= #1\n= @1\n= @2\n= @3\n= #1\n= @1\n= ok\n= ok\n= #1\n= @1\n= @1\n= ok\n= ok\n= @2\n= ok\n= ~1\n= #1\n= ok\n= ok\n= @1\n= ok\n= ok\n= ok\n+ #1\n+ @1\n+ @2\n+ @3\n+ ~1\n= census 5\n")
unfolding all_of_a_run
wide_registers_in_every_form = record { writes = refl; passes = refl; audited = refl }

-- In version 2 no form takes register 1024, at any place, nor 257 slots.
pub register_1024_is_in_no_form : Works default_limits ample input.register_1024_is_in_no_form
    (codes "= ok\n! line\n! line\n! line\n! line\n! line\n! line\n! line\n! line\n! line\n! line\n! line\n! line\n! line\n! line\n! line\n! line\n! line\n! line\n! line\n! line\n! line\n! line\n! line\n! line\n! line\n! line\n! line\n! line\n! line\n! line\n! line\n! line\n! line\n! line\n! line\n! line\n! line\n! line\n! line\n! line\n! line\n")
unfolding all_of_a_run
register_1024_is_in_no_form = record { writes = refl; passes = refl; audited = refl }

-- In version 1 no form takes register 256, at any place, nor 65 slots.
pub register_256_is_in_no_form_of_version_one : Works default_limits ample input.register_256_is_in_no_form_of_version_one
    (codes "! line\n! line\n! line\n! line\n! line\n! line\n! line\n! line\n! line\n! line\n! line\n! line\n! line\n! line\n! line\n! line\n! line\n! line\n! line\n! line\n! line\n! line\n! line\n! line\n! line\n! line\n! line\n! line\n! line\n! line\n! line\n! line\n! line\n! line\n! line\n! line\n! line\n! line\n! line\n! line\n! line\n")
unfolding all_of_a_run
register_256_is_in_no_form_of_version_one = record { writes = refl; passes = refl; audited = refl }

-- Script collections and collections keep what a register above 255 holds, and take it when the register lets it go.
pub registers_above_255_are_roots : Works default_limits ample input.registers_above_255_are_roots
    (codes "= ok\n= #1\n= ok\n= @1\n= ok\n= ok\n= ok\n+ #1\n+ @1\n= census 2\n= ok\n= ok\n- free @1\n= ok\n- unlink #1\n- free #1\n= ok\n= ok\n= census 0\n")
unfolding all_of_a_run
registers_above_255_are_roots = record { writes = refl; passes = refl; audited = refl }

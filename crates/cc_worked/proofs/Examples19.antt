-- WORKED EXAMPLES, part 19: what each writes, and that its run is lawful, quiet and passes the audit.
-- Made by tools/worked_examples.py from examples/worked.txt.
use Rattle.std.specs.Prelude.{codes, refl}
use Rattle.cc_worked.specs.Examples.{default_limits, ample}
use Rattle.cc_worked.specs.Inputs as input
use Rattle.cc_worked.specs.Works.{Works}
use Rattle.cc_worked.proofs.Opened.{all_of_a_run}

-- A comment before it leaves version 2 to be asked for.
pub comment_before_version_two : Works default_limits ample input.comment_before_version_two
    (codes "= ok\n")
unfolding all_of_a_run
comment_before_version_two = record { writes = refl; passes = refl; audited = refl }

-- Blank lines and comments in any number leave version 2 to be asked for, and spaces part its tokens too.
pub blank_lines_before_version_two : Works default_limits ample input.blank_lines_before_version_two
    (codes "= ok\n= #1\n")
unfolding all_of_a_run
blank_lines_before_version_two = record { writes = refl; passes = refl; audited = refl }

-- A line that is too long makes the script one of version 1.
pub long_line_before_version_two : Works default_limits ample input.long_line_before_version_two
    (codes "! long\n! line\n! line\n! line\n= #1\n")
unfolding all_of_a_run
long_line_before_version_two = record { writes = refl; passes = refl; audited = refl }

-- A comment that is too long makes the script one of version 1.
pub long_comment_before_version_two : Works default_limits ample input.long_comment_before_version_two
    (codes "! long\n! line\n! line\n")
unfolding all_of_a_run
long_comment_before_version_two = record { writes = refl; passes = refl; audited = refl }

-- A line that is not in the grammar makes the script one of version 1.
pub bad_line_before_version_two : Works default_limits ample input.bad_line_before_version_two
    (codes "! line\n! line\n! line\n")
unfolding all_of_a_run
bad_line_before_version_two = record { writes = refl; passes = refl; audited = refl }

-- A command makes the script one of version 1.
pub command_before_version_two : Works default_limits ample input.command_before_version_two
    (codes "= census 0\n! line\n! line\n")
unfolding all_of_a_run
command_before_version_two = record { writes = refl; passes = refl; audited = refl }

-- A command that is refused makes the script one of version 1.
pub refused_command_before_version_two : Works default_limits ample input.refused_command_before_version_two
    (codes "! empty\n! line\n! line\n")
unfolding all_of_a_run
refused_command_before_version_two = record { writes = refl; passes = refl; audited = refl }

-- No version is asked for again, and what is refused so leaves the script in version 2.
pub version_two_is_asked_for_once : Works default_limits ample input.version_two_is_asked_for_once
    (codes "= ok\n! line\n! line\n! line\n! line\n! long\n= #1\n")
unfolding all_of_a_run
version_two_is_asked_for_once = record { writes = refl; passes = refl; audited = refl }

-- WORKED EXAMPLES, part 20: what each writes, and that its run is lawful, quiet and passes the audit.
-- Made by tools/worked_examples.py from examples/worked.txt.
use Rattle.std.specs.Prelude.{codes, refl}
use Rattle.cc_worked.specs.Examples.{default_limits, ample}
use Rattle.cc_worked.specs.Inputs as input
use Rattle.cc_worked.specs.Works.{Works}
use Rattle.cc_worked.proofs.Opened.{all_of_a_run}

-- Version 1 has no line that asks for it.
pub version_one_is_not_asked_for : Works default_limits ample input.version_one_is_not_asked_for
    (codes "! line\n! line\n! line\n")
unfolding all_of_a_run
version_one_is_not_asked_for = record { writes = refl; passes = refl; audited = refl }

-- There is no version 3, and who asks for it gets version 1.
pub version_three_is_not_known : Works default_limits ample input.version_three_is_not_known
    (codes "! line\n! line\n! line\n")
unfolding all_of_a_run
version_three_is_not_known = record { writes = refl; passes = refl; audited = refl }

-- The number of the version is written without a zero before it.
pub version_has_no_leading_zero : Works default_limits ample input.version_has_no_leading_zero
    (codes "! line\n! line\n! line\n")
unfolding all_of_a_run
version_has_no_leading_zero = record { writes = refl; passes = refl; audited = refl }

-- A version is asked for by its number.
pub version_without_a_number : Works default_limits ample input.version_without_a_number
    (codes "! line\n! line\n! line\n")
unfolding all_of_a_run
version_without_a_number = record { writes = refl; passes = refl; audited = refl }

-- A version is asked for by one number.
pub version_with_two_numbers : Works default_limits ample input.version_with_two_numbers
    (codes "! line\n! line\n! line\n")
unfolding all_of_a_run
version_with_two_numbers = record { writes = refl; passes = refl; audited = refl }

-- A tab does not part the word from its number.
pub version_behind_a_tab : Works default_limits ample input.version_behind_a_tab
    (codes "! line\n! line\n! line\n")
unfolding all_of_a_run
version_behind_a_tab = record { writes = refl; passes = refl; audited = refl }

-- The word is in lower case.
pub version_with_a_capital_letter : Works default_limits ample input.version_with_a_capital_letter
    (codes "! line\n! line\n! line\n")
unfolding all_of_a_run
version_with_a_capital_letter = record { writes = refl; passes = refl; audited = refl }

-- Version 2 is asked for by a line that ends with a carriage return too.
pub version_two_with_carriage_returns : Works default_limits ample input.version_two_with_carriage_returns
    (codes "= ok\n= #1\n")
unfolding all_of_a_run
version_two_with_carriage_returns = record { writes = refl; passes = refl; audited = refl }

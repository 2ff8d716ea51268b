-- WORKED EXAMPLES, part 13: what each writes, and that its run is lawful, quiet and passes the audit.
-- Made by tools/worked_examples.py from examples/worked.txt.
use Rattle.std.specs.Prelude.{codes, refl}
use Rattle.cc_worked.specs.Examples.{default_limits, ample}
use Rattle.cc_worked.specs.Inputs as input
use Rattle.cc_worked.specs.Works.{Works}
use Rattle.cc_worked.proofs.Opened.{all_of_a_run}

-- What is near to a form with script registers and in none is refused.
pub forms_of_script_objects_are_few : Works default_limits ample input.forms_of_script_objects_are_few
    (codes "! line\n! line\n! line\n! line\n! line\n! line\n! line\n! line\n! line\n! line\n! line\n! line\n! line\n! line\n! line\n! line\n! line\n! line\n! line\n! line\n! line\n! line\n! line\n! line\n! line\n! line\n")
unfolding all_of_a_run
forms_of_script_objects_are_few = record { writes = refl; passes = refl; audited = refl }

-- What is near to a form for reflectors or weak maps and in none is refused.
pub forms_of_reflectors_and_maps_are_few : Works default_limits ample input.forms_of_reflectors_and_maps_are_few
    (codes "! line\n! line\n! line\n! line\n! line\n! line\n! line\n! line\n! line\n! line\n! line\n! line\n! line\n! line\n! line\n! line\n! line\n! line\n! line\n! line\n! line\n! line\n! line\n! line\n")
unfolding all_of_a_run
forms_of_reflectors_and_maps_are_few = record { writes = refl; passes = refl; audited = refl }

-- Each register that must hold an object is refused where it is empty, and those that may be empty are not.
pub empty_registers_are_refused : Works default_limits ample input.empty_registers_are_refused
    (codes "= #1\n= @1\n= @2\n! empty\n! empty\n! empty\n! empty\n! empty\n! empty\n! empty\n! empty\n! empty\n! empty\n! empty\n! empty\n! empty\n! empty\n! empty\n! empty\n! empty\n! empty\n! empty\n! empty\n= ok\n= none\n= none\n= none\n= none\n= none\n! kind\n= ~1\n")
unfolding all_of_a_run
empty_registers_are_refused = record { writes = refl; passes = refl; audited = refl }

-- Each object of the wrong kind is refused.
pub wrong_kinds_are_refused : Works default_limits ample input.wrong_kinds_are_refused
    (codes "= #1\n= ~1\n= @1\n= @2\n! kind\n! kind\n! kind\n! kind\n! kind\n! kind\n! kind\n! kind\n! kind\n! kind\n! kind\n")
unfolding all_of_a_run
wrong_kinds_are_refused = record { writes = refl; passes = refl; audited = refl }

-- An empty register is told before a wrong kind and a missing slot, a wrong kind before a missing slot, and this before what a slot holds.
pub refusals_in_their_order : Works default_limits ample input.refusals_in_their_order
    (codes "= @1\n= @2\n= #1\n! empty\n! empty\n! empty\n! empty\n! kind\n= ok\n! slot\n")
unfolding all_of_a_run
refusals_in_their_order = record { writes = refl; passes = refl; audited = refl }

-- What is refused, and what becomes of blank lines, comments, long lines and carriage returns.
pub refusals_and_odd_lines : Works default_limits ample input.refusals_and_odd_lines
    (codes "= #1\n= #2\n= ok\n! kind\n! slot\n! slot\n! empty\n! kind\n= @1\n= @2\n! kind\n! slot\n! empty\n! kind\n! line\n! line\n! long\n+ #1\n+ #2\n+ @1\n+ @2\n= census 4\n")
unfolding all_of_a_run
refusals_and_odd_lines = record { writes = refl; passes = refl; audited = refl }

-- The greatest numbers of slots, indexes, registers and units are taken, and greater ones are not in the grammar.
pub numbers_at_their_bounds : Works default_limits ample input.numbers_at_their_bounds
    (codes "= #1\n= ok\n! slot\n! slot\n! line\n! line\n! line\n! line\n= #2\n! line\n= none\n= ok\n= ok\n! line\n")
unfolding all_of_a_run
numbers_at_their_bounds = record { writes = refl; passes = refl; audited = refl }

-- One unit and a million are taken, and neither none nor more are in the grammar.
pub units_at_their_bounds : Works default_limits ample input.units_at_their_bounds
    (codes "! line\n= ok\n= ok\n! line\n")
unfolding all_of_a_run
units_at_their_bounds = record { writes = refl; passes = refl; audited = refl }

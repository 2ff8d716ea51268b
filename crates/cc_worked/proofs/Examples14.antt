-- WORKED EXAMPLES, part 14: what each writes, and that its run is lawful, quiet and passes the audit.
-- Made by tools/worked_examples.py from examples/worked.txt.
use Rattle.std.specs.Prelude.{◌≡◌, codes, refl}
use Rattle.cc_worked.specs.Examples.{limits, default_limits, ample, refused_at, text_within}
use Rattle.cc_worked.specs.Inputs as input
use Rattle.cc_worked.specs.Works.{Works}
use Rattle.cc_worked.proofs.Opened.{all_of_a_run}

-- A line of 120 bytes is read and one of 121 is not, a comment and a carriage return counted.
pub line_of_120_bytes_is_taken : Works default_limits ample input.line_of_120_bytes_is_taken
    (codes "= #1\n! long\n! long\n! line\n! long\n+ #1\n= census 1\n")
unfolding all_of_a_run
line_of_120_bytes_is_taken = record { writes = refl; passes = refl; audited = refl }

-- A last line that no line feed ends is answered, its carriage return dropped.
pub last_line_needs_no_line_feed : Works default_limits ample input.last_line_needs_no_line_feed
    (codes "= #1\n+ #1\n= census 1\n")
unfolding all_of_a_run
last_line_needs_no_line_feed = record { writes = refl; passes = refl; audited = refl }

-- The limit of natives counts those that were freed.
pub limit_counts_freed_natives : Works (limits 1 1000000 4294967295) ample input.limit_counts_freed_natives
    (codes "= #1\n- free #1\n= ok\n! full\n")
unfolding all_of_a_run
limit_counts_freed_natives = record { writes = refl; passes = refl; audited = refl }

-- The limit of script objects counts those that were freed.
pub limit_counts_freed_script_objects : Works (limits 1000000 1 4294967295) ample input.limit_counts_freed_script_objects
    (codes "= @1\n= ok\n- free @1\n= ok\n! full\n")
unfolding all_of_a_run
limit_counts_freed_script_objects = record { writes = refl; passes = refl; audited = refl }

-- Plain script objects and weak maps are counted together, up to the limit itself.
pub limit_counts_weak_maps : Works (limits 1000000 2 4294967295) ample input.limit_counts_weak_maps
    (codes "= @1\n= @2\n! full\n! full\n")
unfolding all_of_a_run
limit_counts_weak_maps = record { writes = refl; passes = refl; audited = refl }

-- A command that is refused for a limit wants no memory.
pub full_comes_before_want_of_memory : Works (limits 1 1000000 4294967295) (refused_at 2) input.full_comes_before_want_of_memory
    (codes "= #1\n! full\n! nomem\n")
unfolding all_of_a_run
full_comes_before_want_of_memory = record { writes = refl; passes = refl; audited = refl }

-- An input of as many bytes as may be read is read whole.
pub input_of_exactly_the_bytes_allowed : Works (limits 1000000 1000000 12) ample input.input_of_exactly_the_bytes_allowed
    (codes "= #1\n")
unfolding all_of_a_run
input_of_exactly_the_bytes_allowed = record { writes = refl; passes = refl; audited = refl }

-- An input of one byte more ends the run after the lines that end within the limit.
pub input_of_one_byte_more : text_within (limits 1000000 1000000 12) ample input.input_of_one_byte_more
    ≡ codes "= #1\n"
unfolding all_of_a_run
input_of_one_byte_more = refl

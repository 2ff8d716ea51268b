-- WORKED EXAMPLES, part 30: what each writes, and that its run is lawful, quiet and passes the audit.
-- Made by tools/worked_examples.py from examples/worked.txt.
use Rattle.std.specs.Prelude.{◌≡◌, codes, refl}
use Rattle.cc_worked.specs.Examples.{limits, default_limits, ample, refused_at, text_within}
use Rattle.cc_worked.specs.Inputs as input
use Rattle.cc_worked.specs.Works.{Works}
use Rattle.cc_worked.proofs.Opened.{all_of_a_run}

-- Registers, slots and the listed names are after it what they were before.
pub why_changes_no_register_and_no_census : Works default_limits ample input.why_changes_no_register_and_no_census
    (codes "= ok\n= #1\n= ~1\n= @1\n= ok\n= ok\n+ #1\n+ ~1\n+ @1\n= census 3\n: @1 s1\n= ok\n+ #1\n+ ~1\n+ @1\n= census 3\n= ~1\n= @1\n: @1 s1\n= ok\n")
unfolding all_of_a_run
why_changes_no_register_and_no_census = record { writes = refl; passes = refl; audited = refl }

-- It is answered between gc, collect and gc and behind them, and a census then lists what is there.
pub why_in_a_row_of_collections : Works default_limits ample input.why_in_a_row_of_collections
    (codes "= ok\n= #1\n= @1\n= ok\n= ok\n= #2\n= ok\n= ok\n= ok\n: #1 n0\n: @1 #1\n= ok\n- unlink #2\n- free #2\n= ok\n= none\n= ok\n: #1 n0\n: @1 #1\n= ok\n+ #1\n+ @1\n= census 2\n")
unfolding all_of_a_run
why_in_a_row_of_collections = record { writes = refl; passes = refl; audited = refl }

-- Where memory is refused no step is told, and the next one tells them all.
pub refused_why_tells_nothing : Works default_limits (refused_at 3) input.refused_why_tells_nothing
    (codes "= ok\n= #1\n= #2\n= ok\n= ok\n! nomem\n: #1 n0\n: #2 #1\n= ok\n")
unfolding all_of_a_run
refused_why_tells_nothing = record { writes = refl; passes = refl; audited = refl }

-- A name that follows from nothing takes memory as any other, once, and a line that is not in the grammar takes none.
pub why_takes_memory_for_each_name : Works default_limits (refused_at 4) input.why_takes_memory_for_each_name
    (codes "= ok\n= #1\n= none\n! line\n: #1 n0\n= ok\n! nomem\n= none\n= #2\n")
unfolding all_of_a_run
why_takes_memory_for_each_name = record { writes = refl; passes = refl; audited = refl }

-- A collection that runs is not abandoned where memory is refused, and ends after as many units as it would have taken.
pub refused_why_leaves_the_collection : Works default_limits (refused_at 3) input.refused_why_leaves_the_collection
    (codes "= ok\n= #1\n= ok\n= ok\n= ok\n! nomem\n= ok\n= none\n- unlink #1\n- free #1\n= ok\n= none\n")
unfolding all_of_a_run
refused_why_leaves_the_collection = record { writes = refl; passes = refl; audited = refl }

-- It is not answered where its line feed is one byte more than may be read.
pub why_of_one_byte_too_many : text_within (limits 1000000 1000000 35) ample input.why_of_one_byte_too_many
    ≡ codes "= ok\n= #1\n: #1 n0\n= ok\n"
unfolding all_of_a_run
why_of_one_byte_too_many = refl

-- It is answered in a last line that no line feed ends.
pub why_without_a_line_feed : Works default_limits ample input.why_without_a_line_feed
    (codes "= ok\n= #1\n: #1 n0\n= ok\n")
unfolding all_of_a_run
why_without_a_line_feed = record { writes = refl; passes = refl; audited = refl }

-- A suspect that a register reaches is no candidate once suspects are forgotten, so the collection takes three units.
pub forgotten_suspect_is_no_candidate : Works default_limits ample input.forgotten_suspect_is_no_candidate
    (codes "= ok\n= #1\n= #1\n= ok\n= #2\n= ok\n= ok\n= ok\n- unlink #2\n- free #2\n= ok\n")
unfolding all_of_a_run
forgotten_suspect_is_no_candidate = record { writes = refl; passes = refl; audited = refl }

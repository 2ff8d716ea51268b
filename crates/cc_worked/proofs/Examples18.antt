-- WORKED EXAMPLES, part 18: what each writes, and that its run is lawful, quiet and passes the audit.
-- Made by tools/worked_examples.py from examples/worked.txt.
use Rattle.std.specs.Prelude.{codes, refl}
use Rattle.cc_worked.specs.Examples.{limits, default_limits, ample, refused_at}
use Rattle.cc_worked.specs.Inputs as input
use Rattle.cc_worked.specs.Works.{Works}
use Rattle.cc_worked.proofs.Opened.{all_of_a_run}

-- A slot of a proxy is neither written nor read, since it has none; it is no reflector and no weak map.
pub proxy_has_no_slots : Works default_limits ample input.proxy_has_no_slots
    (codes "= @1\n= @2\n! slot\n! slot\n! empty\n! slot\n! slot\n! kind\n! kind\n! kind\n! kind\n! kind\n= #1\n= ok\n= @2\n= ok\n= @2\n+ #1\n+ @1\n+ @2\n= census 3\n")
unfolding all_of_a_run
proxy_has_no_slots = record { writes = refl; passes = refl; audited = refl }

-- A proxy is not made of what an empty register holds, and the register that was to hold it keeps what it holds.
pub proxy_of_nothing_is_refused : Works default_limits ample input.proxy_of_nothing_is_refused
    (codes "= @1\n! empty\n! empty\n= @1\n= @2\n= @3\n= ok\n= ok\n+ @1\n+ @2\n+ @3\n= census 3\n")
unfolding all_of_a_run
proxy_of_nothing_is_refused = record { writes = refl; passes = refl; audited = refl }

-- Proxies count with plain objects and weak maps, and an empty register is told before the limit.
pub limit_counts_proxies : Works (limits 1000000 2 4294967295) ample input.limit_counts_proxies
    (codes "= @1\n= @2\n! full\n! empty\n! full\n! full\n")
unfolding all_of_a_run
limit_counts_proxies = record { writes = refl; passes = refl; audited = refl }

-- A proxy takes memory; where it is refused nothing is made and no reflector is preserved.
pub refused_proxy_preserves_nothing : Works default_limits (refused_at 3) input.refused_proxy_preserves_nothing
    (codes "= #1\n= ~1\n! nomem\n= none\n= ok\n- free ~1\n= ok\n= ~1\n= @1\n= ok\n= ok\n- free @1\n= ok\n+ #1\n+ ~1\n= census 2\n")
unfolding all_of_a_run
refused_proxy_preserves_nothing = record { writes = refl; passes = refl; audited = refl }

-- A proxy that is refused for the limit preserves no reflector.
pub full_proxy_preserves_nothing : Works (limits 1000000 1 4294967295) ample input.full_proxy_preserves_nothing
    (codes "= #1\n= @1\n= ~1\n! full\n= ok\n- free ~1\n= ok\n")
unfolding all_of_a_run
full_proxy_preserves_nothing = record { writes = refl; passes = refl; audited = refl }

-- A proxy is asked for with two script registers and nothing else.
pub forms_of_proxies_are_few : Works default_limits ample input.forms_of_proxies_are_few
    (codes "! line\n! line\n! line\n! line\n! line\n! line\n! line\n! line\n! line\n! line\n! line\n! empty\n")
unfolding all_of_a_run
forms_of_proxies_are_few = record { writes = refl; passes = refl; audited = refl }

-- A script whose first line asks for version 2 has registers up to 1023 and objects of up to 256 slots.
pub version_two_is_asked_for_first : Works default_limits ample input.version_two_is_asked_for_first
    (codes "= ok\n= #1\n= @1\n= ok\n! slot\n= ok\n! slot\n! line\n! line\n! line\n! line\n= #2\n")
unfolding all_of_a_run
version_two_is_asked_for_first = record { writes = refl; passes = refl; audited = refl }

-- A script that asks for nothing has 256 registers, 64 slots and no word of version 2, and can't ask later on.
pub version_one_means_what_it_meant : Works default_limits ample input.version_one_means_what_it_meant
    (codes "= #1\n! line\n! line\n! line\n")
unfolding all_of_a_run
version_one_means_what_it_meant = record { writes = refl; passes = refl; audited = refl }

-- WORKED EXAMPLES, part 38: what each writes, and that its run is lawful, quiet and passes the audit.
-- Made by tools/worked_examples.py from examples/worked.txt.
use Rattle.std.specs.Prelude.{codes, refl}
use Rattle.cc_worked.specs.Examples.{default_limits, ample}
use Rattle.cc_worked.specs.Inputs as input
use Rattle.cc_worked.specs.Works.{Works}
use Rattle.cc_worked.proofs.Opened.{all_of_a_run}

-- Values are marked at the end of a marking, one after the other along a chain of entries, and the entries of a dead map give none.
pub entries_are_marked_at_the_end : Works default_limits ample input.entries_are_marked_at_the_end
    (codes "= ok\n= @1\n= @2\n= @3\n= @4\n= @5\n= ok\n= ok\n= ok\n= @6\n= @7\n= ok\n= ok\n= ok\n= ok\n= ok\n= ok\n- free @6\n- free @7\n= ok\n+ @1\n+ @2\n+ @3\n+ @4\n+ @5\n= census 5\n= ok\n- free @2\n- free @3\n- free @4\n- free @5\n= ok\n")
unfolding all_of_a_run
entries_are_marked_at_the_end = record { writes = refl; passes = refl; audited = refl }

-- The delegate of a proxy is marked where the proxy is scanned, though no register holds it.
pub delegate_is_scanned : Works default_limits ample input.delegate_is_scanned
    (codes "= ok\n= @1\n= @2\n= none\n= ok\n= ok\n= ok\n+ @1\n+ @2\n= census 2\n")
unfolding all_of_a_run
delegate_is_scanned = record { writes = refl; passes = refl; audited = refl }

-- A proxy that is a key stays with its map and its delegate, and the value with it.
pub proxy_key_stays_at_the_end : Works default_limits ample input.proxy_key_stays_at_the_end
    (codes "= ok\n= @1\n= @2\n= @3\n= @4\n= ok\n= ok\n= ok\n= ok\n= ok\n= ok\n- free @2\n- free @3\n- free @4\n= ok\n+ @1\n= census 1\n")
unfolding all_of_a_run
proxy_key_stays_at_the_end = record { writes = refl; passes = refl; audited = refl }

-- A reflector that was swept is made anew while a marking goes on, and outlives that.
pub reflector_is_wrapped_again : Works default_limits ample input.reflector_is_wrapped_again
    (codes "= ok\n= #1\n= ~1\n= ok\n- free ~1\n= ok\n= ok\n= ~1\n= ok\n= ok\n+ #1\n+ ~1\n= census 2\n- free ~1\n= ok\n")
unfolding all_of_a_run
reflector_is_wrapped_again = record { writes = refl; passes = refl; audited = refl }

-- The reflector that is there is given by wrap, and exposed, though nothing had marked it.
pub reflector_without_a_mark_is_wrapped : Works default_limits ample input.reflector_without_a_mark_is_wrapped
    (codes "= ok\n= #1\n= ~1\n= ok\n= ok\n= ~1\n= ok\n= ok\n+ #1\n+ ~1\n= census 2\n- free ~1\n= ok\n")
unfolding all_of_a_run
reflector_without_a_mark_is_wrapped = record { writes = refl; passes = refl; audited = refl }

-- A marking frees a reflector, and then the native that this alone held.
pub marked_reflector_gives_up_its_native : Works default_limits ample input.marked_reflector_gives_up_its_native
    (codes "= ok\n= #1\n= ~1\n= #2\n= ok\n= ok\n= ok\n- free ~1\n= ok\n! empty\n= #1\n= ~1\n= ok\n- free #2\n= ok\n= ok\n+ #1\n+ ~1\n= census 2\n- free ~1\n- free #1\n= ok\n= census 0\n")
unfolding all_of_a_run
marked_reflector_gives_up_its_native = record { writes = refl; passes = refl; audited = refl }

-- A cycle through both heaps is found by a collection behind a marking, as by one behind gc, and by none before.
pub colours_of_a_marking_serve_a_collection : Works default_limits ample input.colours_of_a_marking_serve_a_collection
    (codes "= ok\n= #1\n= @1\n= ~1\n= ok\n= ok\n= ok\n= ok\n= ok\n= ok\n+ #1\n+ @1\n+ ~1\n= census 3\n= ok\n- unlink #1\n= ok\n+ #1\n+ @1\n+ ~1\n= census 3\n- free @1\n- free ~1\n- free #1\n= ok\n= census 0\n")
unfolding all_of_a_run
colours_of_a_marking_serve_a_collection = record { writes = refl; passes = refl; audited = refl }

-- Gc drops the marking that goes on, frees what nothing holds, and the next unit begins anew.
pub gc_drops_a_marking : Works default_limits ample input.gc_drops_a_marking
    (codes "= ok\n= @1\n= @2\n= ok\n= ok\n= ok\n= @3\n= ok\n= ok\n- free @2\n- free @3\n= ok\n= @4\n= ok\n= ok\n- free @4\n= ok\n+ @1\n= census 1\n")
unfolding all_of_a_run
gc_drops_a_marking = record { writes = refl; passes = refl; audited = refl }

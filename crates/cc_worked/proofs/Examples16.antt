-- WORKED EXAMPLES, part 16: what each writes, and that its run is lawful, quiet and passes the audit.
-- Made by tools/worked_examples.py from examples/worked.txt.
use Rattle.std.specs.Prelude.{codes, refl}
use Rattle.cc_worked.specs.Examples.{default_limits, ample}
use Rattle.cc_worked.specs.Inputs as input
use Rattle.cc_worked.specs.Works.{Works}
use Rattle.cc_worked.proofs.Opened.{all_of_a_run}

-- A key that is a proxy of another proxy lives by it, where that is a key too and lives by its own delegate.
pub key_that_is_a_proxy_of_a_key : Works default_limits ample input.key_that_is_a_proxy_of_a_key
    (codes "= @1\n= @2\n= @3\n= @4\n= @5\n= @6\n= ok\n= ok\n= ok\n= ok\n= ok\n= ok\n= ok\n+ @1\n+ @2\n+ @3\n+ @4\n+ @5\n+ @6\n= census 6\n= ok\n- free @2\n- free @3\n- free @4\n- free @5\n- free @6\n= ok\n")
unfolding all_of_a_run
key_that_is_a_proxy_of_a_key = record { writes = refl; passes = refl; audited = refl }

-- A proxy that is a key of two maps lives by the second one when the first is gone, and the values go each with its map.
pub proxy_is_a_key_of_two_maps : Works default_limits ample input.proxy_is_a_key_of_two_maps
    (codes "= @1\n= @2\n= @3\n= @4\n= @5\n= @6\n= ok\n= ok\n= ok\n= ok\n= ok\n= ok\n= ok\n- free @1\n- free @5\n= ok\n= ok\n- free @2\n- free @4\n- free @6\n= ok\n")
unfolding all_of_a_run
proxy_is_a_key_of_two_maps = record { writes = refl; passes = refl; audited = refl }

-- A key that stands for its own map lives as long as this.
pub delegate_is_the_map_itself : Works default_limits ample input.delegate_is_the_map_itself
    (codes "= @1\n= @2\n= @3\n= ok\n= ok\n= ok\n= ok\n+ @1\n+ @2\n+ @3\n= census 3\n= ok\n- free @1\n- free @2\n- free @3\n= ok\n")
unfolding all_of_a_run
delegate_is_the_map_itself = record { writes = refl; passes = refl; audited = refl }

-- A value for which its key stands is kept by no entry.
pub delegate_is_the_value : Works default_limits ample input.delegate_is_the_value
    (codes "= @1\n= @2\n= @3\n= ok\n= ok\n= ok\n+ @1\n+ @2\n+ @3\n= census 3\n= ok\n- free @2\n- free @3\n= ok\n+ @1\n= census 1\n")
unfolding all_of_a_run
delegate_is_the_value = record { writes = refl; passes = refl; audited = refl }

-- An entry whose value alone holds the delegate of its key is dropped, with all three.
pub value_holds_the_delegate : Works default_limits ample input.value_holds_the_delegate
    (codes "= @1\n= @2\n= @3\n= @4\n= ok\n= ok\n= ok\n= ok\n= ok\n- free @2\n- free @3\n- free @4\n= ok\n+ @1\n= census 1\n")
unfolding all_of_a_run
value_holds_the_delegate = record { writes = refl; passes = refl; audited = refl }

-- A proxy is kept by its delegate no longer where its entry is taken out or goes with its map.
pub entry_of_a_proxy_key_is_taken_out : Works default_limits ample input.entry_of_a_proxy_key_is_taken_out
    (codes "= @1\n= @2\n= @3\n= ok\n= @2\n= ok\n= ok\n= ok\n- free @3\n= ok\n= @4\n= ok\n= ok\n= ok\n= ok\n- free @1\n- free @4\n= ok\n")
unfolding all_of_a_run
entry_of_a_proxy_key_is_taken_out = record { writes = refl; passes = refl; audited = refl }

-- An entry of a proxy that is set again keeps its delegate: key and new value live by map and delegate, and go with the delegate.
pub entry_of_a_proxy_key_is_set_again : Works default_limits ample input.entry_of_a_proxy_key_is_set_again
    (codes "= @1\n= @2\n= @3\n= @4\n= @5\n= ok\n= ok\n= ok\n= ok\n= ok\n- free @4\n= ok\n+ @1\n+ @2\n+ @3\n+ @5\n= census 4\n= ok\n- free @2\n- free @3\n- free @5\n= ok\n+ @1\n= census 1\n")
unfolding all_of_a_run
entry_of_a_proxy_key_is_set_again = record { writes = refl; passes = refl; audited = refl }

-- A proxy that is a value lives by map and key alone.
pub proxy_is_a_value : Works default_limits ample input.proxy_is_a_value
    (codes "= @1\n= @2\n= @3\n= @4\n= ok\n= ok\n= ok\n= @4\n= ok\n= ok\n- free @2\n- free @4\n= ok\n")
unfolding all_of_a_run
proxy_is_a_value = record { writes = refl; passes = refl; audited = refl }

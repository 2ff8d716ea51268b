-- WORKED EXAMPLES, part 17: what each writes, and that its run is lawful, quiet and passes the audit.
-- Made by tools/worked_examples.py from examples/worked.txt.
use Rattle.std.specs.Prelude.{codes, refl}
use Rattle.cc_worked.specs.Examples.{default_limits, ample}
use Rattle.cc_worked.specs.Inputs as input
use Rattle.cc_worked.specs.Works.{Works}
use Rattle.cc_worked.proofs.Opened.{all_of_a_run}

-- A collection keeps a native to whose reflector a proxy in a slot of another native leads, and the next one takes it.
pub gray_proxy_keeps_its_delegate : Works default_limits ample input.gray_proxy_keeps_its_delegate
    (codes "= #1\n= #2\n= ~2\n= @1\n= ok\n= ok\n= ok\n= ok\n= ok\n= ok\n+ #1\n+ #2\n+ ~2\n+ @1\n= census 4\n- free #1\n= ok\n- free @1\n= ok\n- unlink #2\n= ok\n- free ~2\n- free #2\n= ok\n= census 0\n")
unfolding all_of_a_run
gray_proxy_keeps_its_delegate = record { writes = refl; passes = refl; audited = refl }

-- A collection keeps a native to which the value of a proxy key leads, where a native holds the delegate alone.
pub gray_proxy_key_of_a_live_native : Works default_limits ample input.gray_proxy_key_of_a_live_native
    (codes "= #1\n= #2\n= @1\n= @2\n= @3\n= @4\n= ~2\n= ok\n= ok\n= ok\n= ok\n= ok\n= ok\n= ok\n= ok\n= ok\n= ok\n= ok\n+ #1\n+ #2\n+ @1\n+ @2\n+ @3\n+ @4\n+ ~2\n= census 7\n= @2\n= ok\n+ #1\n+ #2\n+ @1\n+ @2\n+ @3\n+ @4\n+ ~2\n= census 7\n")
unfolding all_of_a_run
gray_proxy_key_of_a_live_native = record { writes = refl; passes = refl; audited = refl }

-- A proxy that script reads out of a native while a collection runs exposes its delegate too, so the native to which that leads is kept.
pub exposed_proxy_exposes_its_delegate : Works default_limits ample input.exposed_proxy_exposes_its_delegate
    (codes "= #1\n= #2\n= ~2\n= @1\n= ok\n= ok\n= ok\n= ok\n= ok\n= ok\n= @1\n= ok\n= ok\n+ #1\n+ #2\n+ ~2\n+ @1\n= census 4\n")
unfolding all_of_a_run
exposed_proxy_exposes_its_delegate = record { writes = refl; passes = refl; audited = refl }

-- The delegate of a proxy key is exposed after a collection began, in which map, delegate, key and value were gray, and the native to which the value leads is kept.
pub delegate_exposed_between_slices : Works default_limits ample input.delegate_exposed_between_slices
    (codes "= #1\n= #2\n= @1\n= @2\n= @3\n= @4\n= ~2\n= ok\n= ok\n= ok\n= ok\n= ok\n= ok\n= ok\n= ok\n= ok\n= ok\n= ok\n= ok\n= ok\n= @2\n= ok\n+ #1\n+ #2\n+ @1\n+ @2\n+ @3\n+ @4\n+ ~2\n= census 7\n")
unfolding all_of_a_run
delegate_exposed_between_slices = record { writes = refl; passes = refl; audited = refl }

-- A delegate that was gray when its mapping was noted is read into a register, and the native that held it lets it go: key and value live by the black delegate, and so does the native.
pub delegate_read_after_its_mapping_was_noted : Works default_limits ample input.delegate_read_after_its_mapping_was_noted
    (codes "= #1\n= #2\n= @1\n= @2\n= @3\n= @4\n= ~2\n= ok\n= ok\n= ok\n= ok\n= ok\n= ok\n= ok\n= ok\n= ok\n= ok\n= ok\n= @2\n= ok\n= ok\n= ok\n+ #1\n+ #2\n+ @1\n+ @2\n+ @3\n+ @4\n+ ~2\n= census 7\n= ok\n- free @2\n- free @3\n- free @4\n= ok\n- unlink #2\n= ok\n- free ~2\n- free #2\n= ok\n+ #1\n+ @1\n= census 2\n")
unfolding all_of_a_run
delegate_read_after_its_mapping_was_noted = record { writes = refl; passes = refl; audited = refl }

-- A proxy made and set as a key while a collection runs keeps nothing beyond its delegate, and the cycle is taken by the next collection.
pub entry_of_a_proxy_set_in_mid_collection : Works default_limits ample input.entry_of_a_proxy_set_in_mid_collection
    (codes "= #1\n= ~1\n= @1\n= @2\n= ok\n= ok\n= ok\n= ok\n= ok\n- free @2\n= ok\n= ok\n= ~1\n= @3\n= ok\n= @4\n= ok\n= ok\n= ok\n= ok\n= ok\n= ok\n= ok\n- unlink #1\n= ok\n- free ~1\n- free #1\n- free @3\n- free @4\n= ok\n+ @1\n= census 1\n")
unfolding all_of_a_run
entry_of_a_proxy_set_in_mid_collection = record { writes = refl; passes = refl; audited = refl }

-- A delegate of which an entry tells is looked at before the key, and the key before the value: what the delegate holds is noted before script touches it, and what the value holds is black by then, so there are eight units.
pub delegate_comes_before_its_key : Works default_limits ample input.delegate_comes_before_its_key
    (codes "= #1\n= @1\n= @2\n= @3\n= @4\n= @5\n= @6\n= ok\n= ok\n= ok\n= ok\n= ok\n= ok\n= ok\n= ok\n= ok\n= ok\n= #2\n= ok\n= ok\n= ok\n= ok\n= @2\n= ok\n= @4\n= ok\n= ok\n- unlink #2\n- free #2\n= ok\n")
unfolding all_of_a_run
delegate_comes_before_its_key = record { writes = refl; passes = refl; audited = refl }

-- A collection with one candidate looks at it, at the holder of a delegate, at the delegate, at the proxy and at the value, so it takes seven units.
pub gray_proxy_key_takes_seven_units : Works default_limits ample input.gray_proxy_key_takes_seven_units
    (codes "= #1\n= @1\n= @2\n= @3\n= @4\n= ok\n= ok\n= ok\n= ok\n= ok\n= #2\n= ok\n= ok\n= ok\n= ok\n- unlink #2\n- free #2\n= ok\n= @2\n= ok\n+ #1\n+ @1\n+ @2\n+ @3\n+ @4\n= census 5\n")
unfolding all_of_a_run
gray_proxy_key_takes_seven_units = record { writes = refl; passes = refl; audited = refl }

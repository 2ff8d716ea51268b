-- WORKED EXAMPLES, part 15: what each writes, and that its run is lawful, quiet and passes the audit.
-- Made by tools/worked_examples.py from examples/worked.txt.
use Rattle.std.specs.Prelude.{◌≡◌, [], codes, refl}
use Rattle.cc_worked.specs.Examples.{limits, default_limits, ample, text_within}
use Rattle.cc_worked.specs.Inputs as input
use Rattle.cc_worked.specs.Works.{Works}
use Rattle.cc_worked.proofs.Opened.{all_of_a_run}

-- With no byte allowed one byte ends the run with nothing written.
pub input_where_no_byte_is_allowed : text_within (limits 1000000 1000000 0) ample input.input_where_no_byte_is_allowed
    ≡ []
unfolding all_of_a_run
input_where_no_byte_is_allowed = refl

-- Where the line feed of the only line is one byte more than may be read, nothing is answered.
pub input_of_one_byte_less : text_within (limits 1000000 1000000 11) ample input.input_of_one_byte_less
    ≡ []
unfolding all_of_a_run
input_of_one_byte_less = refl

-- An empty input is read whole where no byte is allowed.
pub empty_input_where_no_byte_is_allowed : Works (limits 1000000 1000000 0) ample input.empty_input_where_no_byte_is_allowed
    []
unfolding all_of_a_run
empty_input_where_no_byte_is_allowed = record { writes = refl; passes = refl; audited = refl }

-- A proxy that is a key and that nothing holds lives while its map and its delegate do, and its value with it; they go with the delegate.
pub proxy_key_lives_as_long_as_map_and_delegate : Works default_limits ample input.proxy_key_lives_as_long_as_map_and_delegate
    (codes "= @1\n= @2\n= @3\n= @4\n= ok\n= ok\n= ok\n= ok\n+ @1\n+ @2\n+ @3\n+ @4\n= census 4\n= ok\n- free @2\n- free @3\n- free @4\n= ok\n")
unfolding all_of_a_run
proxy_key_lives_as_long_as_map_and_delegate = record { writes = refl; passes = refl; audited = refl }

-- A reflector that gets a proxy is preserved: it outlives the proxy, and its native keeps it.
pub reflector_with_a_proxy_is_preserved : Works default_limits ample input.reflector_with_a_proxy_is_preserved
    (codes "= #1\n= ~1\n= @1\n= ok\n= ok\n- free @1\n= ok\n+ #1\n+ ~1\n= census 2\n")
unfolding all_of_a_run
reflector_with_a_proxy_is_preserved = record { writes = refl; passes = refl; audited = refl }

-- Gc, collect and gc take a cycle that goes from a reflector over its proxy, which is a key, to the value of that key, which holds the reflector.
pub cycle_through_a_proxy_key : Works default_limits ample input.cycle_through_a_proxy_key
    (codes "= #1\n= ~1\n= @1\n= @2\n= @3\n= ok\n= ok\n= ok\n= ok\n= ok\n= ok\n= ok\n- unlink #1\n= ok\n- free ~1\n- free #1\n- free @2\n- free @3\n= ok\n")
unfolding all_of_a_run
cycle_through_a_proxy_key = record { writes = refl; passes = refl; audited = refl }

-- A proxy keeps what it stands for, with all that this holds, and is not kept by it where it is no key.
pub proxy_keeps_its_delegate : Works default_limits ample input.proxy_keeps_its_delegate
    (codes "= @1\n= @2\n= ok\n= @3\n= ok\n= ok\n= ok\n+ @1\n+ @2\n+ @3\n= census 3\n= ok\n- free @1\n- free @2\n- free @3\n= ok\n= @4\n= @5\n= ok\n- free @5\n= ok\n")
unfolding all_of_a_run
proxy_keeps_its_delegate = record { writes = refl; passes = refl; audited = refl }

-- A proxy of a proxy of a reflector keeps both, and with them the native; the cycle of native and reflector is taken once nothing holds the proxies.
pub proxy_of_a_proxy_of_a_reflector : Works default_limits ample input.proxy_of_a_proxy_of_a_reflector
    (codes "= #1\n= ~1\n= @1\n= @2\n= ok\n= ok\n= ok\n= ok\n= ok\n+ #1\n+ ~1\n+ @1\n+ @2\n= census 4\n= ok\n- free @1\n- free @2\n= ok\n- unlink #1\n= ok\n- free ~1\n- free #1\n= ok\n")
unfolding all_of_a_run
proxy_of_a_proxy_of_a_reflector = record { writes = refl; passes = refl; audited = refl }

-- WORKED EXAMPLES, part 28: what each writes, and that its run is lawful, quiet and passes the audit.
-- Made by tools/worked_examples.py from examples/worked.txt.
use Rattle.std.specs.Prelude.{codes, refl}
use Rattle.cc_worked.specs.Examples.{limits, default_limits, ample}
use Rattle.cc_worked.specs.Inputs as input
use Rattle.cc_worked.specs.Works.{Works}
use Rattle.cc_worked.proofs.Opened.{all_of_a_run}

-- A proxy of a proxy key follows from this and the map, also where its own entry was set first.
pub chain_of_proxy_keys : Works default_limits ample input.chain_of_proxy_keys
    (codes "= ok\n= @1\n= @2\n= @3\n= @4\n= @5\n= ok\n= ok\n= ok\n= ok\n= ok\n: @1 s0\n: @2 s1\n: @3 @1 @2\n: @4 @1 @3\n: @5 @1 @4\n= ok\n")
unfolding all_of_a_run
chain_of_proxy_keys = record { writes = refl; passes = refl; audited = refl }

-- A map that is its own key, or for which its key stands, is told once and named twice.
pub map_is_key_and_delegate : Works default_limits ample input.map_is_key_and_delegate
    (codes "= ok\n= @1\n= @2\n= ok\n= @3\n= @4\n= ok\n= ok\n= ok\n= ok\n: @1 s0\n= ok\n: @1 s0\n: @2 @1 @1\n= ok\n: @1 s0\n: @3 @1 @1\n= ok\n: @1 s0\n: @3 @1 @1\n: @4 @1 @3\n= ok\n")
unfolding all_of_a_run
map_is_key_and_delegate = record { writes = refl; passes = refl; audited = refl }

-- Neither a value alone leads to its key, nor a key to its map, nor a map alone to anything.
pub entry_does_not_lead_back : Works default_limits ample input.entry_does_not_lead_back
    (codes "= ok\n= @1\n= @2\n= @3\n= ok\n= ok\n= ok\n= ok\n= none\n= none\n! empty\n= @4\n= @5\n= ok\n= ok\n= none\n: @5 s4\n= ok\n")
unfolding all_of_a_run
entry_does_not_lead_back = record { writes = refl; passes = refl; audited = refl }

-- Each native of a cycle follows from the one before it, from the register on, and none does when the register lets go, though all are there.
pub cycle_of_natives_is_told_once : Works default_limits ample input.cycle_of_natives_is_told_once
    (codes "= ok\n= #1\n= #2\n= #3\n= ok\n= ok\n= ok\n= ok\n= ok\n: #2 n1\n: #3 #2\n: #1 #3\n= ok\n: #2 n1\n= ok\n: #2 n1\n: #3 #2\n= ok\n= ok\n= none\n= none\n= none\n+ #1\n+ #2\n+ #3\n= census 3\n- unlink #1\n- unlink #2\n- unlink #3\n- free #1\n- free #2\n- free #3\n= ok\n= none\n")
unfolding all_of_a_run
cycle_of_natives_is_told_once = record { writes = refl; passes = refl; audited = refl }

-- A value that leads back to its key is told once, and by nothing when map and key are let go.
pub cycle_through_an_entry_is_told_once : Works default_limits ample input.cycle_through_an_entry_is_told_once
    (codes "= ok\n= #1\n= ~1\n= @1\n= @2\n= ok\n= ok\n= ok\n= ok\n: #1 n0\n: @1 s0\n: ~1 #1\n: @2 @1 ~1\n= ok\n: #1 n0\n: ~1 #1\n= ok\n= ok\n= none\n= none\n= ok\n- unlink #1\n= ok\n= none\n- free ~1\n- free #1\n- free @2\n= ok\n= none\n")
unfolding all_of_a_run
cycle_through_an_entry_is_told_once = record { writes = refl; passes = refl; audited = refl }

-- A reflector that nothing holds follows from nothing, before it is swept and after that, and from its register when it is made again.
pub swept_reflector_follows_from_nothing : Works default_limits ample input.swept_reflector_follows_from_nothing
    (codes "= ok\n= #1\n= none\n= ~1\n: ~1 s0\n= ok\n= ok\n= none\n- free ~1\n= ok\n= none\n: #1 n0\n= ok\n= ~1\n: ~1 s3\n= ok\n")
unfolding all_of_a_run
swept_reflector_follows_from_nothing = record { writes = refl; passes = refl; audited = refl }

-- A name that no object has yet, of each kind and up to the greatest number, follows from nothing.
pub names_never_made_follow_from_nothing : Works default_limits ample input.names_never_made_follow_from_nothing
    (codes "= ok\n= none\n= none\n= none\n= #1\n= @1\n= none\n= none\n= none\n= none\n= none\n= none\n= none\n: #1 n0\n= ok\n: @1 s0\n= ok\n")
unfolding all_of_a_run
names_never_made_follow_from_nothing = record { writes = refl; passes = refl; audited = refl }

-- A name beyond the limit is asked for as any other that was never made.
pub limit_leaves_names_that_were_never_made : Works (limits 1 1 4294967295) ample input.limit_leaves_names_that_were_never_made
    (codes "= ok\n= #1\n! full\n= none\n: #1 n0\n= ok\n= none\n")
unfolding all_of_a_run
limit_leaves_names_that_were_never_made = record { writes = refl; passes = refl; audited = refl }

-- WORKED EXAMPLES, part 27: what each writes, and that its run is lawful, quiet and passes the audit.
-- Made by tools/worked_examples.py from examples/worked.txt.
use Rattle.std.specs.Prelude.{codes, refl}
use Rattle.cc_worked.specs.Examples.{default_limits, ample}
use Rattle.cc_worked.specs.Inputs as input
use Rattle.cc_worked.specs.Works.{Works}
use Rattle.cc_worked.proofs.Opened.{all_of_a_run}

-- Of two branches that meet in an entry the steps stand in the order in which they were found, and those that lead elsewhere are left out.
pub other_steps_are_left_out : Works default_limits ample input.other_steps_are_left_out
    (codes "= ok\n= @1\n= @2\n= #1\n= @3\n= @4\n= #2\n= @5\n= ok\n= ok\n= ok\n= ok\n= ok\n= ok\n: #1 n0\n: @1 s0\n: @3 #1\n: @2 @1\n: @4 @2 @3\n= ok\n: @5 s5\n= ok\n: #2 n5\n= ok\n")
unfolding all_of_a_run
other_steps_are_left_out = record { writes = refl; passes = refl; audited = refl }

-- An entry whose map is found before its key leads to its value from the key on, and what the key itself holds is found before that.
pub entry_waits_for_its_key : Works default_limits ample input.entry_waits_for_its_key
    (codes "= ok\n= @1\n= @2\n= @3\n= @4\n= @5\n= ok\n= ok\n= ok\n= ok\n= ok\n= ok\n: @1 s0\n: @2 s5\n: @3 @2\n: @4 @3\n: @5 @1 @4\n= ok\n= @3\n= @4\n= @5\n= ok\n= ok\n= ok\n= ok\n: @2 s5\n: @3 @2\n: @4 @3\n: @5 @4\n= ok\n")
unfolding all_of_a_run
entry_waits_for_its_key = record { writes = refl; passes = refl; audited = refl }

-- A value that a slot of its key holds too follows from map and key where the map is found first, and from the slot where the key is.
pub entry_tells_before_a_slot_of_its_key : Works default_limits ample input.entry_tells_before_a_slot_of_its_key
    (codes "= ok\n= @1\n= @2\n= @3\n= ok\n= ok\n= ok\n: @1 s1\n: @2 s2\n: @3 @1 @2\n= ok\n= @1\n= ok\n: @2 s2\n: @3 @2\n= ok\n")
unfolding all_of_a_run
entry_tells_before_a_slot_of_its_key = record { writes = refl; passes = refl; audited = refl }

-- A value of two entries follows from the one that was set first; a replaced value leaves an entry its place, and what is set again goes last.
pub entries_tell_in_their_order : Works default_limits ample input.entries_tell_in_their_order
    (codes "= ok\n= @1\n= @2\n= @3\n= @4\n= ok\n= ok\n= ok\n= ok\n: @1 s0\n: @3 s2\n: @4 @1 @3\n= ok\n= @4\n= ok\n= ok\n= ok\n: @1 s0\n: @2 s1\n: @4 @1 @2\n= ok\n")
unfolding all_of_a_run
entries_tell_in_their_order = record { writes = refl; passes = refl; audited = refl }

-- The value of an entry is the key of the next one, whichever of them was set first.
pub chain_of_entries : Works default_limits ample input.chain_of_entries
    (codes "= ok\n= @1\n= @2\n= @3\n= @4\n= @5\n= ok\n= ok\n= ok\n= ok\n= ok\n= ok\n: @1 s0\n: @2 s1\n: @3 @1 @2\n: @4 @1 @3\n: @5 @1 @4\n= ok\n= ok\n= none\n")
unfolding all_of_a_run
chain_of_entries = record { writes = refl; passes = refl; audited = refl }

-- A proxy leads to its delegate and over this on, and a delegate does not lead back to its proxy.
pub steps_through_a_delegate : Works default_limits ample input.steps_through_a_delegate
    (codes "= ok\n= @1\n= @2\n= ok\n= @3\n= ok\n= ok\n: @3 s2\n: @1 @3\n= ok\n: @3 s2\n: @1 @3\n: @2 @1\n= ok\n= @4\n= ok\n: @4 s4\n: @3 @4\n: @1 @3\n: @2 @1\n= ok\n= @5\n= @6\n= ok\n: @5 s5\n= ok\n= none\n")
unfolding all_of_a_run
steps_through_a_delegate = record { writes = refl; passes = refl; audited = refl }

-- A proxy that is a key follows from its map and its delegate, and its value from the map and the proxy; nothing does when the delegate goes.
pub steps_to_a_proxy_key : Works default_limits ample input.steps_to_a_proxy_key
    (codes "= ok\n= @1\n= @2\n= @3\n= @4\n= ok\n= ok\n= ok\n: @1 s0\n: @2 s1\n: @3 @1 @2\n= ok\n: @1 s0\n: @2 s1\n: @3 @1 @2\n: @4 @1 @3\n= ok\n= ok\n= none\n= none\n= none\n- free @2\n- free @3\n- free @4\n= ok\n= none\n")
unfolding all_of_a_run
steps_to_a_proxy_key = record { writes = refl; passes = refl; audited = refl }

-- A delegate that is found after the map leads from there on to the key and the value, where no other object led to it before.
pub delegate_found_last : Works default_limits ample input.delegate_found_last
    (codes "= ok\n= @1\n= @2\n= @3\n= @4\n= @5\n= @6\n= ok\n= ok\n= ok\n= ok\n= ok\n= ok\n: @6 s7\n: @5 @6\n= ok\n: @1 s0\n: @2 s5\n: @3 @2\n: @4 @1 @3\n= ok\n= ok\n: @1 s0\n: @2 s5\n: @3 @2\n: @4 @1 @3\n: @5 @1 @4\n= ok\n")
unfolding all_of_a_run
delegate_found_last = record { writes = refl; passes = refl; audited = refl }

-- THE INPUTS of the worked examples.
-- Made by tools/worked_examples.py from examples/worked.txt.
use Rattle.std.specs.Prelude.{ℕ, List, [], ◌++◌, codes, replicate}

-- Nothing is written for an empty input.
abbrev pub empty_input : List ℕ
empty_input = []

-- A native whose last reference is given up is freed, and then what it alone held.
abbrev pub cascade_of_two : List ℕ
cascade_of_two = codes "native n0 1\nnative n1 0\nset n0 0 n1\ndrop n1\ndrop n0\n"

-- A slot reads as nothing until it is written.
abbrev pub empty_slot_reads_none : List ℕ
empty_slot_reads_none = codes "native n0 1\nget n1 n0 0\nset n0 0 n0\nget n1 n0 0\ndrop n0\ndrop n1\ncensus\n"

-- A native that holds itself is kept when its register lets it go.
abbrev pub self_cycle_outlives_its_register : List ℕ
self_cycle_outlives_its_register = codes "native n0 1\nset n0 0 n0\ndrop n0\ncensus\n"

-- A collection unlinks and frees a native that only itself holds.
abbrev pub self_cycle_is_collected : List ℕ
self_cycle_is_collected = codes "native n0 1\nset n0 0 n0\ndrop n0\ncensus\ncollect\ncensus\n"

-- Two natives that hold each other are both unlinked before the first of them is freed.
abbrev pub two_cycle_is_collected : List ℕ
two_cycle_is_collected = codes "native n0 1\nnative n1 1\nset n0 0 n1\nset n1 0 n0\ndrop n0\ndrop n1\ncollect\n"

-- A cycle that a register holds is looked at and kept.
abbrev pub held_cycle_is_kept : List ℕ
held_cycle_is_kept = codes "native n0 1\nnative n1 1\nset n0 0 n1\nset n1 0 n0\ndrop n1\ncollect\ncensus\n"

-- Natives that hold each other in a ring are looked at and kept, where a register holds the last of them.
abbrev pub held_ring_of_three_is_kept : List ℕ
held_ring_of_three_is_kept = codes "native n0 1\ncopy n1 n0\nnative n2 1\nset n2 0 n1\ncopy n1 n2\nnative n2 1\nset n2 0 n1\ncopy n1 n2\ndrop n2\nset n0 0 n1\ndrop n0\ncollect\ncensus\n"

-- White natives are taken by rising number, also where the collection came to the later one first.
abbrev pub whites_are_taken_by_rising_number : List ℕ
whites_are_taken_by_rising_number = codes "native n0 1\nnative n1 1\nset n0 0 n1\nset n1 0 n0\ncollect\ndrop n1\ndrop n0\ncollect\n"

-- A native whose last reference is given up goes to the end of the queue: what the first one held is freed before what the second one held.
abbrev pub freed_natives_queue_up : List ℕ
freed_natives_queue_up = codes "native n0 2\nnative n1 1\nnative n2 0\nnative n3 0\nset n0 0 n1\nset n0 1 n2\nset n1 0 n3\ndrop n1\ndrop n2\ndrop n3\ndrop n0\n"

-- A freed native gives up its slots in rising order, so of two chains that it holds the one in its first slot goes first, link by link with the other.
abbrev pub slots_are_given_up_in_rising_order : List ℕ
slots_are_given_up_in_rising_order = codes "native n0 2\nnative n1 1\nnative n2 1\nnative n3 0\nnative n4 0\nset n0 0 n4\nset n0 1 n1\nset n1 0 n2\nset n2 0 n3\ndrop n1\ndrop n2\ndrop n3\ndrop n4\ndrop n0\n"

-- What a register holds is copied, and an object is kept as long as one register holds it; an empty register is copied and emptied too.
abbrev pub registers_are_copied_and_emptied : List ℕ
registers_are_copied_and_emptied = codes "native n0 0\nscript s0 0\ncopy n1 n0\ncopy s1 s0\ndrop n0\ndrop s1\ngc\ncopy s0 s1\ndrop n1\ndrop n1\ngc\n"

-- A collection after one that ended takes what became garbage since, and one that finds nothing tells nothing.
abbrev pub collections_follow_each_other : List ℕ
collections_follow_each_other = codes "native n0 1\nnative n1 1\nset n0 0 n1\nset n1 0 n0\ndrop n0\ndrop n1\ncollect\ncollect\nnative n0 1\nnative n1 1\nset n0 0 n1\nset n1 0 n0\nnative n2 1\nset n2 0 n2\ndrop n0\ndrop n1\ndrop n2\ncollect\ncensus\n"

-- A slot of a script object is written, emptied and read, and what is refused meanwhile leaves it.
abbrev pub script_slots_are_written_and_read : List ℕ
script_slots_are_written_and_read = codes "script s0 2\nscript s1 0\nput s0 1 s1\ntake s2 s0 1\ntake s3 s0 0\nput s0 1 none\ntake s2 s0 1\nput s0 2 s1\nput s0 0 s9\nput s9 0 s1\ntake s1 s9 0\ncensus\n"

-- A slot is not emptied by writing what an empty register holds.
abbrev pub empty_source_of_put_is_refused : List ℕ
empty_source_of_put_is_refused = codes "script s0 1\nscript s1 0\nput s0 0 s1\nput s0 0 s9\ntake s2 s0 0\n"

-- A native is not read into a script register nor exposed, and a script object not read into a native register.
abbrev pub wrong_kinds_in_slots : List ℕ
wrong_kinds_in_slots = codes "native n0 2\nnative n1 0\nscript s0 1\nset n0 0 n1\nset n0 1 s0\nget s1 n0 0\nget n2 n0 1\nget s1 n0 7\nexpose n0 0\nexpose n0 1\nexpose n0 2\nexpose n3 0\n"

-- Gc keeps what a native holds, with all that this reaches, until the native is freed.
abbrev pub native_keeps_what_it_holds : List ℕ
native_keeps_what_it_holds = codes "native n0 1\nscript s0 1\nscript s1 0\nput s0 0 s1\nset n0 0 s0\ndrop s0\ndrop s1\ngc\nget s1 n0 0\ndrop n0\ndrop s1\ngc\n"

-- A script object gets a number that no other one had, though one was freed.
abbrev pub number_of_a_freed_script_object_is_never_used_again : List ℕ
number_of_a_freed_script_object_is_never_used_again = codes "script s0 0\nscript s1 0\ndrop s0\ngc\nscript s0 1\ncensus\nput s0 0 s1\ntake s2 s0 0\n"

-- A script object that holds itself is touched in a native's slot, and outlives the native in a register.
abbrev pub gray_cycle_through_a_slot_is_exposed : List ℕ
gray_cycle_through_a_slot_is_exposed = codes "native n0 1\nscript s0 1\nput s0 0 s0\nset n0 0 s0\ndrop s0\ngc\nexpose n0 0\ncopy s1 s0\ncollect\nget s1 n0 0\ndrop n0\ngc\ncensus\n"

-- A collection takes a native cycle that holds script objects, and the next gc takes these.
abbrev pub native_cycle_that_holds_script_objects_is_collected : List ℕ
native_cycle_that_holds_script_objects_is_collected = codes "native n0 2\nscript s0 1\nscript s1 0\nput s0 0 s1\nset n0 0 n0\nset n0 1 s0\ndrop s0\ndrop s1\ngc\ndrop n0\ncollect\ngc\ncensus\n"

-- Gc frees a script object that nothing holds, and the next gc finds nothing more.
abbrev pub what_nothing_holds_is_freed_once : List ℕ
what_nothing_holds_is_freed_once = codes "script s0 1\nscript s1 0\nput s0 0 s1\nscript s1 0\ndrop s1\ngc\ngc\n"

-- Gc keeps what each slot of a native holds, and the reflector that it preserves.
abbrev pub native_keeps_what_each_slot_holds_and_its_reflector : List ℕ
native_keeps_what_each_slot_holds_and_its_reflector = codes "native n0 2\nscript s0 0\nset n0 0 s0\nscript s0 0\nset n0 1 s0\nwrap s0 n0\npreserve s0\nscript s0 0\ndrop s0\ngc\ncensus\n"

-- A reflector has four slots: the last of them is written and read, and there is none behind it.
abbrev pub reflector_has_four_slots : List ℕ
reflector_has_four_slots = codes "native n0 0\nwrap s0 n0\nscript s1 0\nput s0 3 s1\nput s0 4 s1\ntake s2 s0 3\ntake s2 s0 4\n"

-- A reflector that was made since the last gc keeps its cycle through a collection.
abbrev pub reflector_is_still_black : List ℕ
reflector_is_still_black = codes "native n0 1\nwrap s0 n0\nset n0 0 s0\ndrop s0\ndrop n0\ncollect\ncensus\n"

-- Gc, collect and gc take a cycle of a native and its reflector.
abbrev pub cycle_through_a_reflector : List ℕ
cycle_through_a_reflector = codes "native n0 1\nwrap s0 n0\nset n0 0 s0\ndrop s0\ndrop n0\ncollect\ncensus\ngc\ncollect\ngc\ncensus\n"

-- A blank reflector is freed though its native lives, and goes last when it is made again.
abbrev pub reflector_made_again_is_listed_last : List ℕ
reflector_made_again_is_listed_last = codes "native n0 0\nwrap s0 n0\nscript s1 0\ndrop s0\ngc\nwrap s0 n0\ncensus\n"

-- A reflector whose slot was written lives as long as its native, with what it holds.
abbrev pub written_reflector_is_preserved : List ℕ
written_reflector_is_preserved = codes "native n0 0\nwrap s0 n0\nscript s1 0\nput s0 2 s1\ndrop s1\ndrop s0\ngc\nwrap s0 n0\ntake s1 s0 2\n"

-- Gc marks and sweeps again as long as a freed native lets go of script objects.
abbrev pub gc_sweeps_three_rounds : List ℕ
gc_sweeps_three_rounds = codes "native n0 1\nnative n1 1\nscript s0 0\nset n1 0 s0\nwrap s1 n1\nset n0 0 s1\nwrap s2 n0\ndrop s0\ndrop s1\ndrop s2\ndrop n0\ndrop n1\ngc\n"

-- A collection leaves a cycle that script touched after the last gc, and the next one takes it.
abbrev pub exposed_reflector_waits_for_gc : List ℕ
exposed_reflector_waits_for_gc = codes "native n0 1\nwrap s0 n0\nset n0 0 s0\ndrop s0\ngc\nexpose n0 0\ndrop n0\ncollect\ngc\ncollect\ngc\n"

-- A native and its preserved reflector hold each other, and are taken together.
abbrev pub preserved_reflector_is_collected : List ℕ
preserved_reflector_is_collected = codes "native n0 0\nwrap s0 n0\npreserve s0\ndrop s0\ngc\ndrop n0\ngc\ncollect\ngc\n"

-- Gc, collect and gc take two natives that hold each other through both reflectors and a plain object.
abbrev pub cycle_of_two_natives_and_three_script_objects : List ℕ
cycle_of_two_natives_and_three_script_objects = codes "native n0 1\nnative n1 1\nwrap s0 n0\nwrap s1 n1\nscript s2 1\nset n0 0 s2\nput s2 0 s1\nset n1 0 s0\ndrop s0\ndrop s1\ndrop s2\ndrop n0\ndrop n1\ngc\ncensus\ncollect\ngc\ncensus\n"

-- Unwrap and preserve are refused for what is no reflector, and for an empty register before that.
abbrev pub what_is_no_reflector_is_refused : List ℕ
what_is_no_reflector_is_refused = codes "script s0 1\nunwrap n0 s0\npreserve s0\nunwrap n0 s9\npreserve s9\nnative n0 0\nunwrap n1 s9\nwrap s1 n5\nwrap s1 n0\nunwrap n1 s1\npreserve s1\ncensus\n"

-- A reflector that was swept and is made again has four empty slots.
abbrev pub reflector_made_again_is_blank : List ℕ
reflector_made_again_is_blank = codes "native n0 1\nwrap s0 n0\nscript s1 0\ndrop s0\ngc\nwrap s0 n0\ntake s2 s0 0\ntake s2 s0 3\ntake s2 s0 4\ndrop n0\ndrop s0\ngc\n"

-- A reflector that is swept lets its native go before the next object is swept.
abbrev pub native_is_freed_before_the_next_object_is_swept : List ℕ
native_is_freed_before_the_next_object_is_swept = codes "native n0 0\nwrap s0 n0\nscript s1 0\ndrop n0\ndrop s0\ndrop s1\ngc\n"

-- A native that is wrapped twice has one reflector, and lives by it.
abbrev pub native_has_one_reflector : List ℕ
native_has_one_reflector = codes "native n0 0\nwrap s0 n0\nwrap s1 n0\ndrop n0\ndrop s0\ngc\nunwrap n1 s1\ncensus\n"

-- A reflector that was swept and is made again is preserved like the first one.
abbrev pub reflector_made_again_is_preserved : List ℕ
reflector_made_again_is_preserved = codes "native n0 0\nwrap s0 n0\ndrop s0\ngc\nwrap s0 n0\npreserve s0\ndrop s0\ngc\ncensus\n"

-- A reflector is preserved where a slot of it is emptied, too.
abbrev pub emptied_slot_preserves_its_reflector : List ℕ
emptied_slot_preserves_its_reflector = codes "native n0 0\nwrap s0 n0\nput s0 3 none\ndrop s0\ngc\ncensus\n"

-- A reflector whose slot is not written is not preserved.
abbrev pub refused_put_preserves_nothing : List ℕ
refused_put_preserves_nothing = codes "native n0 0\nwrap s0 n0\nput s0 4 s0\nput s0 4 none\nput s0 4 s9\ndrop s0\ngc\ncensus\n"

-- A reflector is not preserved where it comes into a slot, or becomes a value.
abbrev pub stored_reflector_is_not_preserved : List ℕ
stored_reflector_is_not_preserved = codes "native n0 0\nwrap s0 n0\nscript s1 1\nput s1 0 s0\nweakmap s2\nwset s2 s1 s0\ndrop s0\ndrop s1\ngc\ncensus\n"

-- An entry whose value alone holds its key is dropped, with both.
abbrev pub entry_does_not_keep_its_key : List ℕ
entry_does_not_keep_its_key = codes "weakmap s0\nscript s1 1\nscript s2 1\nput s2 0 s1\nwset s0 s1 s2\ndrop s1\ndrop s2\ngc\ncensus\n"

-- A reflector that became a key lives as long as its native, and its entry with it.
abbrev pub entry_preserves_its_reflector_key : List ℕ
entry_preserves_its_reflector_key = codes "native n0 0\nwrap s1 n0\nweakmap s0\nscript s2 0\nwset s0 s1 s2\ndrop s1\ndrop s2\ngc\nwrap s1 n0\nwget s2 s0 s1\n"

-- Gc, collect and gc take a cycle that goes through an entry of a map that lives on.
abbrev pub cycle_through_an_entry : List ℕ
cycle_through_an_entry = codes "native n0 0\nwrap s1 n0\nweakmap s0\nscript s2 1\nput s2 0 s1\nwset s0 s1 s2\ndrop n0\ndrop s1\ndrop s2\ngc\ncollect\ngc\ncensus\n"

-- A collection keeps the value of an entry whose key a live native holds, and what the value leads to.
abbrev pub value_lives_by_its_mapping : List ℕ
value_lives_by_its_mapping = codes "native n0 1\nnative n1 0\nweakmap s0\nscript s1 0\nscript s2 1\nwrap s3 n1\nput s2 0 s3\nset n0 0 s1\nwset s0 s1 s2\ndrop s1\ndrop s2\ndrop s3\ndrop n1\ngc\ncollect\nget s1 n0 0\nwget s2 s0 s1\ntake s3 s2 0\nunwrap n1 s3\n"

-- An entry's value is replaced, read and taken out; a register frees what it alone held when something else comes into it.
abbrev pub entries_are_replaced_and_taken_out : List ℕ
entries_are_replaced_and_taken_out = codes "native n0 0\nnative n0 0\nweakmap s0\nscript s1 0\nscript s2 0\nwset s0 s1 s2\nwset s0 s1 s1\nwget s3 s0 s1\nwset s0 s1 none\nwget s3 s0 s1\ncopy s3 s3\ndrop s2\ngc\n"

-- Reading a slot of a weak map is refused for the kind of the object, and not for the slot.
abbrev pub weak_map_has_no_slot_to_read : List ℕ
weak_map_has_no_slot_to_read = codes "weakmap s0\ntake s1 s0 0\n"

-- An entry is not looked up by an empty register.
abbrev pub empty_key_is_refused : List ℕ
empty_key_is_refused = codes "weakmap s0\nwget s1 s0 s9\nwget s1 s0 s0\n"

-- Writing a slot of a weak map, or emptying it, is refused for the kind of the object, but first for an empty register.
abbrev pub weak_map_has_no_slot_to_write : List ℕ
weak_map_has_no_slot_to_write = codes "weakmap s0\nput s0 0 s0\nput s0 0 none\nput s0 0 s9\nput s9 0 s0\ntake s1 s0 64\n"

-- A weak map that is the value of an entry of another one lives by it, and so do the values of its own entries.
abbrev pub map_reached_through_an_entry_alone : List ℕ
map_reached_through_an_entry_alone = codes "weakmap s0\nweakmap s1\nscript s2 0\nscript s3 0\nscript s4 0\nwset s0 s2 s1\nwset s1 s3 s4\ndrop s1\ndrop s4\ngc\nwget s1 s0 s2\nwget s4 s1 s3\ndrop s1\ndrop s4\nwset s0 s2 none\ngc\ncensus\n"

-- The entry of a map that is freed is dropped, while its key and its value live on.
abbrev pub entry_goes_with_its_map : List ℕ
entry_goes_with_its_map = codes "weakmap s0\nscript s1 0\nscript s2 0\nwset s0 s1 s2\ndrop s0\ngc\nweakmap s0\nwget s3 s0 s1\ncensus\n"

-- A weak map that is its own key keeps the value as long as it lives.
abbrev pub map_is_its_own_key : List ℕ
map_is_its_own_key = codes "weakmap s0\nscript s1 0\nwset s0 s0 s1\ndrop s1\ngc\nwget s1 s0 s0\ndrop s1\ndrop s0\ngc\n"

-- An entry does not keep its map, also where that is its value.
abbrev pub map_is_a_value_of_its_own : List ℕ
map_is_a_value_of_its_own = codes "weakmap s0\nscript s1 0\nwset s0 s1 s0\nwget s2 s0 s1\ndrop s2\ndrop s0\ngc\ncensus\n"

-- The value of two entries lives by the one whose key lives, and goes when that key goes too.
abbrev pub two_entries_have_one_value : List ℕ
two_entries_have_one_value = codes "weakmap s0\nscript s1 0\nscript s2 0\nscript s3 0\nwset s0 s1 s3\nwset s0 s2 s3\ndrop s3\ndrop s1\ngc\nwget s3 s0 s2\ndrop s3\ndrop s2\ngc\n"

-- An entry does not keep a value that is its own key.
abbrev pub value_is_its_own_key : List ℕ
value_is_its_own_key = codes "weakmap s0\nscript s1 0\nwset s0 s1 s1\ngc\nwget s2 s0 s1\ndrop s1\ndrop s2\ngc\ncensus\n"

-- A reflector is not preserved where its entry is taken out.
abbrev pub taken_out_entry_preserves_nothing : List ℕ
taken_out_entry_preserves_nothing = codes "native n0 0\nwrap s1 n0\nweakmap s0\nwset s0 s1 none\ndrop s1\ngc\ncensus\n"

-- An entry is taken out of one map, where the other keys of that map and the same key of another map keep theirs.
abbrev pub entry_is_taken_out_of_its_map_alone : List ℕ
entry_is_taken_out_of_its_map_alone = codes "weakmap s0\nweakmap s1\nscript s2 0\nscript s3 0\nwset s0 s2 s3\nwset s1 s2 s3\nwset s0 s3 s2\nwset s0 s2 none\nwget s4 s0 s2\nwget s4 s1 s2\nwget s4 s0 s3\n"

-- A reflector that is a value lives by its map and a key that a native holds, and goes with its native when the map goes.
abbrev pub value_goes_with_its_map : List ℕ
value_goes_with_its_map = codes "native n0 1\nnative n1 0\nwrap s0 n1\nweakmap s1\nscript s2 0\nwset s1 s2 s0\nset n0 0 s2\ndrop n1\ndrop s0\ndrop s2\ngc\ncollect\ndrop s1\ngc\ncensus\n"

-- A collection with two nodes takes a unit to begin, one for each node, and one to end.
abbrev pub two_cycle_takes_four_units : List ℕ
two_cycle_takes_four_units = codes "native n0 1\nnative n1 1\nset n0 0 n1\nset n1 0 n0\ndrop n0\ndrop n1\nslice 1\nslice 1\nslice 1\nslice 1\n"

-- A native that stands in the buffer without the purple mark is no node, so a collection that begins with it alone takes two units.
abbrev pub only_purple_natives_are_candidates : List ℕ
only_purple_natives_are_candidates = codes "native n0 0\nslice 2\nnative n1 1\nset n1 0 n1\ndrop n1\nslice 3\n"

-- A native that gets a reference is not purple any more, so a collection that begins with it alone takes two units.
abbrev pub added_reference_ends_purple : List ℕ
added_reference_ends_purple = codes "native n0 0\ncopy n1 n0\ndrop n1\ncopy n1 n0\nslice 2\nnative n2 1\nset n2 0 n2\ndrop n2\nslice 3\n"

-- A purple native that is freed leaves the buffer, so a collection that begins then takes two units.
abbrev pub freed_native_leaves_the_buffer : List ℕ
freed_native_leaves_the_buffer = codes "native n0 0\ncopy n1 n0\ndrop n1\ndrop n0\nslice 2\nnative n2 1\nset n2 0 n2\ndrop n2\nslice 3\n"

-- A black script object that a native holds is no node, so a collection with that native alone takes three units.
abbrev pub black_objects_are_not_looked_at : List ℕ
black_objects_are_not_looked_at = codes "native n0 1\nscript s0 0\nset n0 0 s0\ncopy n1 n0\ndrop n1\nslice 3\nnative n2 1\nset n2 0 n2\ndrop n2\nslice 3\n"

-- A native that becomes purple once more keeps its place in the buffer, so it is looked at before those that became purple in between.
abbrev pub marked_again_keeps_its_place_in_the_buffer : List ℕ
marked_again_keeps_its_place_in_the_buffer = codes "native n0 1\nset n0 0 n0\ncopy n1 n0\ndrop n1\nnative n2 1\nnative n3 0\nset n2 0 n3\ncopy n1 n2\ndrop n1\ndrop n0\nslice 2\nset n2 0 none\nslice 2\n"

-- Candidates are looked at before the natives that hold gray objects, of which one is freed meanwhile.
abbrev pub candidates_come_before_holders : List ℕ
candidates_come_before_holders = codes "native n0 1\nset n0 0 n0\nnative n1 1\nscript s0 0\nset n1 0 s0\ndrop s0\ndrop n0\ngc\nslice 2\ndrop n1\nslice 2\n"

-- An entry whose value was replaced keeps its place, so its members are looked at before those of an entry that was set in between.
abbrev pub replaced_entry_keeps_its_place : List ℕ
replaced_entry_keeps_its_place = codes "native n0 2\nweakmap s0\nscript s1 0\nscript s2 1\nscript s3 0\nput s2 0 s3\nset n0 0 s1\nset n0 1 s2\nwset s0 s1 s2\nwset s0 s2 s2\nwset s0 s1 s1\ndrop s1\ndrop s2\ndrop s3\nnative n1 1\nset n1 0 n1\ndrop n1\ngc\nslice 4\nexpose n0 1\nslice 2\n"

-- An entry that was taken out and set again goes last, so its members are looked at after those of an entry that was set in between.
abbrev pub entry_set_again_goes_last : List ℕ
entry_set_again_goes_last = codes "native n0 2\nweakmap s0\nscript s1 0\nscript s2 1\nscript s3 0\nput s2 0 s3\nset n0 0 s1\nset n0 1 s2\nwset s0 s1 s1\nwset s0 s2 s2\nwset s0 s1 none\nwset s0 s1 s1\ndrop s1\ndrop s2\ndrop s3\nnative n1 1\nset n1 0 n1\ndrop n1\ngc\nslice 4\nexpose n0 1\nslice 2\nslice 1\n"

-- Collect ends the collection that runs and begins another, which takes what became garbage in between.
abbrev pub collect_begins_one_of_its_own : List ℕ
collect_begins_one_of_its_own = codes "native n0 1\nset n0 0 n0\nslice 1\ndrop n0\ncollect\n"

-- The numbers of what a collect unlinks begin anew where it has ended the collection that ran, and runs one of its own.
abbrev pub collect_ends_one_and_takes_more_in_its_own : List ℕ
collect_ends_one_and_takes_more_in_its_own = codes "native n0 1\nset n0 0 n0\nnative n1 1\nset n1 0 n1\ndrop n1\nslice 1\ndrop n0\ncollect\n"

-- A native that was touched while a collection ran waits for the next one.
abbrev pub touched_between_slices : List ℕ
touched_between_slices = codes "native n0 1\nset n0 0 n0\ncopy n1 n0\ndrop n1\nslice 1\ncopy n2 n0\ndrop n0\ndrop n2\nslice 10\ncollect\n"

-- What script read from a native while a collection ran keeps what it holds.
abbrev pub read_between_slices : List ℕ
read_between_slices = codes "native n0 1\nscript s0 1\nscript s1 0\nput s0 0 s1\nset n0 0 s0\ndrop s0\ndrop s1\ngc\nslice 1\nget s0 n0 0\nset n0 0 none\nslice 10\ntake s1 s0 0\n"

-- A native lives by its reflector, which script touched while the collection ran.
abbrev pub native_lives_by_an_exposed_reflector : List ℕ
native_lives_by_an_exposed_reflector = codes "native n0 1\nnative n1 0\nnative n2 2\nwrap s0 n1\nset n0 0 s0\nset n2 0 s0\nset n2 1 n2\ndrop s0\ndrop n1\ndrop n2\ngc\nslice 3\nget s1 n0 0\nset n0 0 none\nslice 10\nunwrap n1 s1\n"

-- A native that gets a reference after it was sampled is touched, so it is not looked at with an old count.
abbrev pub copied_after_its_node_was_traversed : List ℕ
copied_after_its_node_was_traversed = codes "native n0 1\nset n0 0 n0\ncopy n1 n0\ndrop n1\nslice 2\ncopy n2 n0\nslice 5\ndrop n0\ndrop n2\ncollect\n"

-- A native that was looked at and is freed before the end counts as it was sampled: it was held, so this collection keeps what it led to.
abbrev pub freed_after_its_node_was_traversed : List ℕ
freed_after_its_node_was_traversed = codes "native n0 0\nwrap s0 n0\nnative n1 1\nset n1 0 s0\ndrop s0\ndrop n0\ngc\nslice 3\ndrop n1\nslice 2\ngc\ncensus\n"

-- Unlinking one white native may free the one that comes next in the walk.
abbrev pub native_vanishes_inside_an_unlink : List ℕ
native_vanishes_inside_an_unlink = codes "native n0 2\nnative n1 0\nset n0 0 n0\nset n0 1 n1\ndrop n0\nslice 1\ndrop n1\nslice 10\n"

-- A native made while a collection runs is kept, and the cycle that the collection began with is taken.
abbrev pub native_made_between_slices : List ℕ
native_made_between_slices = codes "native n0 1\nwrap s0 n0\nset n0 0 s0\ndrop s0\ndrop n0\ngc\nslice 1\nnative n1 0\nslice 9\ngc\ncensus\n"

-- Gc brings a collection that runs to its end before it marks.
abbrev pub gc_ends_a_running_collection : List ℕ
gc_ends_a_running_collection = codes "native n0 1\nset n0 0 n0\ndrop n0\nslice 1\ngc\n"

-- A native that holds nothing gray but its reflector is looked at, and so is this, so a collection with one candidate takes five units.
abbrev pub native_that_preserves_a_gray_reflector_is_a_holder : List ℕ
native_that_preserves_a_gray_reflector_is_a_holder = codes "native n0 0\nwrap s0 n0\npreserve s0\ndrop s0\nnative n1 1\nset n1 0 n1\ndrop n1\ngc\nslice 4\nslice 1\n"

-- What a native's slots hold is looked at before its reflector, which has become black meanwhile and leads to nothing more.
abbrev pub preserved_reflector_is_looked_at_after_the_slots : List ℕ
preserved_reflector_is_looked_at_after_the_slots = codes "native n0 1\nwrap s0 n0\nscript s1 0\nscript s2 0\nput s0 0 s2\nset n0 0 s1\ndrop s0\ndrop s1\ndrop s2\nnative n1 1\nset n1 0 n1\ndrop n1\ngc\nslice 4\nwrap s3 n0\nslice 1\nslice 1\n"

-- A map of which an entry tells is looked at before the key, and the key before the value, each of which is exposed in between and leads to nothing more.
abbrev pub map_comes_before_its_key : List ℕ
map_comes_before_its_key = codes "native n0 3\nweakmap s0\nscript s1 1\nscript s2 1\nscript s3 0\nscript s4 0\nput s1 0 s3\nput s2 0 s4\nset n0 0 s2\nset n0 1 s1\nset n0 2 s0\nwset s0 s1 s2\ndrop s0\ndrop s1\ndrop s2\ndrop s3\ndrop s4\nnative n1 1\nset n1 0 n1\ndrop n1\ngc\nslice 4\nexpose n0 1\nslice 1\nexpose n0 0\nslice 1\nslice 1\n"

-- A black key of a gray map is no node, so a collection with one candidate, the holder of the map, the map and the value takes six units.
abbrev pub black_key_is_not_looked_at : List ℕ
black_key_is_not_looked_at = codes "native n0 1\nweakmap s0\nscript s1 0\nscript s2 0\nwset s0 s1 s2\nset n0 0 s0\ndrop s0\ndrop s2\nnative n1 1\nset n1 0 n1\ndrop n1\ngc\nslice 5\nslice 1\nget s3 n0 0\nwget s2 s3 s1\n"

-- An unlinked native gives up its slots in rising order, each with all that goes with it before the next one.
abbrev pub unlinking_empties_slots_in_rising_order : List ℕ
unlinking_empties_slots_in_rising_order = codes "native n0 3\nnative n1 0\nnative n2 1\nnative n3 0\nset n0 0 n0\nset n0 1 n2\nset n0 2 n1\nset n2 0 n3\ndrop n3\ndrop n0\nslice 1\ndrop n1\ndrop n2\nslice 10\n"

-- A collection whose begin is refused memory is abandoned, and nothing is forgotten.
abbrev pub collect_refused_at_its_begin : List ℕ
collect_refused_at_its_begin = codes "native n0 1\nset n0 0 n0\ndrop n0\ncollect\ngc\ncollect\ngc\ncensus\n"

-- A collection whose first node is refused memory is abandoned, and its candidate comes back.
abbrev pub collect_refused_at_a_node : List ℕ
collect_refused_at_a_node = codes "native n0 1\nset n0 0 n0\ndrop n0\ncollect\ngc\ncollect\ngc\ncensus\n"

-- A candidate that is freed before its collection is abandoned does not come back with the others, so the next collection takes three units.
abbrev pub freed_candidate_does_not_come_back : List ℕ
freed_candidate_does_not_come_back = codes "native n0 0\ncopy n1 n0\ndrop n1\nnative n1 1\nset n1 0 n1\ndrop n1\nslice 1\ndrop n0\nslice 9\nslice 2\nslice 1\ncensus\n"

-- A collect that is refused memory while it ends the collection that runs begins no other, and the next one takes all.
abbrev pub collect_stops_where_the_running_one_is_refused : List ℕ
collect_stops_where_the_running_one_is_refused = codes "native n0 1\nset n0 0 n0\ndrop n0\nslice 1\ncollect\ncollect\n"

-- A collect that is refused memory in its own collection has ended the one that ran.
abbrev pub collect_refused_in_its_own : List ℕ
collect_refused_in_its_own = codes "native n0 1\nset n0 0 n0\ndrop n0\nslice 1\nnative n1 1\nset n1 0 n1\ndrop n1\ncollect\ncollect\n"

-- Gc abandons a collection that is refused memory, says so first, and sweeps all the same.
abbrev pub gc_goes_on_where_the_running_one_is_refused : List ℕ
gc_goes_on_where_the_running_one_is_refused = codes "native n0 1\nset n0 0 n0\ndrop n0\nscript s0 0\ndrop s0\nslice 1\ngc\ncollect\n"

-- A weak map is not made where memory is refused, and the next one gets the number.
abbrev pub weak_map_takes_memory : List ℕ
weak_map_takes_memory = codes "weakmap s0\ncensus\nweakmap s0\n"

-- A new entry that is refused memory is not there, and its key is not preserved: a blank reflector is swept, though its native lives.
abbrev pub refused_entry_preserves_nothing : List ℕ
refused_entry_preserves_nothing = codes "native n0 0\nwrap s1 n0\nweakmap s0\nscript s2 0\nwset s0 s1 s2\nwget s3 s0 s1\ndrop s1\ngc\nwrap s1 n0\nwget s3 s0 s1\nwset s0 s1 s2\nwget s3 s0 s1\ndrop s1\ngc\nwrap s1 n0\nwget s3 s0 s1\n"

-- Each of five commands takes memory once, and what changes no more than contents takes none.
abbrev pub what_takes_memory : List ℕ
what_takes_memory = codes "native n0 0\nscript s0 0\nweakmap s1\nwrap s2 n0\nwset s1 s2 s0\nwrap s3 n0\nwset s1 s2 s2\nput s2 0 s0\nwset s1 s2 none\ncopy n1 n0\ngc\nnative n1 0\n"

-- A reflector is not made where memory is refused, and the register that was to hold it stays as it was.
abbrev pub reflector_takes_memory : List ℕ
reflector_takes_memory = codes "native n0 0\nwrap s0 n0\ncopy s1 s0\ncensus\nwrap s0 n0\n"

-- A begin that finds no node, a native that leads to nothing, and the end take no memory, so what is made after them is refused.
abbrev pub unit_that_adds_nothing_takes_no_memory : List ℕ
unit_that_adds_nothing_takes_no_memory = codes "native n0 0\nslice 2\ncopy n1 n0\ndrop n1\nslice 1\nslice 1\nslice 1\nnative n1 0\n"

-- A native that is made where a freed candidate stood is not looked at in its place, so no memory is taken for what it holds.
abbrev pub reused_key_is_not_taken_for_its_node : List ℕ
reused_key_is_not_taken_for_its_node = codes "native n0 0\ncopy n1 n0\ndrop n1\nslice 1\ndrop n0\nnative n0 1\nset n0 0 n0\nslice 1\nslice 1\nnative n1 0\n"

-- A candidate that is touched while its collection runs stands in the buffer behind what was touched before, and keeps that place, with the mark, when the collection is abandoned.
abbrev pub abandonment_leaves_a_candidate_at_its_place : List ℕ
abandonment_leaves_a_candidate_at_its_place = codes "native n0 1\nnative n5 0\nset n0 0 n5\ncopy n1 n0\ndrop n1\nslice 1\nnative n2 1\nset n2 0 n2\ndrop n2\ncopy n1 n0\nnative n3 2\nnative n6 0\nnative n7 0\nset n3 0 n6\nset n3 1 n7\ncopy n4 n3\ndrop n4\nslice 1\nslice 2\nset n0 0 none\nslice 1\nset n3 0 none\nset n3 1 none\nslice 1\nslice 1\n"

-- A line with a token too many or too few is not in the grammar, and the next one is answered.
abbrev pub wrong_number_of_tokens : List ℕ
wrong_number_of_tokens = codes "collect now\nscript s0\nnative n0 0\n"

-- Tokens are parted by spaces, more than one too and at both ends, and a tab, a sign, a leading zero or a capital letter is not taken.
abbrev pub spaces_part_tokens : List ℕ
spaces_part_tokens = codes "  native   n0  1  \n\n  \n  % note\nnative" ++ replicate 1 9 ++ codes "n1 0\ncensus" ++ replicate 1 9 ++ codes "\nCensus\ndrop n00\ndrop n-1\nset n0 +0 n0\nset n0 0 nones\ncopy n1 s1\nset  n0 0  none\ncensus\n"

-- What is near to a form with native registers and in none is refused.
abbrev pub forms_of_natives_are_few : List ℕ
forms_of_natives_are_few = codes "native n0 65\nnative n0 01\nnative n256 0\nnative n00 0\nnative n 0\nnative N0 0\nnative n0\nnative n0 0 0\nnative n0 +1\nNative n0 0\ncopy n3 s4\nset n0 4294967296 n0\nset n0 0 None\nget n1 none 3\ncensus n0\ncollect now\nnative" ++ replicate 1 9 ++ codes "n0 0\n" ++ replicate 1 9 ++ codes "census\ncensus" ++ replicate 1 13 ++ replicate 1 13 ++ codes "\ncensus %\n"

-- What is near to a form with script registers and in none is refused.
abbrev pub forms_of_script_objects_are_few : List ℕ
forms_of_script_objects_are_few = codes "script s0 65\nscript s256 0\nscript s0 01\nscript n0 1\nscript s0\ncopy s0 n0\ncopy n1 s0\ndrop s09\ndrop none\ndrop s1 s2\nset s0 0 n0\nset s0 0 none\nget s0 s1 0\nget n0 s1 0\nput s0 4294967296 none\nput s1 2 n3\nput n0 0 s1\nput s0 0\ntake s0 n1 0\ntake n0 s1 0\ntake s0 s1 none\nexpose s0 0\nexpose n0\ngc now\nGC\nslice 0\n"

-- What is near to a form for reflectors or weak maps and in none is refused.
abbrev pub forms_of_reflectors_and_maps_are_few : List ℕ
forms_of_reflectors_and_maps_are_few = codes "wrap n1 s2\nwrap s1 s2\nwrap s1\nwrap s1 none\nunwrap s1 n2\nunwrap n1 n2\nunwrap n1 s2 0\npreserve n7\npreserve none\npreserve\nweakmap s256\nweakmap n0\nweakmap s0 1\nweakmap\nwset s1 s2 None\nwset s1 none s3\nwset n1 s2 s3\nwset s1 n2 s3\nwset s1 s2 n3\nwset s1 s2\nwget n1 s2 s3\nwget s1 n2 s3\nwget s1 s2 none\nwget s1 s2 s3 s4\n"

-- Each register that must hold an object is refused where it is empty, and those that may be empty are not.
abbrev pub empty_registers_are_refused : List ℕ
empty_registers_are_refused = codes "native n0 1\nweakmap s0\nscript s1 1\nset n9 0 n0\nset n9 0 none\nset n0 0 n9\nset n0 0 s9\nget n1 n9 0\nexpose n9 0\nput s9 0 s1\nput s9 0 none\nput s1 0 s9\ntake s2 s9 0\nwrap s2 n9\nunwrap n1 s9\npreserve s9\nwset s9 s1 s1\nwset s0 s9 s1\nwset s0 s1 s9\nwset s9 s1 none\nwset s0 s9 none\nwget s2 s9 s1\nwget s2 s0 s9\ndrop n9\ncopy n9 n8\ncopy s9 s8\nget n9 n0 0\ntake s9 s1 0\nwget s9 s0 s1\nunwrap n9 s1\nwrap s9 n0\n"

-- Each object of the wrong kind is refused.
abbrev pub wrong_kinds_are_refused : List ℕ
wrong_kinds_are_refused = codes "native n0 1\nwrap s0 n0\nweakmap s1\nscript s2 1\nput s1 0 s2\ntake s3 s1 0\nunwrap n1 s1\nunwrap n1 s2\npreserve s1\npreserve s2\nwset s0 s2 s2\nwset s2 s2 s2\nwset s2 s2 none\nwget s3 s0 s2\nwget s3 s2 s2\n"

-- An empty register is told before a wrong kind and a missing slot, a wrong kind before a missing slot, and this before what a slot holds.
abbrev pub refusals_in_their_order : List ℕ
refusals_in_their_order = codes "weakmap s0\nscript s1 1\nnative n0 1\nput s0 0 s9\nwset s1 s9 s1\nwget s2 s1 s9\nset n0 9 s9\nput s0 9 s1\nset n0 0 n0\nget s9 n0 1\n"

-- What is refused, and what becomes of blank lines, comments, long lines and carriage returns.
abbrev pub refusals_and_odd_lines : List ℕ
refusals_and_odd_lines = codes "native n0 1\nnative n1 0\nset n0 0 n1\nget s0 n0 0\nget s0 n0 7\nset n0 9 none\nset n0 9 n8\nexpose n0 0\nweakmap s0\nscript s1 0\nput s0 9 s1\nput s1 0 s0\nunwrap n0 s9\nunwrap n0 s1\nslice 0\ncollect now\n\n% note\n" ++ replicate 121 97 ++ codes "\ncensus" ++ replicate 1 13 ++ codes "\n"

-- The greatest numbers of slots, indexes, registers and units are taken, and greater ones are not in the grammar.
abbrev pub numbers_at_their_bounds : List ℕ
numbers_at_their_bounds = codes "native n0 64\nset n0 63 n0\nset n0 64 n0\nset n0 4294967295 n0\nset n0 4294967296 n0\nnative n0 65\nnative n0 01\nnative n256 0\nnative n255 0\ncopy n1 s0\ncopy n1 n7\ndrop n7\nslice 1000000\nslice 1000001\n"

-- One unit and a million are taken, and neither none nor more are in the grammar.
abbrev pub units_at_their_bounds : List ℕ
units_at_their_bounds = codes "slice 1000001\nslice 1000000\nslice 1\nslice 0\n"

-- A line of 120 bytes is read and one of 121 is not, a comment and a carriage return counted.
abbrev pub line_of_120_bytes_is_taken : List ℕ
line_of_120_bytes_is_taken = codes "native n0 0" ++ replicate 109 32 ++ codes "\nnative n1 0" ++ replicate 110 32 ++ codes "\n%" ++ replicate 119 97 ++ codes "\n%" ++ replicate 120 97 ++ codes "\n" ++ replicate 119 97 ++ replicate 1 13 ++ codes "\n" ++ replicate 120 97 ++ replicate 1 13 ++ codes "\ncensus\n"

-- A last line that no line feed ends is answered, its carriage return dropped.
abbrev pub last_line_needs_no_line_feed : List ℕ
last_line_needs_no_line_feed = codes "native n0 0\ncensus" ++ replicate 1 13

-- The limit of natives counts those that were freed.
abbrev pub limit_counts_freed_natives : List ℕ
limit_counts_freed_natives = codes "native n0 0\ndrop n0\nnative n0 0\n"

-- The limit of script objects counts those that were freed.
abbrev pub limit_counts_freed_script_objects : List ℕ
limit_counts_freed_script_objects = codes "script s0 0\ndrop s0\ngc\nscript s0 0\n"

-- Plain script objects and weak maps are counted together, up to the limit itself.
abbrev pub limit_counts_weak_maps : List ℕ
limit_counts_weak_maps = codes "script s0 0\nweakmap s1\nweakmap s2\nscript s3 0\n"

-- A command that is refused for a limit wants no memory.
abbrev pub full_comes_before_want_of_memory : List ℕ
full_comes_before_want_of_memory = codes "native n0 0\nnative n1 0\nscript s0 0\n"

-- An input of as many bytes as may be read is read whole.
abbrev pub input_of_exactly_the_bytes_allowed : List ℕ
input_of_exactly_the_bytes_allowed = codes "native n0 0\n"

-- An input of one byte more ends the run after the lines that end within the limit.
abbrev pub input_of_one_byte_more : List ℕ
input_of_one_byte_more = codes "native n0 0\n\n"

-- With no byte allowed one byte ends the run with nothing written.
abbrev pub input_where_no_byte_is_allowed : List ℕ
input_where_no_byte_is_allowed = codes "x"

-- Where the line feed of the only line is one byte more than may be read, nothing is answered.
abbrev pub input_of_one_byte_less : List ℕ
input_of_one_byte_less = codes "native n0 0\n"

-- An empty input is read whole where no byte is allowed.
abbrev pub empty_input_where_no_byte_is_allowed : List ℕ
empty_input_where_no_byte_is_allowed = []

-- A proxy that is a key and that nothing holds lives while its map and its delegate do, and its value with it; they go with the delegate.
abbrev pub proxy_key_lives_as_long_as_map_and_delegate : List ℕ
proxy_key_lives_as_long_as_map_and_delegate = codes "weakmap s0\nscript s1 0\nproxy s2 s1\nscript s3 0\nwset s0 s2 s3\ndrop s2\ndrop s3\ngc\ncensus\ndrop s1\ngc\n"

-- A reflector that gets a proxy is preserved: it outlives the proxy, and its native keeps it.
abbrev pub reflector_with_a_proxy_is_preserved : List ℕ
reflector_with_a_proxy_is_preserved = codes "native n0 0\nwrap s0 n0\nproxy s1 s0\ndrop s0\ndrop s1\ngc\ncensus\n"

-- Gc, collect and gc take a cycle that goes from a reflector over its proxy, which is a key, to the value of that key, which holds the reflector.
abbrev pub cycle_through_a_proxy_key : List ℕ
cycle_through_a_proxy_key = codes "native n0 0\nwrap s1 n0\nweakmap s0\nproxy s2 s1\nscript s3 1\nput s3 0 s1\nwset s0 s2 s3\ndrop n0\ndrop s1\ndrop s2\ndrop s3\ngc\ncollect\ngc\n"

-- A proxy keeps what it stands for, with all that this holds, and is not kept by it where it is no key.
abbrev pub proxy_keeps_its_delegate : List ℕ
proxy_keeps_its_delegate = codes "script s0 1\nscript s1 0\nput s0 0 s1\nproxy s2 s0\ndrop s0\ndrop s1\ngc\ncensus\ndrop s2\ngc\nscript s0 0\nproxy s1 s0\ndrop s1\ngc\n"

-- A proxy of a proxy of a reflector keeps both, and with them the native; the cycle of native and reflector is taken once nothing holds the proxies.
abbrev pub proxy_of_a_proxy_of_a_reflector : List ℕ
proxy_of_a_proxy_of_a_reflector = codes "native n0 0\nwrap s0 n0\nproxy s1 s0\nproxy s2 s1\ndrop n0\ndrop s0\ndrop s1\ngc\ncollect\ncensus\ndrop s2\ngc\ncollect\ngc\n"

-- A key that is a proxy of another proxy lives by it, where that is a key too and lives by its own delegate.
abbrev pub key_that_is_a_proxy_of_a_key : List ℕ
key_that_is_a_proxy_of_a_key = codes "weakmap s0\nscript s1 0\nproxy s2 s1\nproxy s3 s2\nscript s4 0\nscript s5 0\nwset s0 s3 s4\nwset s0 s2 s5\ndrop s2\ndrop s3\ndrop s4\ndrop s5\ngc\ncensus\ndrop s1\ngc\n"

-- A proxy that is a key of two maps lives by the second one when the first is gone, and the values go each with its map.
abbrev pub proxy_is_a_key_of_two_maps : List ℕ
proxy_is_a_key_of_two_maps = codes "weakmap s0\nweakmap s1\nscript s2 0\nproxy s3 s2\nscript s4 0\nscript s5 0\nwset s0 s3 s4\nwset s1 s3 s5\ndrop s3\ndrop s4\ndrop s5\ngc\ndrop s0\ngc\ndrop s1\ngc\n"

-- A key that stands for its own map lives as long as this.
abbrev pub delegate_is_the_map_itself : List ℕ
delegate_is_the_map_itself = codes "weakmap s0\nproxy s1 s0\nscript s2 0\nwset s0 s1 s2\ndrop s1\ndrop s2\ngc\ncensus\ndrop s0\ngc\n"

-- A value for which its key stands is kept by no entry.
abbrev pub delegate_is_the_value : List ℕ
delegate_is_the_value = codes "weakmap s0\nscript s1 0\nproxy s2 s1\nwset s0 s2 s1\ndrop s2\ngc\ncensus\ndrop s1\ngc\ncensus\n"

-- An entry whose value alone holds the delegate of its key is dropped, with all three.
abbrev pub value_holds_the_delegate : List ℕ
value_holds_the_delegate = codes "weakmap s0\nscript s1 0\nproxy s2 s1\nscript s3 1\nput s3 0 s1\nwset s0 s2 s3\ndrop s1\ndrop s2\ndrop s3\ngc\ncensus\n"

-- A proxy is kept by its delegate no longer where its entry is taken out or goes with its map.
abbrev pub entry_of_a_proxy_key_is_taken_out : List ℕ
entry_of_a_proxy_key_is_taken_out = codes "weakmap s0\nscript s1 0\nproxy s2 s1\nwset s0 s2 s1\nwget s3 s0 s2\nwset s0 s2 none\ndrop s3\ndrop s2\ngc\nproxy s2 s1\nwset s0 s2 s2\ndrop s2\ngc\ndrop s0\ngc\n"

-- An entry of a proxy that is set again keeps its delegate: key and new value live by map and delegate, and go with the delegate.
abbrev pub entry_of_a_proxy_key_is_set_again : List ℕ
entry_of_a_proxy_key_is_set_again = codes "weakmap s0\nscript s1 0\nproxy s2 s1\nscript s3 0\nscript s4 0\nwset s0 s2 s3\nwset s0 s2 s4\ndrop s2\ndrop s3\ndrop s4\ngc\ncensus\ndrop s1\ngc\ncensus\n"

-- A proxy that is a value lives by map and key alone.
abbrev pub proxy_is_a_value : List ℕ
proxy_is_a_value = codes "weakmap s0\nscript s1 0\nscript s2 0\nproxy s3 s2\nwset s0 s1 s3\ndrop s3\ngc\nwget s3 s0 s1\ndrop s3\ndrop s1\ngc\n"

-- A collection keeps a native to whose reflector a proxy in a slot of another native leads, and the next one takes it.
abbrev pub gray_proxy_keeps_its_delegate : List ℕ
gray_proxy_keeps_its_delegate = codes "native n0 1\nnative n1 0\nwrap s1 n1\nproxy s2 s1\nset n0 0 s2\ndrop s1\ndrop s2\ndrop n1\ngc\ncollect\ncensus\ndrop n0\ngc\ncollect\ngc\ncensus\n"

-- A collection keeps a native to which the value of a proxy key leads, where a native holds the delegate alone.
abbrev pub gray_proxy_key_of_a_live_native : List ℕ
gray_proxy_key_of_a_live_native = codes "native n0 1\nnative n1 0\nweakmap s0\nscript s1 0\nproxy s2 s1\nscript s3 1\nwrap s4 n1\nput s3 0 s4\npreserve s4\nset n0 0 s1\nwset s0 s2 s3\ndrop s1\ndrop s2\ndrop s3\ndrop s4\ndrop n1\ngc\ncollect\ncensus\nget s1 n0 0\ngc\ncensus\n"

-- A proxy that script reads out of a native while a collection runs exposes its delegate too, so the native to which that leads is kept.
abbrev pub exposed_proxy_exposes_its_delegate : List ℕ
exposed_proxy_exposes_its_delegate = codes "native n0 1\nnative n1 0\nwrap s1 n1\nproxy s2 s1\nset n0 0 s2\ndrop s1\ndrop s2\ndrop n1\ngc\nslice 1\nget s2 n0 0\nset n0 0 none\nslice 99\ncensus\n"

-- The delegate of a proxy key is exposed after a collection began, in which map, delegate, key and value were gray, and the native to which the value leads is kept.
abbrev pub delegate_exposed_between_slices : List ℕ
delegate_exposed_between_slices = codes "native n0 2\nnative n1 0\nweakmap s0\nscript s1 0\nproxy s2 s1\nscript s3 1\nwrap s4 n1\nput s3 0 s4\npreserve s4\nset n0 0 s1\nset n0 1 s0\nwset s0 s2 s3\ndrop s0\ndrop s1\ndrop s2\ndrop s3\ndrop s4\ndrop n1\ngc\nslice 1\nexpose n0 0\nslice 99\ncensus\n"

-- A delegate that was gray when its mapping was noted is read into a register, and the native that held it lets it go: key and value live by the black delegate, and so does the native.
abbrev pub delegate_read_after_its_mapping_was_noted : List ℕ
delegate_read_after_its_mapping_was_noted = codes "native n0 1\nnative n1 0\nweakmap s0\nscript s1 0\nproxy s2 s1\nscript s3 1\nwrap s4 n1\nput s3 0 s4\npreserve s4\nset n0 0 s1\nwset s0 s2 s3\ndrop s1\ndrop s2\ndrop s3\ndrop s4\ndrop n1\ngc\nslice 1\nget s1 n0 0\nset n0 0 none\nslice 99\ngc\ncensus\ndrop s1\ngc\ncollect\ngc\ncensus\n"

-- A proxy made and set as a key while a collection runs keeps nothing beyond its delegate, and the cycle is taken by the next collection.
abbrev pub entry_of_a_proxy_set_in_mid_collection : List ℕ
entry_of_a_proxy_set_in_mid_collection = codes "native n0 1\nwrap s1 n0\nweakmap s0\nscript s3 1\nput s3 0 s1\npreserve s1\nset n0 0 n0\ndrop s1\ndrop s3\ngc\nslice 1\nwrap s1 n0\nscript s3 1\nput s3 0 s1\nproxy s2 s1\nwset s0 s2 s3\ndrop n0\ndrop s1\ndrop s2\ndrop s3\nslice 99\ngc\ncollect\ngc\ncensus\n"

-- A delegate of which an entry tells is looked at before the key, and the key before the value: what the delegate holds is noted before script touches it, and what the value holds is black by then, so there are eight units.
abbrev pub delegate_comes_before_its_key : List ℕ
delegate_comes_before_its_key = codes "native n0 2\nweakmap s0\nscript s1 1\nproxy s2 s1\nscript s3 1\nscript s4 0\nscript s5 0\nput s1 0 s4\nput s3 0 s5\nset n0 0 s1\nset n0 1 s3\nwset s0 s2 s3\ndrop s1\ndrop s2\ndrop s3\ndrop s4\ndrop s5\nnative n1 1\nset n1 0 n1\ndrop n1\ngc\nslice 4\nexpose n0 0\nslice 1\nexpose n0 1\nslice 1\nslice 1\nslice 1\n"

-- A collection with one candidate looks at it, at the holder of a delegate, at the delegate, at the proxy and at the value, so it takes seven units.
abbrev pub gray_proxy_key_takes_seven_units : List ℕ
gray_proxy_key_takes_seven_units = codes "native n0 1\nweakmap s0\nscript s1 0\nproxy s2 s1\nscript s3 0\nwset s0 s2 s3\nset n0 0 s1\ndrop s1\ndrop s2\ndrop s3\nnative n1 1\nset n1 0 n1\ndrop n1\ngc\nslice 6\nslice 1\nget s1 n0 0\ngc\ncensus\n"

-- A slot of a proxy is neither written nor read, since it has none; it is no reflector and no weak map.
abbrev pub proxy_has_no_slots : List ℕ
proxy_has_no_slots = codes "script s0 1\nproxy s1 s0\nput s1 0 s0\nput s1 0 none\nput s1 4 s9\ntake s2 s1 0\ntake s2 s1 4294967295\nunwrap n0 s1\npreserve s1\nwset s1 s0 s0\nwset s1 s0 none\nwget s2 s1 s0\nnative n0 1\nset n0 0 s1\nget s3 n0 0\nput s0 0 s3\ntake s2 s0 0\ncensus\n"

-- A proxy is not made of what an empty register holds, and the register that was to hold it keeps what it holds.
abbrev pub proxy_of_nothing_is_refused : List ℕ
proxy_of_nothing_is_refused = codes "script s0 0\nproxy s0 s1\nproxy s1 s1\ncopy s2 s0\nproxy s0 s0\nproxy s0 s0\ndrop s2\ngc\ncensus\n"

-- Proxies count with plain objects and weak maps, and an empty register is told before the limit.
abbrev pub limit_counts_proxies : List ℕ
limit_counts_proxies = codes "script s0 0\nproxy s1 s0\nproxy s2 s0\nproxy s2 s9\nweakmap s2\nscript s2 0\n"

-- A proxy takes memory; where it is refused nothing is made and no reflector is preserved.
abbrev pub refused_proxy_preserves_nothing : List ℕ
refused_proxy_preserves_nothing = codes "native n0 0\nwrap s0 n0\nproxy s1 s0\ncopy s2 s1\ndrop s0\ngc\nwrap s0 n0\nproxy s1 s0\ndrop s0\ndrop s1\ngc\ncensus\n"

-- A proxy that is refused for the limit preserves no reflector.
abbrev pub full_proxy_preserves_nothing : List ℕ
full_proxy_preserves_nothing = codes "native n0 0\nscript s1 0\nwrap s0 n0\nproxy s2 s0\ndrop s0\ngc\n"

-- A proxy is asked for with two script registers and nothing else.
abbrev pub forms_of_proxies_are_few : List ℕ
forms_of_proxies_are_few = codes "proxy\nproxy s0\nproxy n0 s0\nproxy s0 n0\nproxy s256 s0\nproxy s0 s256\nproxy s0 s1 s2\nproxy s0 none\nproxy s0 0\nProxy s0 s1\nproxy s00 s1\nproxy s255 s255\n"

-- A script whose first line asks for version 2 has registers up to 1023 and objects of up to 256 slots.
abbrev pub version_two_is_asked_for_first : List ℕ
version_two_is_asked_for_first = codes "version 2\nnative n1023 256\nscript s1023 256\nset n1023 255 n1023\nset n1023 256 n1023\nput s1023 255 s1023\nput s1023 256 s1023\nnative n1024 0\nscript s1024 0\nnative n0 257\nscript s0 257\nnative n0 1\n"

-- A script that asks for nothing has 256 registers, 64 slots and no word of version 2, and can't ask later on.
abbrev pub version_one_means_what_it_meant : List ℕ
version_one_means_what_it_meant = codes "native n255 64\nnative n256 0\nmove n255 0 n255 1\nversion 2\n"

-- A comment before it leaves version 2 to be asked for.
abbrev pub comment_before_version_two : List ℕ
comment_before_version_two = codes "% c\nversion 2\n"

-- Blank lines and comments in any number leave version 2 to be asked for, and spaces part its tokens too.
abbrev pub blank_lines_before_version_two : List ℕ
blank_lines_before_version_two = codes "\n  \n% note\n" ++ replicate 1 13 ++ codes "\n  " ++ replicate 1 13 ++ codes "\n%" ++ replicate 119 97 ++ codes "\n  version   2  \nnative n1023 0\n"

-- A line that is too long makes the script one of version 1.
abbrev pub long_line_before_version_two : List ℕ
long_line_before_version_two = replicate 121 97 ++ codes "\nversion 2\nnative n256 0\nnative n255 65\nnative n255 64\n"

-- A comment that is too long makes the script one of version 1.
abbrev pub long_comment_before_version_two : List ℕ
long_comment_before_version_two = codes "%" ++ replicate 120 97 ++ codes "\nversion 2\nnative n256 0\n"

-- A line that is not in the grammar makes the script one of version 1.
abbrev pub bad_line_before_version_two : List ℕ
bad_line_before_version_two = codes "census now\nversion 2\nnative n256 0\n"

-- A command makes the script one of version 1.
abbrev pub command_before_version_two : List ℕ
command_before_version_two = codes "census\nversion 2\nnative n256 0\n"

-- A command that is refused makes the script one of version 1.
abbrev pub refused_command_before_version_two : List ℕ
refused_command_before_version_two = codes "preserve s0\nversion 2\nnative n256 0\n"

-- No version is asked for again, and what is refused so leaves the script in version 2.
abbrev pub version_two_is_asked_for_once : List ℕ
version_two_is_asked_for_once = codes "version 2\nversion 2\nversion 1\nversion 3\nversion\n" ++ replicate 121 97 ++ codes "\nnative n256 65\n"

-- Version 1 has no line that asks for it.
abbrev pub version_one_is_not_asked_for : List ℕ
version_one_is_not_asked_for = codes "version 1\nversion 2\nnative n256 0\n"

-- There is no version 3, and who asks for it gets version 1.
abbrev pub version_three_is_not_known : List ℕ
version_three_is_not_known = codes "version 3\nversion 2\nnative n256 0\n"

-- The number of the version is written without a zero before it.
abbrev pub version_has_no_leading_zero : List ℕ
version_has_no_leading_zero = codes "version 02\nversion 2\nnative n256 0\n"

-- A version is asked for by its number.
abbrev pub version_without_a_number : List ℕ
version_without_a_number = codes "version\nversion 2\nnative n256 0\n"

-- A version is asked for by one number.
abbrev pub version_with_two_numbers : List ℕ
version_with_two_numbers = codes "version 2 2\nversion 2\nnative n256 0\n"

-- A tab does not part the word from its number.
abbrev pub version_behind_a_tab : List ℕ
version_behind_a_tab = codes "version" ++ replicate 1 9 ++ codes "2\nversion 2\nnative n256 0\n"

-- The word is in lower case.
abbrev pub version_with_a_capital_letter : List ℕ
version_with_a_capital_letter = codes "Version 2\nversion 2\nnative n256 0\n"

-- Version 2 is asked for by a line that ends with a carriage return too.
abbrev pub version_two_with_carriage_returns : List ℕ
version_two_with_carriage_returns = codes "version 2" ++ replicate 1 13 ++ codes "\nnative n256 0" ++ replicate 1 13 ++ codes "\n"

-- One carriage return is dropped, and two of them are not.
abbrev pub version_two_with_two_carriage_returns : List ℕ
version_two_with_two_carriage_returns = codes "version 2" ++ replicate 1 13 ++ replicate 1 13 ++ codes "\nversion 2\nnative n256 0\n"

-- Version 2 is asked for by a last line that no line feed ends.
abbrev pub version_two_without_a_line_feed : List ℕ
version_two_without_a_line_feed = codes "version 2"

-- The lines that end within the limit are answered in version 2, where the input goes on behind it.
abbrev pub version_two_within_the_bytes_allowed : List ℕ
version_two_within_the_bytes_allowed = codes "version 2\nnative n256 0\ncensus\n"

-- Version 2 is not asked for where its line feed is one byte more than may be read.
abbrev pub version_two_of_one_byte_too_many : List ℕ
version_two_of_one_byte_too_many = codes "version 2\n"

-- In version 2 each form takes registers above 255.
abbrev pub wide_registers_in_every_form : List ℕ
wide_registers_in_every_form = codes "version 2\nnative n1000 2\nscript s1000 1\nweakmap s1001\nproxy s1002 s1000\ncopy n1001 n1000\ncopy s1003 s1000\nset n1000 0 n1001\nset n1000 1 s1003\nget n1002 n1000 0\nget s1004 n1000 1\nexpose n1000 1\nset n1000 1 none\nput s1000 0 s1001\ntake s1005 s1000 0\nput s1000 0 none\nwrap s1006 n1000\nunwrap n1003 s1006\npreserve s1006\nwset s1001 s1002 s1000\nwget s1007 s1001 s1002\nwset s1001 s1002 none\ndrop n1001\ndrop s1004\ncensus\n"

-- In version 2 no form takes register 1024, at any place, nor 257 slots.
abbrev pub register_1024_is_in_no_form : List ℕ
register_1024_is_in_no_form = codes "version 2\nnative n1024 0\nnative n0 257\nscript s1024 0\nscript s0 257\nweakmap s1024\nproxy s1024 s0\nproxy s0 s1024\ncopy n1024 n0\ncopy n0 n1024\ncopy s1024 s0\ncopy s0 s1024\ndrop n1024\ndrop s1024\nset n1024 0 n0\nset n0 0 n1024\nset n1024 0 s0\nset n0 0 s1024\nset n1024 0 none\nget n1024 n0 0\nget n0 n1024 0\nget s1024 n0 0\nget s0 n1024 0\nput s1024 0 s0\nput s0 0 s1024\nput s1024 0 none\ntake s1024 s0 0\ntake s0 s1024 0\nwrap s1024 n0\nwrap s0 n1024\nunwrap n1024 s0\nunwrap n0 s1024\npreserve s1024\nwset s1024 s0 s0\nwset s0 s1024 s0\nwset s0 s0 s1024\nwset s1024 s0 none\nwset s0 s1024 none\nwget s1024 s0 s0\nwget s0 s1024 s0\nwget s0 s0 s1024\nexpose n1024 0\n"

-- In version 1 no form takes register 256, at any place, nor 65 slots.
abbrev pub register_256_is_in_no_form_of_version_one : List ℕ
register_256_is_in_no_form_of_version_one = codes "native n256 0\nnative n0 65\nscript s256 0\nscript s0 65\nweakmap s256\nproxy s256 s0\nproxy s0 s256\ncopy n256 n0\ncopy n0 n256\ncopy s256 s0\ncopy s0 s256\ndrop n256\ndrop s256\nset n256 0 n0\nset n0 0 n256\nset n256 0 s0\nset n0 0 s256\nset n256 0 none\nget n256 n0 0\nget n0 n256 0\nget s256 n0 0\nget s0 n256 0\nput s256 0 s0\nput s0 0 s256\nput s256 0 none\ntake s256 s0 0\ntake s0 s256 0\nwrap s256 n0\nwrap s0 n256\nunwrap n256 s0\nunwrap n0 s256\npreserve s256\nwset s256 s0 s0\nwset s0 s256 s0\nwset s0 s0 s256\nwset s256 s0 none\nwset s0 s256 none\nwget s256 s0 s0\nwget s0 s256 s0\nwget s0 s0 s256\nexpose n256 0\n"

-- Script collections and collections keep what a register above 255 holds, and take it when the register lets it go.
abbrev pub registers_above_255_are_roots : List ℕ
registers_above_255_are_roots = codes "version 2\nnative n1023 1\nset n1023 0 n1023\nscript s1023 0\ngc\ncollect\ngc\ncensus\ndrop n1023\ndrop s1023\ngc\ncollect\ngc\ncensus\n"

-- A freed native gives up its slots above 63 as the others, in rising order.
abbrev pub slots_above_63_are_given_up_in_rising_order : List ℕ
slots_above_63_are_given_up_in_rising_order = codes "version 2\nnative n0 256\nnative n1 0\nnative n2 0\nnative n3 0\nset n0 255 n1\nset n0 64 n2\nset n0 63 n3\ndrop n1\ndrop n2\ndrop n3\ndrop n0\n"

-- A cycle through both heaps is collected, where it goes through the last slot of a native and of a script object.
abbrev pub last_slots_are_looked_at : List ℕ
last_slots_are_looked_at = codes "version 2\nnative n0 256\nscript s0 256\nwrap s1 n0\nput s0 255 s1\nset n0 255 s0\ndrop n0\ndrop s0\ndrop s1\ngc\ncollect\ngc\n"

-- What the last slot of the last register's native holds is moved, and its slot is empty then.
abbrev pub last_register_and_last_slot_move : List ℕ
last_register_and_last_slot_move = codes "version 2\nnative n1023 256\nset n1023 255 n1023\nnative n1024 0\nnative n0 257\nversion 2\nnative n0 1\nmove n0 0 n1023 255\nmove n1023 0 n0 0\nmove n1023 0 n0 0\n"

-- A native that moves is freed when the slot that it moved to lets it go, and not before.
abbrev pub move_changes_no_count : List ℕ
move_changes_no_count = codes "version 2\nnative n0 1\nnative n1 1\nnative n2 0\nset n0 0 n2\ndrop n2\nmove n1 0 n0 0\nmove n0 0 n1 0\nget n2 n1 0\ndrop n1\nget n2 n0 0\ndrop n2\nset n0 0 none\ndrop n0\n"

-- The slot that a native moves to gives up what it held, with all that this alone held.
abbrev pub move_gives_up_what_the_slot_held : List ℕ
move_gives_up_what_the_slot_held = codes "version 2\nnative n0 1\nnative n1 1\nnative n2 1\nnative n3 0\nset n0 0 n2\nset n2 0 n3\ndrop n2\ndrop n3\nnative n4 0\nset n1 0 n4\ndrop n4\nmove n0 0 n1 0\nget n2 n0 0\nget n3 n1 0\n"

-- Where there is nothing to move, the slot that it would move to is emptied.
abbrev pub move_of_nothing_empties_the_slot : List ℕ
move_of_nothing_empties_the_slot = codes "version 2\nnative n0 2\nnative n1 1\nnative n2 0\nscript s0 0\nset n0 0 n2\nset n0 1 s0\ndrop n2\ndrop s0\nmove n0 0 n1 0\nmove n0 1 n1 0\nget n2 n0 0\ngc\n"

-- A native moves into a slot of its own, and only itself holds it then.
abbrev pub native_moves_into_its_own_slot : List ℕ
native_moves_into_its_own_slot = codes "version 2\nnative n0 1\nnative n1 1\nset n1 0 n0\nmove n0 0 n1 0\ndrop n0\nget n2 n1 0\ncensus\ncollect\ncensus\n"

-- What moves to where it is stays there, also where two registers name its holder.
abbrev pub move_onto_its_own_place : List ℕ
move_onto_its_own_place = codes "version 2\nnative n0 1\nnative n1 0\nset n0 0 n1\ndrop n1\ncopy n2 n0\nmove n0 0 n0 0\nmove n2 0 n0 0\nget n1 n0 0\ndrop n1\ndrop n2\ndrop n0\n"

-- A native that moves onto itself in another slot is held by one slot then.
abbrev pub move_onto_a_slot_that_holds_it : List ℕ
move_onto_a_slot_that_holds_it = codes "version 2\nnative n0 2\nnative n1 0\nset n0 0 n1\nset n0 1 n1\ndrop n1\nmove n0 0 n0 1\nget n1 n0 1\nset n0 0 none\n"

-- Script objects of each kind move, onto natives too, and a native moves onto a script object.
abbrev pub all_kinds_of_objects_move : List ℕ
all_kinds_of_objects_move = codes "version 2\nnative n0 1\nnative n1 1\nnative n2 0\nscript s0 0\nweakmap s1\nproxy s2 s0\nwrap s3 n1\nset n0 0 n2\ndrop n2\nset n1 0 s0\nmove n0 0 n1 0\nget n2 n0 0\nset n1 0 s1\nmove n0 0 n1 0\nset n1 0 s2\nmove n0 0 n1 0\nset n1 0 s3\nmove n0 0 n1 0\nget s4 n0 0\nset n1 0 n0\nmove n0 0 n1 0\nget s4 n0 0\n"

-- Both registers hold natives before a slot is asked for, and both slots are there before anything moves.
abbrev pub refused_moves_in_their_order : List ℕ
refused_moves_in_their_order = codes "version 2\nnative n0 2\nnative n1 1\nset n1 0 n0\nmove n9 0 n1 0\nmove n0 0 n9 0\nmove n9 7 n9 7\nmove n9 0 n1 7\nmove n0 2 n1 0\nmove n0 0 n1 1\nmove n0 4294967295 n1 4294967295\nmove n0 4294967296 n9 0\nmove n0 1 n1 0\n"

-- A move has a native register and a slot for each of its places, and nothing else.
abbrev pub forms_of_moves_are_few : List ℕ
forms_of_moves_are_few = codes "version 2\nmove\nmove n0 n1\nmove n0 0 n1\nmove n0 0 n1 0 0\nmove s0 0 n1 0\nmove n0 0 s1 0\nmove n0 none n1 0\nmove n0 0 none 0\nmove n0 0 none\nmove n1024 0 n0 0\nmove n0 0 n1024 0\nmove n0 4294967296 n1 0\nmove n0 0 n1 4294967296\nmove n0 00 n1 0\nmove n0 0 n1 -1\nMove n0 0 n1 0\nmove n0 0, n1 0\nmove n1023 0 n1023 0\n"

-- A collection takes a native that only itself holds, when a move made the slot give it up.
abbrev pub native_given_up_by_a_move_is_suspected : List ℕ
native_given_up_by_a_move_is_suspected = codes "version 2\nnative n0 1\nnative n1 1\nnative n2 1\nset n2 0 n2\nset n0 0 n2\ndrop n2\ncollect\nmove n0 0 n1 0\ncollect\n"

-- A move puts the native into the buffer without the purple mark: the collection has one node and takes three units.
abbrev pub moved_native_is_no_candidate : List ℕ
moved_native_is_no_candidate = codes "version 2\nnative n0 1\nnative n1 1\nnative n2 0\nset n0 0 n2\ndrop n2\ncollect\nnative n3 1\nset n3 0 n3\ndrop n3\nmove n1 0 n0 0\nslice 3\n"

-- A native that was suspected is no longer, when it moves: the collection has one node and takes three units.
abbrev pub move_ends_purple : List ℕ
move_ends_purple = codes "version 2\nnative n0 1\nnative n1 1\nnative n2 0\nset n0 0 n2\ndrop n2\nnative n3 1\nset n3 0 n3\ndrop n3\nmove n1 0 n0 0\nslice 3\n"

-- A native that moves to where it is comes into the buffer as any other that moves.
abbrev pub move_onto_its_own_place_ends_purple : List ℕ
move_onto_its_own_place_ends_purple = codes "version 2\nnative n0 1\nnative n1 0\nset n0 0 n1\ndrop n1\nnative n2 1\nset n2 0 n2\ndrop n2\nmove n0 0 n0 0\nslice 3\n"

-- A native that a refused move would have moved is suspected still: the collection has two nodes and takes four units.
abbrev pub refused_move_touches_nothing : List ℕ
refused_move_touches_nothing = codes "version 2\nnative n0 1\nnative n1 0\nset n0 0 n1\ndrop n1\nnative n2 1\nset n2 0 n2\ndrop n2\nmove n0 1 n0 0\nslice 3\nslice 1\n"

-- References that move from a traversed native to one that is not are noted twice, and nothing that a register reaches is unlinked.
abbrev pub moved_to_a_native_that_is_yet_to_be_traversed : List ℕ
moved_to_a_native_that_is_yet_to_be_traversed = codes "version 2\nnative n0 2\nnative n1 2\nset n0 0 n1\nset n0 1 n0\ncopy n2 n0\ndrop n2\ncopy n2 n1\ndrop n2\nslice 2\nmove n1 0 n0 0\nmove n1 1 n0 1\nslice 2\nget n3 n1 0\nget n4 n1 1\ncensus\ndrop n0\ndrop n1\ndrop n3\ndrop n4\ncollect\n"

-- References that move from a native that is yet to be traversed to one that was are noted nowhere, and nothing is unlinked.
abbrev pub moved_to_a_native_that_was_traversed : List ℕ
moved_to_a_native_that_was_traversed = codes "version 2\nnative n0 2\nnative n1 2\nset n1 0 n0\nset n1 1 n1\ncopy n2 n0\ndrop n2\ncopy n2 n1\ndrop n2\nslice 2\nmove n0 0 n1 0\nmove n0 1 n1 1\nslice 2\nget n3 n0 0\nget n4 n0 1\ncensus\ndrop n0\ndrop n1\ndrop n3\ndrop n4\ncollect\n"

-- References that were noted twice move back, and nothing that a register reaches is unlinked.
abbrev pub moved_forth_and_back_between_slices : List ℕ
moved_forth_and_back_between_slices = codes "version 2\nnative n0 2\nnative n1 2\nset n0 0 n1\nset n0 1 n0\ncopy n2 n0\ndrop n2\ncopy n2 n1\ndrop n2\nslice 2\nmove n1 0 n0 0\nmove n1 1 n0 1\nslice 1\nmove n0 0 n1 0\nmove n0 1 n1 1\nslice 1\nget n3 n0 0\nget n4 n0 1\n"

-- The only reference to a native moves from a traversed native to one that is not, and the native is kept.
abbrev pub only_reference_moves_behind_its_node : List ℕ
only_reference_moves_behind_its_node = codes "version 2\nnative n0 1\nnative n1 1\nnative n2 0\nset n0 0 n2\ncopy n3 n0\ndrop n3\ncopy n3 n1\ndrop n3\ndrop n2\nslice 2\nmove n1 0 n0 0\nslice 2\nslice 1\nget n2 n1 0\ncensus\n"

-- The only reference to a native moves from a native that is yet to be traversed to one that was, and the native is kept.
abbrev pub only_reference_moves_before_its_node : List ℕ
only_reference_moves_before_its_node = codes "version 2\nnative n0 1\nnative n1 1\nnative n2 0\nset n1 0 n2\ncopy n3 n0\ndrop n3\ncopy n3 n1\ndrop n3\ndrop n2\nslice 2\nmove n0 0 n1 0\nslice 2\nslice 1\nget n2 n0 0\ncensus\n"

-- A candidate that moved is suspected again when the collection is abandoned: the next one has two nodes and takes four units.
abbrev pub abandonment_suspects_a_moved_candidate : List ℕ
abandonment_suspects_a_moved_candidate = codes "version 2\nnative n0 1\nnative n1 1\nnative n2 1\nset n2 0 n2\nset n0 0 n2\ndrop n2\nnative n3 1\nset n3 0 n3\ndrop n3\nslice 1\nmove n1 0 n0 0\nslice 1\nslice 3\nslice 1\n"

-- A move is done where the next wish for memory is refused.
abbrev pub move_takes_no_memory : List ℕ
move_takes_no_memory = codes "version 2\nnative n0 1\nnative n1 1\nset n0 0 n1\nmove n1 0 n0 0\nnative n2 0\n"

-- A gray reflector that moves is black, so a collection does not look at it before the next gc.
abbrev pub moved_reflector_waits_for_gc : List ℕ
moved_reflector_waits_for_gc = codes "version 2\nnative n0 2\nwrap s0 n0\nset n0 0 s0\ndrop s0\ngc\nmove n0 1 n0 0\ndrop n0\ncollect\ngc\ncollect\ngc\n"

-- A gray reflector that moves to where it is is black as any other that moves.
abbrev pub move_onto_its_own_place_exposes : List ℕ
move_onto_its_own_place_exposes = codes "version 2\nnative n0 1\nwrap s0 n0\nset n0 0 s0\ndrop s0\ngc\nmove n0 0 n0 0\ndrop n0\ncollect\ngc\ncollect\ngc\n"

-- A gray reflector moves out of a native before its node is traversed, and the native that it refers to is kept.
abbrev pub native_lives_by_a_moved_reflector : List ℕ
native_lives_by_a_moved_reflector = codes "version 2\nnative n0 1\nnative n1 0\nnative n2 2\nwrap s0 n1\nset n0 0 s0\nset n2 0 s0\nset n2 1 n2\ndrop s0\ndrop n1\ndrop n2\nnative n3 1\ngc\nslice 3\nmove n3 0 n0 0\nslice 10\nget s1 n3 0\nunwrap n1 s1\n"

-- A gray key moves out of a native before its node is traversed, and what the value of its entry leads to is kept.
abbrev pub value_lives_by_a_moved_key : List ℕ
value_lives_by_a_moved_key = codes "version 2\nnative n0 1\nnative n1 0\nweakmap s0\nscript s1 0\nscript s2 1\nwrap s3 n1\nput s2 0 s3\nset n0 0 s1\nwset s0 s1 s2\ndrop s1\ndrop s2\ndrop s3\ndrop n1\nnative n3 1\ngc\nslice 1\nmove n3 0 n0 0\nslice 10\nget s1 n3 0\nwget s2 s0 s1\ntake s3 s2 0\nunwrap n1 s3\n"

-- What a gray script object that moves holds in its slots is black too, and the native that this leads to is kept.
abbrev pub move_exposes_over_slots : List ℕ
move_exposes_over_slots = codes "version 2\nnative n0 1\nnative n1 0\nnative n2 2\nscript s1 1\nwrap s0 n1\nput s1 0 s0\nset n0 0 s1\nset n2 0 s0\nset n2 1 n2\ndrop s0\ndrop s1\ndrop n1\ndrop n2\nnative n3 1\ngc\nslice 3\nmove n3 0 n0 0\nslice 10\nget s1 n3 0\ntake s0 s1 0\nunwrap n1 s0\n"

-- How a register reaches a native, and that none does once the register lets go.
abbrev pub steps_from_a_register : List ℕ
steps_from_a_register = codes "version 2\nnative n0 1\nnative n1 0\nset n0 0 n1\ndrop n1\nwhy #2\ndrop n0\nwhy #2\n"

-- A value follows from its map and its key, and a name that was never made follows from nothing.
abbrev pub steps_to_a_value : List ℕ
steps_to_a_value = codes "version 2\nweakmap s0\nscript s1 0\nscript s2 0\nwset s0 s1 s2\ndrop s2\nwhy @3\nwhy @9\n"

-- An object that some registers hold follows from the first of them, whichever took it first.
abbrev pub first_register_tells : List ℕ
first_register_tells = codes "version 2\nnative n1023 0\ncopy n7 n1023\ncopy n300 n1023\nscript s1023 0\ncopy s9 s1023\ncopy s255 s1023\nwhy #1\nwhy @1\ndrop n7\ndrop s9\nwhy #1\nwhy @1\ndrop n300\ndrop s255\nwhy #1\nwhy @1\n"

-- An object that a register holds needs no other step, though a slot of an earlier one holds it too.
abbrev pub register_tells_before_a_slot : List ℕ
register_tells_before_a_slot = codes "version 2\nnative n0 1\nnative n1 1\nnative n2 0\nset n0 0 n1\nset n1 0 n2\nwhy #2\nwhy #3\ndrop n2\nwhy #3\ndrop n1\nwhy #3\n"

-- A native that a register holds does not follow from its reflector, which a script register holds.
abbrev pub native_register_tells_before_a_reflector : List ℕ
native_register_tells_before_a_reflector = codes "version 2\nnative n9 0\nwrap s0 n9\nwhy #1\nwhy ~1\ndrop n9\nwhy #1\nwhy ~1\n"

-- An object that two others hold follows from the one in the lower slot, whichever was made or written first.
abbrev pub slots_tell_in_rising_order : List ℕ
slots_tell_in_rising_order = codes "version 2\nnative n0 256\nnative n1 1\nnative n2 1\nnative n3 0\nset n0 255 n1\nset n0 64 n2\nset n1 0 n3\nset n2 0 n3\ndrop n1\ndrop n2\ndrop n3\nwhy #4\nset n0 64 none\nwhy #4\n"

-- An object that the second of two registers leads to at once does not follow from the longer path of the first.
abbrev pub nearer_path_tells : List ℕ
nearer_path_tells = codes "version 2\nnative n0 1\nnative n1 1\nnative n2 1\nnative n3 1\nset n0 0 n1\nset n1 0 n2\nset n3 0 n2\ndrop n1\ndrop n2\nwhy #3\ndrop n3\nwhy #3\n"

-- A path goes from a native over a script object and a reflector to the next native, and on.
abbrev pub steps_through_both_heaps : List ℕ
steps_through_both_heaps = codes "version 2\nnative n0 2\nnative n1 1\nnative n2 0\nscript s0 1\nwrap s1 n1\nset n0 1 s0\nput s0 0 s1\nset n1 0 n2\ndrop n1\ndrop n2\ndrop s0\ndrop s1\nwhy #3\nwhy @1\ngc\ncollect\nwhy #3\n"

-- A native leads to its reflector, and over its slots on, once script wrote to it, and not before.
abbrev pub steps_through_a_preserved_reflector : List ℕ
steps_through_a_preserved_reflector = codes "version 2\nnative n0 0\nwrap s0 n0\nscript s1 0\ndrop s0\nwhy ~1\nwrap s0 n0\nput s0 3 s1\ndrop s0\ndrop s1\nwhy ~1\nwhy @1\ndrop n0\nwhy ~1\nwhy #1\nwhy @1\n"

-- An object to which a slot of a native leads, and its preserved reflector too, follows from the slot.
abbrev pub slots_tell_before_the_preserved_reflector : List ℕ
slots_tell_before_the_preserved_reflector = codes "version 2\nnative n0 1\nwrap s0 n0\nscript s1 1\nscript s2 0\nput s0 0 s2\nput s1 0 s2\nset n0 0 s1\ndrop s0\ndrop s1\ndrop s2\nwhy @2\nset n0 0 none\nwhy @2\n"

-- An object to which a slot of a reflector leads, and its native too, follows from the slot.
abbrev pub slots_tell_before_the_native : List ℕ
slots_tell_before_the_native = codes "version 2\nnative n0 1\nwrap s0 n0\nscript s1 1\nscript s2 0\nput s0 3 s1\nput s1 0 s2\nset n0 0 s2\ndrop n0\ndrop s1\ndrop s2\nwhy @2\nput s0 3 none\nwhy @2\n"

-- Of two branches that meet in an entry the steps stand in the order in which they were found, and those that lead elsewhere are left out.
abbrev pub other_steps_are_left_out : List ℕ
other_steps_are_left_out = codes "version 2\nscript s0 1\nweakmap s1\nnative n0 1\nscript s2 0\nscript s3 0\nnative n5 0\nscript s5 0\nput s0 0 s1\nset n0 0 s2\nwset s1 s2 s3\ndrop s1\ndrop s2\ndrop s3\nwhy @4\nwhy @5\nwhy #2\n"

-- An entry whose map is found before its key leads to its value from the key on, and what the key itself holds is found before that.
abbrev pub entry_waits_for_its_key : List ℕ
entry_waits_for_its_key = codes "version 2\nweakmap s0\nscript s5 1\nscript s6 1\nscript s1 1\nscript s2 0\nput s5 0 s6\nput s6 0 s1\nwset s0 s1 s2\ndrop s6\ndrop s1\ndrop s2\nwhy @5\ntake s6 s5 0\ntake s1 s6 0\nwget s2 s0 s1\nput s1 0 s2\ndrop s6\ndrop s1\ndrop s2\nwhy @5\n"

-- A value that a slot of its key holds too follows from map and key where the map is found first, and from the slot where the key is.
abbrev pub entry_tells_before_a_slot_of_its_key : List ℕ
entry_tells_before_a_slot_of_its_key = codes "version 2\nweakmap s1\nscript s2 1\nscript s3 0\nput s2 0 s3\nwset s1 s2 s3\ndrop s3\nwhy @3\ncopy s5 s1\ndrop s1\nwhy @3\n"

-- A value of two entries follows from the one that was set first; a replaced value leaves an entry its place, and what is set again goes last.
abbrev pub entries_tell_in_their_order : List ℕ
entries_tell_in_their_order = codes "version 2\nweakmap s0\nscript s1 0\nscript s2 0\nscript s3 0\nwset s0 s2 s2\nwset s0 s1 s3\nwset s0 s2 s3\ndrop s3\nwhy @4\nwget s3 s0 s2\nwset s0 s2 none\nwset s0 s2 s3\ndrop s3\nwhy @4\n"

-- The value of an entry is the key of the next one, whichever of them was set first.
abbrev pub chain_of_entries : List ℕ
chain_of_entries = codes "version 2\nweakmap s0\nscript s1 0\nscript s2 0\nscript s3 0\nscript s4 0\nwset s0 s2 s3\nwset s0 s1 s2\nwset s0 s3 s4\ndrop s2\ndrop s3\ndrop s4\nwhy @5\ndrop s1\nwhy @5\n"

-- A proxy leads to its delegate and over this on, and a delegate does not lead back to its proxy.
abbrev pub steps_through_a_delegate : List ℕ
steps_through_a_delegate = codes "version 2\nscript s1 1\nscript s3 0\nput s1 0 s3\nproxy s2 s1\ndrop s1\ndrop s3\nwhy @1\nwhy @2\nproxy s4 s2\ndrop s2\nwhy @2\nscript s5 0\nproxy s6 s5\ndrop s6\nwhy @5\nwhy @6\n"

-- A proxy that is a key follows from its map and its delegate, and its value from the map and the proxy; nothing does when the delegate goes.
abbrev pub steps_to_a_proxy_key : List ℕ
steps_to_a_proxy_key = codes "version 2\nweakmap s0\nscript s1 0\nproxy s2 s1\nscript s3 0\nwset s0 s2 s3\ndrop s2\ndrop s3\nwhy @3\nwhy @4\ndrop s1\nwhy @2\nwhy @3\nwhy @4\ngc\nwhy @4\n"

-- A delegate that is found after the map leads from there on to the key and the value, where no other object led to it before.
abbrev pub delegate_found_last : List ℕ
delegate_found_last = codes "version 2\nweakmap s0\nscript s5 1\nscript s1 0\nproxy s2 s1\nscript s3 0\nscript s7 1\nput s5 0 s1\nwset s0 s2 s3\nput s7 0 s3\ndrop s1\ndrop s2\ndrop s3\nwhy @5\nwhy @4\ndrop s7\nwhy @5\n"

-- A proxy of a proxy key follows from this and the map, also where its own entry was set first.
abbrev pub chain_of_proxy_keys : List ℕ
chain_of_proxy_keys = codes "version 2\nweakmap s0\nscript s1 0\nproxy s2 s1\nproxy s3 s2\nscript s4 0\nwset s0 s3 s4\nwset s0 s2 s0\ndrop s2\ndrop s3\ndrop s4\nwhy @5\n"

-- A map that is its own key, or for which its key stands, is told once and named twice.
abbrev pub map_is_key_and_delegate : List ℕ
map_is_key_and_delegate = codes "version 2\nweakmap s0\nscript s1 0\nwset s0 s0 s1\nproxy s2 s0\nscript s3 0\nwset s0 s2 s3\ndrop s1\ndrop s2\ndrop s3\nwhy @1\nwhy @2\nwhy @3\nwhy @4\n"

-- Neither a value alone leads to its key, nor a key to its map, nor a map alone to anything.
abbrev pub entry_does_not_lead_back : List ℕ
entry_does_not_lead_back = codes "version 2\nweakmap s0\nscript s1 0\nscript s2 1\nwset s0 s1 s2\nput s2 0 s1\ndrop s1\ndrop s2\nwhy @2\nwhy @3\nwget s1 s0 s1\nweakmap s3\nscript s4 0\nwset s3 s4 s4\ndrop s3\nwhy @4\nwhy @5\n"

-- Each native of a cycle follows from the one before it, from the register on, and none does when the register lets go, though all are there.
abbrev pub cycle_of_natives_is_told_once : List ℕ
cycle_of_natives_is_told_once = codes "version 2\nnative n0 1\nnative n1 1\nnative n2 1\nset n0 0 n1\nset n1 0 n2\nset n2 0 n0\ndrop n0\ndrop n2\nwhy #1\nwhy #2\nwhy #3\ndrop n1\nwhy #1\nwhy #2\nwhy #3\ncensus\ncollect\nwhy #2\n"

-- A value that leads back to its key is told once, and by nothing when map and key are let go.
abbrev pub cycle_through_an_entry_is_told_once : List ℕ
cycle_through_an_entry_is_told_once = codes "version 2\nnative n0 0\nwrap s1 n0\nweakmap s0\nscript s2 1\nput s2 0 s1\nwset s0 s1 s2\ndrop s1\ndrop s2\nwhy @2\nwhy ~1\ndrop n0\nwhy @2\nwhy #1\ngc\ncollect\nwhy ~1\ngc\nwhy ~1\n"

-- A reflector that nothing holds follows from nothing, before it is swept and after that, and from its register when it is made again.
abbrev pub swept_reflector_follows_from_nothing : List ℕ
swept_reflector_follows_from_nothing = codes "version 2\nnative n0 0\nwhy ~1\nwrap s0 n0\nwhy ~1\ndrop s0\nwhy ~1\ngc\nwhy ~1\nwhy #1\nwrap s3 n0\nwhy ~1\n"

-- A name that no object has yet, of each kind and up to the greatest number, follows from nothing.
abbrev pub names_never_made_follow_from_nothing : List ℕ
names_never_made_follow_from_nothing = codes "version 2\nwhy #1\nwhy @1\nwhy ~1\nnative n0 0\nscript s0 0\nwhy #2\nwhy @2\nwhy ~1\nwhy ~2\nwhy #4294967295\nwhy @4294967295\nwhy ~4294967295\nwhy #1\nwhy @1\n"

-- A name beyond the limit is asked for as any other that was never made.
abbrev pub limit_leaves_names_that_were_never_made : List ℕ
limit_leaves_names_that_were_never_made = codes "version 2\nnative n0 0\nnative n1 0\nwhy #2\nwhy #1\nwhy @2\n"

-- It is asked for with one name, whose number is at least 1, and with nothing else.
abbrev pub forms_of_why_are_few : List ℕ
forms_of_why_are_few = codes "version 2\nnative n0 0\nscript s0 0\nwrap s1 n0\nwhy\nwhy 7\nwhy #0\nwhy @0\nwhy ~0\nwhy n0\nwhy s0\nwhy none\nwhy #\nwhy @\nwhy ~\nwhy # 1\nwhy #1 #1\nwhy #1 1\nwhy ##1\nwhy #@1\nwhy #01\nwhy #00\nwhy #-1\nwhy #+1\nwhy #1,\nwhy #n0\nwhy #4294967296\nwhy @4294967296\nwhy ~4294967296\nwhy #10000000000000000000001\nwhy %1\nwhy $1\nwhy A1\nwhy }\nWhy #1\nWHY #1\nwhy" ++ replicate 1 9 ++ codes "#1\nwhy #1" ++ replicate 1 9 ++ codes "\nwhy#1\nwhyy #1\nwh #1\n  why   #1  \nwhy @1\nwhy ~1" ++ replicate 1 13 ++ codes "\n"

-- Version 1 has no such word.
abbrev pub version_one_has_no_why : List ℕ
version_one_has_no_why = codes "native n0 0\nwhy #1\nwhy @1\nversion 2\nwhy #1\n"

-- It does not ask for version 2, and makes the script one of version 1 as any other line that is not in its grammar.
abbrev pub why_before_version_two : List ℕ
why_before_version_two = codes "why #1\nversion 2\nnative n256 0\n"

-- It takes no unit of a collection that runs, and tells what the registers reach at that moment: of a cycle that they let go, nothing.
abbrev pub why_between_slices : List ℕ
why_between_slices = codes "version 2\nnative n0 1\nnative n1 1\nset n0 0 n1\nset n1 0 n0\ndrop n1\nwhy #2\nslice 1\nwhy #2\ndrop n0\nwhy #2\nwhy #1\ncollect\ndrop n0\nnative n2 1\nnative n3 1\nset n2 0 n3\nset n3 0 n2\ndrop n2\ndrop n3\nwhy #3\nslice 1\nwhy #3\nslice 1\nwhy #4\nslice 1\nwhy #3\nslice 1\nwhy #3\nwhy #4\n"

-- A native that a running collection has as a candidate follows from nothing when it is freed, and one that is made in its place from its own register.
abbrev pub why_of_a_freed_candidate : List ℕ
why_of_a_freed_candidate = codes "version 2\nnative n0 0\ncopy n1 n0\ndrop n1\nslice 1\nwhy #1\ndrop n0\nwhy #1\nnative n5 1\nnative n6 0\nset n5 0 n6\ndrop n6\nwhy #1\nwhy #2\nwhy #3\nslice 1\nwhy #3\nslice 1\nwhy #1\nwhy #3\n"

-- A native that was unlinked, and that a reflector which nothing holds keeps, follows from nothing.
abbrev pub unlinked_native_follows_from_nothing : List ℕ
unlinked_native_follows_from_nothing = codes "version 2\nnative n0 1\nwrap s0 n0\nset n0 0 s0\ndrop s0\ndrop n0\ngc\ncollect\nwhy #1\nwhy ~1\ngc\nwhy #1\n"

-- A gray reflector to which a path goes stays gray, so the next collection takes its cycle.
abbrev pub why_exposes_nothing : List ℕ
why_exposes_nothing = codes "version 2\nnative n0 1\nwrap s0 n0\nset n0 0 s0\ndrop s0\ngc\nwhy ~1\ndrop n0\ncollect\ngc\ncensus\n"

-- A native to which a path goes stays suspected where it was and becomes suspected nowhere else: the collection has one node and takes three units.
abbrev pub why_touches_nothing : List ℕ
why_touches_nothing = codes "version 2\nnative n0 1\nset n0 0 n0\nnative n1 1\nnative n2 0\nset n1 0 n2\ndrop n2\ncollect\ncopy n3 n0\ndrop n3\ndrop n0\nwhy #1\nwhy #2\nwhy #3\nslice 2\nwhy #3\nslice 1\n"

-- Registers, slots and the listed names are after it what they were before.
abbrev pub why_changes_no_register_and_no_census : List ℕ
why_changes_no_register_and_no_census = codes "version 2\nnative n0 1\nwrap s0 n0\nscript s1 0\nput s0 0 s1\nset n0 0 s0\ncensus\nwhy @1\ncensus\nget s2 n0 0\ntake s3 s2 0\nwhy @1\n"

-- It is answered between gc, collect and gc and behind them, and a census then lists what is there.
abbrev pub why_in_a_row_of_collections : List ℕ
why_in_a_row_of_collections = codes "version 2\nnative n0 1\nscript s0 0\nset n0 0 s0\ndrop s0\nnative n1 1\nset n1 0 n1\ndrop n1\ngc\nwhy @1\ncollect\nwhy #2\ngc\nwhy @1\ncensus\n"

-- Where memory is refused no step is told, and the next one tells them all.
abbrev pub refused_why_tells_nothing : List ℕ
refused_why_tells_nothing = codes "version 2\nnative n0 1\nnative n1 0\nset n0 0 n1\ndrop n1\nwhy #2\nwhy #2\n"

-- A name that follows from nothing takes memory as any other, once, and a line that is not in the grammar takes none.
abbrev pub why_takes_memory_for_each_name : List ℕ
why_takes_memory_for_each_name = codes "version 2\nnative n0 0\nwhy #9\nwhy #0\nwhy #1\nwhy @1\nwhy @1\nnative n1 0\n"

-- A collection that runs is not abandoned where memory is refused, and ends after as many units as it would have taken.
abbrev pub refused_why_leaves_the_collection : List ℕ
refused_why_leaves_the_collection = codes "version 2\nnative n0 1\nset n0 0 n0\ndrop n0\nslice 1\nwhy #1\nslice 1\nwhy #1\nslice 1\nwhy #1\n"

-- It is not answered where its line feed is one byte more than may be read.
abbrev pub why_of_one_byte_too_many : List ℕ
why_of_one_byte_too_many = codes "version 2\nnative n0 0\nwhy #1\nwhy #1\n"

-- It is answered in a last line that no line feed ends.
abbrev pub why_without_a_line_feed : List ℕ
why_without_a_line_feed = codes "version 2\nnative n0 0\nwhy #1"

-- A suspect that a register reaches is no candidate once suspects are forgotten, so the collection takes three units.
abbrev pub forgotten_suspect_is_no_candidate : List ℕ
forgotten_suspect_is_no_candidate = codes "version 2\nnative n0 0\ncopy n1 n0\ndrop n1\nnative n2 1\nset n2 0 n2\ndrop n2\nforget\nslice 3\n"

-- Without forget the same collection takes four units.
abbrev pub suspect_that_is_not_forgotten_is_a_candidate : List ℕ
suspect_that_is_not_forgotten_is_a_candidate = codes "version 2\nnative n0 0\ncopy n1 n0\ndrop n1\nnative n2 1\nset n2 0 n2\ndrop n2\nslice 3\nslice 1\n"

-- A native that a register reaches over its reflector alone is no candidate once suspects are forgotten, and goes with the reflector.
abbrev pub suspect_behind_a_reflector_is_forgotten : List ℕ
suspect_behind_a_reflector_is_forgotten = codes "version 2\nnative n0 0\nwrap s0 n0\ndrop n0\nforget\nslice 2\ndrop s0\ngc\ncensus\n"

-- Slots of natives and script objects, preserved reflectors, delegates and the natives of reflectors lead to what is forgotten: one of five suspects is left.
abbrev pub suspects_are_forgotten_over_every_edge : List ℕ
suspects_are_forgotten_over_every_edge = codes "version 2\nnative n0 1\nnative n1 1\nnative n2 0\nnative n3 0\nwrap s1 n0\nwrap s3 n3\nscript s4 1\nput s4 0 s3\nset n0 0 n1\nset n1 0 s4\nwrap s2 n1\nwrap s5 n2\nput s2 0 s5\nproxy s0 s1\ndrop s1\ndrop s2\ndrop s3\ndrop s4\ndrop s5\ndrop n0\ndrop n1\ndrop n2\ndrop n3\nnative n4 1\nset n4 0 n4\ndrop n4\nforget\nslice 3\n"

-- A suspect that is reached as the value of an entry alone keeps its mark, so the collection takes four units.
abbrev pub suspects_are_not_forgotten_over_entries : List ℕ
suspects_are_not_forgotten_over_entries = codes "version 2\nnative n0 0\nwrap s2 n0\nweakmap s0\nscript s1 0\nwset s0 s1 s2\ndrop s2\ndrop n0\nnative n1 1\nset n1 0 n1\ndrop n1\nforget\nslice 3\nslice 1\n"

-- A suspect whose reflector is black still, though no register reaches it, keeps its mark, so the collection takes four units.
abbrev pub suspect_of_a_black_reflector_is_not_forgotten : List ℕ
suspect_of_a_black_reflector_is_not_forgotten = codes "version 2\nnative n2 2\nwrap s1 n2\ndrop s1\ndrop n2\nnative n1 1\nset n1 0 n1\ndrop n1\nforget\nslice 3\nslice 1\n"

-- A cycle through a black reflector is found by the next collection after gc.
abbrev pub unreached_cycle_is_not_forgotten : List ℕ
unreached_cycle_is_not_forgotten = codes "version 2\nnative n2 1\nwrap s1 n2\nset n2 0 s1\ndrop s1\ndrop n2\nforget\ngc\ncollect\ncensus\ngc\n"

-- A native whose mark is taken in mid-collection stays in the buffer: what was counted at two moments looks like garbage, and is kept.
abbrev pub forgotten_suspect_is_still_touched : List ℕ
forgotten_suspect_is_still_touched = codes "version 2\nnative n1 1\nnative n0 1\nset n1 0 n0\nset n0 0 n1\ndrop n1\nslice 2\nget n1 n0 0\ncopy n2 n1\ndrop n2\ndrop n0\nforget\nslice 9\ncensus\ndrop n1\ncollect\ncensus\n"

-- A collection that runs keeps its candidates, and ends after as many units.
abbrev pub forget_leaves_a_running_collection : List ℕ
forget_leaves_a_running_collection = codes "version 2\nnative n0 1\nset n0 0 n0\nnative n1 0\ncopy n2 n1\ndrop n2\ndrop n0\nslice 1\nforget\nslice 2\nforget\nslice 1\n"

-- A native whose mark was taken is a candidate once a reference to it is given up again.
abbrev pub suspected_again_after_forget : List ℕ
suspected_again_after_forget = codes "version 2\nnative n0 1\nset n0 0 n0\ncopy n1 n0\ndrop n1\nforget\ndrop n0\ncollect\n"

-- A second forget finds nothing more, and neither changes what is there.
abbrev pub forgotten_twice : List ℕ
forgotten_twice = codes "version 2\nnative n0 0\ncopy n1 n0\ndrop n1\nnative n2 1\nset n2 0 n2\ndrop n2\nforget\nforget\ncensus\nslice 3\nforget\ncensus\n"

-- It is answered where there is nothing, before a collection and behind it.
abbrev pub forgotten_with_no_suspects : List ℕ
forgotten_with_no_suspects = codes "version 2\nforget\nforget\ncollect\nforget\ngc\nforget\nslice 2\nforget\ncensus\n"

-- The word stands alone, in small letters, with spaces around it at most.
abbrev pub refused_forms_of_forget : List ℕ
refused_forms_of_forget = codes "version 2\nforget 1\nforget n0\nforget none\nforget forget\nForget\nforgets\nforge\n  forget  \nforget % all\nforget\n"

-- Version 1 has no such word, and neither has the first line.
abbrev pub forget_is_a_word_of_version_2 : List ℕ
forget_is_a_word_of_version_2 = codes "forget\nversion 2\nnative n0 0\nforget\ndrop n0\n"

-- It is no wish for memory: the second one is that of the second native.
abbrev pub forget_takes_no_memory : List ℕ
forget_takes_no_memory = codes "version 2\nnative n0 1\nforget\nnative n1 0\nnative n1 0\nforget\n"

-- What only a weak register names comes back whole before a collection and while one runs, and is gone once it was unlinked.
abbrev pub weak_register_brings_a_native_back : List ℕ
weak_register_brings_a_native_back = codes "version 2\nnative n0 1\nset n0 0 n0\nweak w0 n0\ndrop n0\nderef n1 w0\ndrop n1\nslice 1\nderef n1 w0\nslice 9\ndrop n1\ncollect\nderef n1 w0\n"

-- An unlinked native that its dead reflector still holds is given no more, though it is not freed.
abbrev pub unlinked_native_is_not_given : List ℕ
unlinked_native_is_not_given = codes "version 2\nnative n0 1\nwrap s0 n0\nset n0 0 s0\nweak w0 n0\ndrop s0\ndrop n0\ngc\ncollect\nderef n0 w0\ncensus\ngc\nderef n0 w0\n"

-- A native that comes back between the last node and the end of the collection is kept, and goes with the next collection.
abbrev pub brought_back_before_the_last_unit : List ℕ
brought_back_before_the_last_unit = codes "version 2\nnative n0 1\nset n0 0 n0\nweak w0 n0\ndrop n0\nslice 1\nslice 1\nderef n1 w0\ndrop n1\nslice 9\ncensus\ncollect\ncensus\n"

-- A weak register that is read before the end's unit gives the native, and behind it nothing.
abbrev pub asked_right_before_and_behind_the_end : List ℕ
asked_right_before_and_behind_the_end = codes "version 2\nnative n0 1\nset n0 0 n0\nweak w0 n0\nnative n1 1\nset n1 0 n1\nweak w1 n1\ndrop n0\ndrop n1\nslice 3\nderef n2 w0\nslice 1\nderef n3 w1\nderef n4 w0\ncensus\n"

-- With the native comes all that it leads to: a neighbour, its reflector and the value of an entry.
abbrev pub brings_back_all_that_it_leads_to : List ℕ
brings_back_all_that_it_leads_to = codes "version 2\nnative n0 2\nnative n1 1\nset n0 0 n1\nset n1 0 n0\nwrap s0 n1\nweakmap s1\nscript s2 0\nwset s1 s0 s2\nset n0 1 s1\nweak w3 n0\ndrop s0\ndrop s1\ndrop s2\ndrop n0\ndrop n1\nslice 1\nderef n5 w3\nslice 99\ngc\nget n6 n5 0\nwrap s0 n6\nget s1 n5 1\nwget s2 s1 s0\ncensus\n"

-- A native that a weak register brings back for a moment is kept by the collection that runs, and told by the next.
abbrev pub brought_back_and_let_go : List ℕ
brought_back_and_let_go = codes "version 2\nnative n0 1\nset n0 0 n0\nweak w0 n0\nnative n1 1\nset n1 0 n1\ndrop n0\ndrop n1\nslice 1\nderef n0 w0\ndrop n0\nslice 99\ncollect\n"

-- The next native in the place of a freed one is not taken for the one that was noted.
abbrev pub key_of_a_freed_native_is_not_the_noted_one : List ℕ
key_of_a_freed_native_is_not_the_noted_one = codes "version 2\nnative n0 0\nweak w0 n0\ndrop n0\nnative n1 0\nderef n2 w0\nnative n3 0\nweak w0 n3\nderef n2 w0\n"

-- A native of no slots that was unlinked has nothing to lose but its reflector, and is given no more.
abbrev pub native_without_slots_is_not_given_once_unlinked : List ℕ
native_without_slots_is_not_given_once_unlinked = codes "version 2\nnative n0 0\nwrap s0 n0\nscript s1 0\nput s0 0 s1\nput s0 1 s0\nweak w0 n0\ndrop s0\ndrop s1\ndrop n0\ngc\ncollect\nderef n0 w0\ncensus\ngc\n"

-- What only a weak register names is freed when its last reference goes, and the register then gives nothing.
abbrev pub weak_register_is_no_root : List ℕ
weak_register_is_no_root = codes "version 2\nnative n0 1\nscript s0 0\nset n0 0 s0\nweak w0 n0\ndrop s0\ndrop n0\ngc\nderef n1 w0\ncensus\n"

-- No path begins at a weak register: there is one again once the native was brought back.
abbrev pub why_of_what_a_weak_register_names : List ℕ
why_of_what_a_weak_register_names = codes "version 2\nnative n0 1\nset n0 0 n0\nweak w0 n0\nwhy #1\ndrop n0\nwhy #1\nderef n3 w0\nwhy #1\n"

-- Nothing is noted for an empty register, and what was noted stays.
abbrev pub weak_of_an_empty_register : List ℕ
weak_of_an_empty_register = codes "version 2\nweak w0 n0\nderef n1 w0\nnative n2 0\nweak w0 n2\nweak w0 n0\nderef n1 w0\n"

-- Where nothing is noted the register is emptied, and what it held is freed.
abbrev pub deref_of_nothing_empties_its_register : List ℕ
deref_of_nothing_empties_its_register = codes "version 2\nnative n0 0\nderef n0 w7\nnative n0 0\nweak w7 n0\nderef n0 w7\ncensus\n"

-- A weak register that is emptied gives nothing more, and the native stays as it was.
abbrev pub dropped_weak_register_gives_up_no_reference : List ℕ
dropped_weak_register_gives_up_no_reference = codes "version 2\nnative n0 0\nweak w0 n0\nweak w1 n0\ndrop w0\ndrop w0\nderef n1 w0\nderef n1 w1\ndrop n1\ncensus\ncollect\ncensus\n"

-- A weak register notes the native of its last weak alone.
abbrev pub weak_register_is_noted_again : List ℕ
weak_register_is_noted_again = codes "version 2\nnative n0 0\nnative n1 0\nweak w0 n0\nweak w0 n1\nderef n2 w0\nweak w0 n0\nderef n2 w0\ndrop n0\ndrop n2\nderef n2 w0\n"

-- W0 and w255 are weak registers, and w256 is none.
abbrev pub all_weak_registers : List ℕ
all_weak_registers = codes "version 2\nnative n0 0\nweak w255 n0\nweak w256 n0\nderef n1 w255\nderef n1 w256\ndrop w256\ndrop w255\nderef n1 w255\nweak w00 n0\nweak w0 n1023\nderef n1023 w0\nweak w0 n1024\nweak w-1 n0\n"

-- All 256 weak registers note one native, keep it no more than one does, and give it till it has ended.
abbrev pub every_weak_register_notes_one_native : List ℕ
every_weak_register_notes_one_native = codes "version 2\nnative n0 1\nset n0 0 n0\nweak w0 n0\nweak w1 n0\nweak w2 n0\nweak w3 n0\nweak w4 n0\nweak w5 n0\nweak w6 n0\nweak w7 n0\nweak w8 n0\nweak w9 n0\nweak w10 n0\nweak w11 n0\nweak w12 n0\nweak w13 n0\nweak w14 n0\nweak w15 n0\nweak w16 n0\nweak w17 n0\nweak w18 n0\nweak w19 n0\nweak w20 n0\nweak w21 n0\nweak w22 n0\nweak w23 n0\nweak w24 n0\nweak w25 n0\nweak w26 n0\nweak w27 n0\nweak w28 n0\nweak w29 n0\nweak w30 n0\nweak w31 n0\nweak w32 n0\nweak w33 n0\nweak w34 n0\nweak w35 n0\nweak w36 n0\nweak w37 n0\nweak w38 n0\nweak w39 n0\nweak w40 n0\nweak w41 n0\nweak w42 n0\nweak w43 n0\nweak w44 n0\nweak w45 n0\nweak w46 n0\nweak w47 n0\nweak w48 n0\nweak w49 n0\nweak w50 n0\nweak w51 n0\nweak w52 n0\nweak w53 n0\nweak w54 n0\nweak w55 n0\nweak w56 n0\nweak w57 n0\nweak w58 n0\nweak w59 n0\nweak w60 n0\nweak w61 n0\nweak w62 n0\nweak w63 n0\nweak w64 n0\nweak w65 n0\nweak w66 n0\nweak w67 n0\nweak w68 n0\nweak w69 n0\nweak w70 n0\nweak w71 n0\nweak w72 n0\nweak w73 n0\nweak w74 n0\nweak w75 n0\nweak w76 n0\nweak w77 n0\nweak w78 n0\nweak w79 n0\nweak w80 n0\nweak w81 n0\nweak w82 n0\nweak w83 n0\nweak w84 n0\nweak w85 n0\nweak w86 n0\nweak w87 n0\nweak w88 n0\nweak w89 n0\nweak w90 n0\nweak w91 n0\nweak w92 n0\nweak w93 n0\nweak w94 n0\nweak w95 n0\nweak w96 n0\nweak w97 n0\nweak w98 n0\nweak w99 n0\nweak w100 n0\nweak w101 n0\nweak w102 n0\nweak w103 n0\nweak w104 n0\nweak w105 n0\nweak w106 n0\nweak w107 n0\nweak w108 n0\nweak w109 n0\nweak w110 n0\nweak w111 n0\nweak w112 n0\nweak w113 n0\nweak w114 n0\nweak w115 n0\nweak w116 n0\nweak w117 n0\nweak w118 n0\nweak w119 n0\nweak w120 n0\nweak w121 n0\nweak w122 n0\nweak w123 n0\nweak w124 n0\nweak w125 n0\nweak w126 n0\nweak w127 n0\nweak w128 n0\nweak w129 n0\nweak w130 n0\nweak w131 n0\nweak w132 n0\nweak w133 n0\nweak w134 n0\nweak w135 n0\nweak w136 n0\nweak w137 n0\nweak w138 n0\nweak w139 n0\nweak w140 n0\nweak w141 n0\nweak w142 n0\nweak w143 n0\nweak w144 n0\nweak w145 n0\nweak w146 n0\nweak w147 n0\nweak w148 n0\nweak w149 n0\nweak w150 n0\nweak w151 n0\nweak w152 n0\nweak w153 n0\nweak w154 n0\nweak w155 n0\nweak w156 n0\nweak w157 n0\nweak w158 n0\nweak w159 n0\nweak w160 n0\nweak w161 n0\nweak w162 n0\nweak w163 n0\nweak w164 n0\nweak w165 n0\nweak w166 n0\nweak w167 n0\nweak w168 n0\nweak w169 n0\nweak w170 n0\nweak w171 n0\nweak w172 n0\nweak w173 n0\nweak w174 n0\nweak w175 n0\nweak w176 n0\nweak w177 n0\nweak w178 n0\nweak w179 n0\nweak w180 n0\nweak w181 n0\nweak w182 n0\nweak w183 n0\nweak w184 n0\nweak w185 n0\nweak w186 n0\nweak w187 n0\nweak w188 n0\nweak w189 n0\nweak w190 n0\nweak w191 n0\nweak w192 n0\nweak w193 n0\nweak w194 n0\nweak w195 n0\nweak w196 n0\nweak w197 n0\nweak w198 n0\nweak w199 n0\nweak w200 n0\nweak w201 n0\nweak w202 n0\nweak w203 n0\nweak w204 n0\nweak w205 n0\nweak w206 n0\nweak w207 n0\nweak w208 n0\nweak w209 n0\nweak w210 n0\nweak w211 n0\nweak w212 n0\nweak w213 n0\nweak w214 n0\nweak w215 n0\nweak w216 n0\nweak w217 n0\nweak w218 n0\nweak w219 n0\nweak w220 n0\nweak w221 n0\nweak w222 n0\nweak w223 n0\nweak w224 n0\nweak w225 n0\nweak w226 n0\nweak w227 n0\nweak w228 n0\nweak w229 n0\nweak w230 n0\nweak w231 n0\nweak w232 n0\nweak w233 n0\nweak w234 n0\nweak w235 n0\nweak w236 n0\nweak w237 n0\nweak w238 n0\nweak w239 n0\nweak w240 n0\nweak w241 n0\nweak w242 n0\nweak w243 n0\nweak w244 n0\nweak w245 n0\nweak w246 n0\nweak w247 n0\nweak w248 n0\nweak w249 n0\nweak w250 n0\nweak w251 n0\nweak w252 n0\nweak w253 n0\nweak w254 n0\nweak w255 n0\ndrop n0\nderef n1 w0\nderef n2 w255\nderef n1 w128\ndrop n1\ndrop n2\ncollect\nderef n1 w0\nderef n1 w255\n"

-- The map of an entry and its key are brought back one after the other, so the value is kept though it was reached at no moment.
abbrev pub map_and_key_come_back_at_different_moments : List ℕ
map_and_key_come_back_at_different_moments = codes "version 2\nnative n0 2\nset n0 1 n0\nweakmap s0\nset n0 0 s0\nweak w0 n0\nnative n1 2\nset n1 1 n1\nscript s1 0\nset n1 0 s1\nweak w1 n1\nnative n2 1\nset n2 0 n2\nwrap s3 n2\nscript s2 1\nput s2 0 s3\nwset s0 s1 s2\ndrop n0\ndrop n1\ndrop n2\ndrop s0\ndrop s1\ndrop s2\ndrop s3\ngc\nslice 1\nderef n0 w0\ndrop n0\nderef n1 w1\ndrop n1\nslice 99\ncollect\ncensus\n"

-- A script object that a gray native holds is exposed when it is read from the native that was brought back.
abbrev pub gray_script_object_of_a_native_brought_back : List ℕ
gray_script_object_of_a_native_brought_back = codes "version 2\nnative n0 2\nset n0 0 n0\nscript s0 1\nput s0 0 s0\nset n0 1 s0\nweak w0 n0\ndrop s0\ndrop n0\ngc\nslice 1\nderef n0 w0\nget s1 n0 1\ndrop n0\nslice 99\ncollect\ncensus\n"

-- A native whose mark was taken is a suspect again once what a weak register brought back is let go.
abbrev pub forgotten_suspect_is_brought_back : List ℕ
forgotten_suspect_is_brought_back = codes "version 2\nnative n0 1\nset n0 0 n0\nweak w0 n0\ncopy n1 n0\ndrop n1\nforget\ndrop n0\nslice 1\nderef n0 w0\nforget\ndrop n0\nslice 9\ncollect\nderef n0 w0\n"

-- Weak and deref take a weak and a native register in their own order, and no other word but drop names a weak register.
abbrev pub refused_forms_of_weak_registers : List ℕ
refused_forms_of_weak_registers = codes "version 2\nnative n0 1\nscript s0 1\nweak n0 w0\nweak w0 s0\nweak w0\nweak w0 none\nweak w0 n0 n0\nderef w0 n0\nderef s0 w0\nderef n0\nderef n0 none\ncopy w1 w0\ncopy n0 w0\nset n0 0 w0\nwrap s0 w0\nget w0 n0 0\nunwrap w0 s0\nwhy w0\nWeak w0 n0\nderefs n0 w0\ndrop w\ndrop W0\n  weak   w0   n0  \n% weak\nderef n1 w0\n"

-- Version 1 has neither word, and no weak register to drop.
abbrev pub weak_registers_are_words_of_version_2 : List ℕ
weak_registers_are_words_of_version_2 = codes "weak w0 n0\nderef n0 w0\ndrop w0\nnative n0 0\nweak w0 n0\ndrop n0\n"

-- Neither word is a wish for memory: the second one is that of the second native.
abbrev pub weak_registers_take_no_memory : List ℕ
weak_registers_take_no_memory = codes "version 2\nnative n0 1\nweak w0 n0\nderef n1 w0\nnative n2 0\nnative n2 0\nderef n3 w0\n"

-- A collection that is refused its memory at its begin ends no native, and a weak register gives what it gave.
abbrev pub brought_back_while_a_begin_is_refused : List ℕ
brought_back_while_a_begin_is_refused = codes "version 2\nnative n0 1\nset n0 0 n0\nweak w0 n0\ndrop n0\ncollect\nderef n1 w0\ndrop n1\ncollect\nderef n1 w0\n"

-- What is read from a slot while a marking goes on, and taken out of it, is kept; what nothing holds is freed.
abbrev pub object_read_between_units_is_kept : List ℕ
object_read_between_units_is_kept = codes "version 2\nscript s0 1\nscript s1 0\nput s0 0 s1\ndrop s1\nscript s2 0\ndrop s2\nmark 1\ntake s1 s0 0\nput s0 0 none\nmark 9\n"

-- A slice ends the marking that goes on, outside its units, and frees what has no mark.
abbrev pub slice_ends_a_marking_first : List ℕ
slice_ends_a_marking_first = codes "version 2\nscript s0 0\ndrop s0\nmark 1\nslice 1\n"

-- Two units, that of the beginning and that of the end, are a whole marking where there is nothing to scan.
abbrev pub marking_of_nothing : List ℕ
marking_of_nothing = codes "version 2\nmark 1\nmark 1\nscript s0 0\ndrop s0\nmark 1\nmark 1\nmark 2\nmark 1000000\ncensus\n"

-- A marking has a unit for its beginning, one for each object that is scanned, and one for its end.
abbrev pub units_of_a_marking : List ℕ
units_of_a_marking = codes "version 2\nscript s0 1\nscript s1 1\nscript s2 0\nput s0 0 s1\ndrop s1\ndrop s2\nmark 3\ncensus\nmark 1\ncensus\n"

-- Units that are left when a marking ends begin no second one.
abbrev pub no_second_marking_begins : List ℕ
no_second_marking_begins = codes "version 2\nscript s0 0\ndrop s0\nmark 9\nscript s0 0\ndrop s0\nmark 1\nscript s1 0\ndrop s1\nmark 1\nmark 2\n"

-- A script object that is made while a marking goes on outlives it, and is freed by the next one.
abbrev pub object_made_during_a_marking_stays : List ℕ
object_made_during_a_marking_stays = codes "version 2\nmark 1\nscript s0 1\nput s0 0 s0\ndrop s0\nweakmap s0\nproxy s1 s0\ndrop s1\ndrop s0\nmark 9\ncensus\nmark 9\n"

-- A script object that is stored, read and taken out of its slots between units is held by registers at each of them, and kept.
abbrev pub held_by_registers_alone : List ℕ
held_by_registers_alone = codes "version 2\nscript s0 1\nscript s1 1\nscript s2 0\nput s0 0 s2\ndrop s2\nmark 1\ntake s3 s0 0\nput s0 0 none\nmark 1\nput s1 0 s3\ndrop s3\nmark 1\ntake s2 s1 0\nput s1 0 none\nmark 1\ncensus\ndrop s2\nmark 9\n"

-- The tail of a chain is stored in an object that was scanned, and is kept with all that it holds.
abbrev pub tail_moves_in_front_of_the_scan : List ℕ
tail_moves_in_front_of_the_scan = codes "version 2\nscript s0 2\nscript s1 1\nscript s2 1\nscript s3 1\nscript s4 0\nput s3 0 s4\nput s2 0 s3\nput s1 0 s2\nput s0 0 s1\ndrop s1\ndrop s2\ndrop s3\ndrop s4\nmark 2\ntake s1 s0 0\ntake s2 s1 0\ntake s3 s2 0\nput s2 0 none\nput s0 1 s3\ndrop s1\ndrop s2\ndrop s3\nmark 9\ncensus\nput s0 0 none\nmark 9\n"

-- What the first object of the black list holds is scanned last: with two units it is not marked yet.
abbrev pub black_list_is_scanned_in_order : List ℕ
black_list_is_scanned_in_order = codes "version 2\nscript s0 1\nscript s1 1\nscript s2 0\nput s1 0 s2\ndrop s2\nmark 2\nput s1 0 none\nmark 9\n"

-- With a third unit the second object was scanned, and what its slot held stays though it is taken out.
abbrev pub scanned_before_its_slot_is_emptied : List ℕ
scanned_before_its_slot_is_emptied = codes "version 2\nscript s0 1\nscript s1 1\nscript s2 0\nput s1 0 s2\ndrop s2\nmark 3\nput s1 0 none\nmark 9\nmark 9\n"

-- A black object is scanned before gray ones: with two units what it held is marked, and stays though it is taken out.
abbrev pub gray_objects_are_scanned_last : List ℕ
gray_objects_are_scanned_last = codes "version 2\nnative n0 1\nscript s0 0\nset n0 0 s0\ndrop s0\nscript s1 1\nscript s2 0\nput s1 0 s2\ndrop s2\nmark 2\nput s1 0 none\nmark 9\nmark 9\n"

-- What is black by the old mark and gray by the new one is exposed with all that it holds, so a slot that is emptied afterwards frees nothing.
abbrev pub gray_by_the_new_mark_is_exposed : List ℕ
gray_by_the_new_mark_is_exposed = codes "version 2\nnative n0 1\nscript s0 1\nscript s1 0\nput s0 0 s1\nset n0 0 s0\ndrop s0\ndrop s1\nmark 1\nget s0 n0 0\ntake s1 s0 0\nput s0 0 none\nset n0 0 none\nmark 9\ncensus\n"

-- An exposed object leaves the gray list, and goes on no other: one unit more ends the marking.
abbrev pub exposed_object_is_not_scanned : List ℕ
exposed_object_is_not_scanned = codes "version 2\nnative n0 1\nscript s0 1\nscript s1 0\nput s0 0 s1\nset n0 0 s0\ndrop s0\ndrop s1\nscript s2 0\ndrop s2\nmark 1\nget s0 n0 0\nmark 1\n"

-- What is gray by the old mark and by the new one is exposed by both: it is kept, and then freed.
abbrev pub gray_by_both_marks_is_exposed : List ℕ
gray_by_both_marks_is_exposed = codes "version 2\nnative n0 1\nscript s0 1\nscript s1 0\nput s0 0 s1\nset n0 0 s0\ndrop s0\ndrop s1\ngc\nmark 1\nget s0 n0 0\nset n0 0 none\ndrop s0\nmark 9\ncensus\nmark 9\n"

-- The value of an entry is exposed where it is read, and what it holds with it, though it is black by the old mark and has no new one.
abbrev pub value_without_a_mark_is_exposed : List ℕ
value_without_a_mark_is_exposed = codes "version 2\nweakmap s0\nscript s1 0\nscript s2 1\nscript s3 0\nput s2 0 s3\nwset s0 s1 s2\ndrop s2\ndrop s3\nmark 1\nwget s2 s0 s1\ntake s3 s2 0\nput s2 0 none\nwset s0 s1 none\ndrop s2\nmark 9\ncensus\nmark 9\n"

-- What the word exposes is kept by the marking, though its native lets it go.
abbrev pub expose_exposes_into_new_marks : List ℕ
expose_exposes_into_new_marks = codes "version 2\nnative n0 1\nscript s0 1\nscript s1 0\nput s0 0 s1\nset n0 0 s0\ndrop s0\ndrop s1\nmark 1\nexpose n0 0\nset n0 0 none\nmark 9\ncensus\nmark 9\n"

-- A script object that is moved from slot to slot between units is kept by the marking with what it holds, and freed by the next one.
abbrev pub move_exposes_into_new_marks : List ℕ
move_exposes_into_new_marks = codes "version 2\nnative n0 1\nscript s0 1\nscript s1 0\nput s0 0 s1\nset n0 0 s0\ndrop s0\ndrop s1\nmark 1\nnative n1 1\nmove n1 0 n0 0\nset n1 0 none\nmark 9\ncensus\nmark 9\n"

-- The value of an entry is kept where it was read while a marking went on, though the entry was replaced and taken out.
abbrev pub entry_gives_into_new_marks : List ℕ
entry_gives_into_new_marks = codes "version 2\nweakmap s0\nscript s1 0\nscript s2 0\nwset s0 s1 s2\ndrop s2\nscript s3 0\nmark 2\nwget s4 s0 s1\nwset s0 s1 s3\ndrop s3\nmark 1\nwget s5 s0 s1\nwset s0 s1 none\nmark 9\ncensus\ndrop s4\ndrop s5\nmark 9\n"

-- What an entry gave and nobody read goes where the entry is replaced, and the key keeps the new value alone.
abbrev pub entry_is_replaced_between_units : List ℕ
entry_is_replaced_between_units = codes "version 2\nweakmap s0\nscript s1 0\nscript s2 0\nscript s3 0\nwset s0 s1 s2\ndrop s2\nmark 1\nwset s0 s1 s3\ndrop s3\nmark 9\ncensus\ndrop s1\nmark 9\n"

-- Values are marked at the end of a marking, one after the other along a chain of entries, and the entries of a dead map give none.
abbrev pub entries_are_marked_at_the_end : List ℕ
entries_are_marked_at_the_end = codes "version 2\nweakmap s0\nscript s1 0\nscript s2 1\nscript s3 0\nscript s4 0\nwset s0 s1 s2\nput s2 0 s3\nwset s0 s3 s4\nweakmap s5\nscript s6 0\nwset s5 s1 s6\ndrop s2\ndrop s3\ndrop s4\ndrop s5\ndrop s6\nmark 9\ncensus\ndrop s1\nmark 9\n"

-- The delegate of a proxy is marked where the proxy is scanned, though no register holds it.
abbrev pub delegate_is_scanned : List ℕ
delegate_is_scanned = codes "version 2\nweakmap s2\nproxy s1 s2\ncopy s2 s3\nmark 1\nmark 1\nmark 9\ncensus\n"

-- A proxy that is a key stays with its map and its delegate, and the value with it.
abbrev pub proxy_key_stays_at_the_end : List ℕ
proxy_key_stays_at_the_end = codes "version 2\nweakmap s0\nscript s3 1\nproxy s1 s3\nscript s2 2\nwset s0 s1 s2\ndrop s1\nmark 3\nmark 3\ndrop s2\ndrop s3\nmark 9\ncensus\n"

-- A reflector that was swept is made anew while a marking goes on, and outlives that.
abbrev pub reflector_is_wrapped_again : List ℕ
reflector_is_wrapped_again = codes "version 2\nnative n0 0\nwrap s0 n0\ndrop s0\nmark 9\nmark 1\nwrap s1 n0\ndrop s1\nmark 9\ncensus\nmark 9\n"

-- The reflector that is there is given by wrap, and exposed, though nothing had marked it.
abbrev pub reflector_without_a_mark_is_wrapped : List ℕ
reflector_without_a_mark_is_wrapped = codes "version 2\nnative n0 0\nwrap s0 n0\ndrop s0\nmark 1\nwrap s1 n0\ndrop s1\nmark 9\ncensus\nmark 9\n"

-- A marking frees a reflector, and then the native that this alone held.
abbrev pub marked_reflector_gives_up_its_native : List ℕ
marked_reflector_gives_up_its_native = codes "version 2\nnative n0 0\nwrap s0 n0\nnative n1 1\nset n1 0 n0\ndrop n0\ndrop s0\nmark 9\nwrap s0 n0\nget n0 n1 0\nwrap s0 n0\ndrop n0\ndrop n1\ndrop s0\ncensus\nmark 9\ncensus\n"

-- A cycle through both heaps is found by a collection behind a marking, as by one behind gc, and by none before.
abbrev pub colours_of_a_marking_serve_a_collection : List ℕ
colours_of_a_marking_serve_a_collection = codes "version 2\nnative n0 1\nscript s0 1\nwrap s1 n0\nput s0 0 s1\nset n0 0 s0\ndrop n0\ndrop s0\ndrop s1\ncollect\ncensus\nmark 9\ncollect\ncensus\nmark 9\ncensus\n"

-- Gc drops the marking that goes on, frees what nothing holds, and the next unit begins anew.
abbrev pub gc_drops_a_marking : List ℕ
gc_drops_a_marking = codes "version 2\nscript s0 1\nscript s1 0\nput s0 0 s1\ndrop s1\nmark 2\nscript s2 0\ndrop s2\nput s0 0 none\ngc\nscript s3 0\ndrop s3\nmark 1\nmark 9\ncensus\n"

-- A collect ends the marking that goes on, which frees what has no mark, and then a collection is whole.
abbrev pub collect_ends_a_marking_first : List ℕ
collect_ends_a_marking_first = codes "version 2\nscript s0 1\nput s0 0 s0\ndrop s0\nnative n0 1\nset n0 0 n0\ndrop n0\nmark 1\ncollect\ncensus\n"

-- A slice of three units is a whole collection of a native that holds itself, whatever is left to scan.
abbrev pub marking_ends_outside_the_units_of_a_slice : List ℕ
marking_ends_outside_the_units_of_a_slice = codes "version 2\nnative n0 1\nset n0 0 n0\ndrop n0\nscript s0 1\nscript s1 1\nscript s2 0\nput s1 0 s2\nput s0 0 s1\ndrop s1\ndrop s2\nmark 1\nslice 2\nslice 1\n"

-- A mark ends the collection that runs before its units.
abbrev pub mark_ends_a_running_collection : List ℕ
mark_ends_a_running_collection = codes "version 2\nnative n0 1\nset n0 0 n0\ndrop n0\nscript s0 0\ndrop s0\nslice 1\nmark 1\nslice 1\ncensus\n"

-- A mark whose running collection is refused memory abandons it, and does its units all the same.
abbrev pub mark_with_a_refused_collection : List ℕ
mark_with_a_refused_collection = codes "version 2\nnative n0 1\nset n0 0 n0\nnative n1 1\nset n1 0 n1\ndrop n0\ndrop n1\nscript s0 0\ndrop s0\nslice 1\nmark 2\ncensus\nmark 2\ncensus\n"

-- Units of a marking are no wish for memory: the third one is that of the second native.
abbrev pub mark_takes_no_memory : List ℕ
mark_takes_no_memory = codes "version 2\nnative n0 0\nscript s0 0\ndrop s0\nmark 1\nnative n1 0\nmark 1\nnative n1 0\n"

-- A slice that is refused memory has ended the marking before, and what that freed stays freed.
abbrev pub slice_ends_a_marking_and_is_refused : List ℕ
slice_ends_a_marking_and_is_refused = codes "version 2\nnative n0 1\nset n0 0 n0\ndrop n0\nscript s0 0\ndrop s0\nmark 1\nslice 1\ncensus\nslice 9\n"

-- A collect that is refused memory has ended the marking before: a reflector and its native are freed, and a cycle stays.
abbrev pub collect_ends_a_marking_and_is_refused : List ℕ
collect_ends_a_marking_and_is_refused = codes "version 2\nnative n0 1\nset n0 0 n0\ndrop n0\nnative n1 0\nwrap s0 n1\ndrop n1\ndrop s0\nmark 2\ncollect\ncensus\ncollect\ncensus\n"

-- A script object that is read from a native that a weak register brought back is exposed, and kept.
abbrev pub marking_beside_weak_registers : List ℕ
marking_beside_weak_registers = codes "version 2\nnative n0 2\nset n0 0 n0\nscript s0 1\nscript s1 0\nput s0 0 s1\nset n0 1 s0\nweak w0 n0\ndrop n0\ndrop s0\ndrop s1\nmark 1\nderef n1 w0\nget s0 n1 1\nset n1 1 none\ndrop n1\nmark 9\ncollect\ncensus\ndrop s0\nmark 9\n"

-- A census, a path, a forget and what is refused leave a marking as it is.
abbrev pub marking_beside_why_and_forget : List ℕ
marking_beside_why_and_forget = codes "version 2\nnative n0 0\ncopy n1 n0\ndrop n1\nscript s0 1\nscript s1 0\nput s0 0 s1\ndrop s1\nscript s2 0\ndrop s2\nmark 2\ncensus\nwhy @2\nforget\nput s0 1 s0\nmark 0\n% mark 1\nmark 1\nmark 1\ncensus\n"

-- A marking that is dropped by the first gc of a row leaves nothing behind.
abbrev pub marking_before_a_quiet_census : List ℕ
marking_before_a_quiet_census = codes "version 2\nnative n0 1\nwrap s0 n0\nset n0 0 s0\nscript s1 1\nput s1 0 s0\ndrop s0\ndrop s1\ndrop n0\nmark 2\ngc\ncollect\ngc\ncensus\nmark 9\n"

-- The word takes a number of units from 1 to 1000000 without zeros in front, and nothing else.
abbrev pub refused_forms_of_mark : List ℕ
refused_forms_of_mark = codes "version 2\nmark\nmark 0\nmark 1000001\nmark 01\nmark n0\nmark s0\nmark none\nmark -1\nmark 1 1\nmark 1n\nmarks 1\nMark 1\nmar 1\nmark" ++ replicate 1 9 ++ codes "1\nmark 4294967297\nmark 1000000\n  mark   1  \nmark 1" ++ replicate 1 13 ++ codes "\nmark 1 % units\n"

-- Version 1 has no such word, and neither has the first line.
abbrev pub mark_is_a_word_of_version_2 : List ℕ
mark_is_a_word_of_version_2 = codes "mark 1\nversion 2\nscript s0 0\nmark 1\ndrop s0\nmark 9\ngc\n"

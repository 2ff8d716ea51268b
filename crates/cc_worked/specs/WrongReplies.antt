-- WRONG REPLIES: transcripts whose last answer has one fault in its reply or its form.
use Rattle.std.specs.Prelude.{[], ◌∷◌, ◌++◌, None, codes, replicate}
use Rattle.cc_names.specs.Names.{native, object, reflector}
use Rattle.cc_model.specs.declared.item.Refusal.TheVariants.{Long, Line, Empty, Kind, Full}
use Rattle.cc_model.specs.declared.item.Reply.TheVariants.{Done, Census, Refused, Nothing as nothing_there}
use Rattle.cc_model.specs.declared.item.Event.TheVariants.{Freed, Abandoned}
use Rattle.cc_model.specs.Answers.{no_answer, replying, listing}
use Rattle.cc_worked.specs.Transcripts.{Transcript, answered, only, made, lists, ok, done_after, refused, without_memory}

-- Answers

-- Each line is answered.
abbrev pub missing_answer : Transcript
missing_answer = answered (codes "drop n0\n") []

-- Nothing else is answered.
abbrev pub answer_to_nothing_asked : Transcript
answer_to_nothing_asked = answered [] (ok ∷ [])

-- The answer to a command has a reply.
abbrev pub no_reply : Transcript
no_reply = answered (codes "drop n0\n") (no_answer ∷ [])

-- Names are listed by a census alone.
abbrev pub names_listed_by_a_drop : Transcript
names_listed_by_a_drop = answered (codes "native n0 0\ndrop n0\n") (made (native 1) ∷ listing (native 1 ∷ []) Done ∷ [])

-- A long line is answered as one.
abbrev pub long_line_called_bad : Transcript
long_line_called_bad = answered (replicate 121 97 ++ 10 ∷ []) (refused Line ∷ [])

-- A line that is not in the grammar is answered as one.
abbrev pub bad_line_called_long : Transcript
bad_line_called_long = answered (codes "dorp n0\n") (refused Long ∷ [])

-- A long line does nothing.
abbrev pub event_under_a_long_line : Transcript
event_under_a_long_line = answered (replicate 121 97 ++ 10 ∷ []) (replying (Abandoned ∷ []) (Refused Long) ∷ [])

-- A line that is not in the grammar does nothing.
abbrev pub event_under_a_bad_line : Transcript
event_under_a_bad_line = answered (codes "dorp n0\n") (replying (Abandoned ∷ []) (Refused Line) ∷ [])

-- A line that asks nothing has no answer.
abbrev pub blank_line_is_answered : Transcript
blank_line_is_answered = answered (codes "\n") (ok ∷ [])

-- A comment has no answer.
abbrev pub comment_is_answered : Transcript
comment_is_answered = answered (codes "% drop n0\n") (ok ∷ [])

-- A line that asks nothing does nothing.
abbrev pub event_under_a_blank_line : Transcript
event_under_a_blank_line = answered (codes "\n") (only (Abandoned ∷ []) ∷ [])

-- Version 2 is asked for by a first line.
abbrev pub version_two_is_refused : Transcript
version_two_is_refused = answered (codes "version 2\n") (refused Line ∷ [])

-- It is asked for by no other line.
abbrev pub version_two_is_taken_twice : Transcript
version_two_is_taken_twice = answered (codes "version 2\nversion 2\n") (ok ∷ ok ∷ [])

-- A long line before it makes the script one of version 1.
abbrev pub version_two_is_taken_behind_a_long_line : Transcript
version_two_is_taken_behind_a_long_line = answered ((replicate 121 97 ++ 10 ∷ []) ++ codes "version 2\n") (refused Long ∷ ok ∷ [])

-- Version 1 has no units of a marking.
abbrev pub mark_is_taken_in_version_one : Transcript
mark_is_taken_in_version_one = answered (codes "mark 1\n") (ok ∷ [])

-- Version 2 has them.
abbrev pub mark_is_refused_in_version_two : Transcript
mark_is_refused_in_version_two = answered (codes "version 2\nmark 1\n") (ok ∷ refused Line ∷ [])

-- It has no marking of no units.
abbrev pub mark_of_no_units_is_taken : Transcript
mark_of_no_units_is_taken = answered (codes "version 2\nmark 0\n") (ok ∷ ok ∷ [])

-- Version 1 has no register 256.
abbrev pub wide_register_is_taken_in_version_one : Transcript
wide_register_is_taken_in_version_one = answered (codes "native n256 0\n") (made (native 1) ∷ [])

-- Version 2 has one.
abbrev pub wide_register_is_refused_in_version_two : Transcript
wide_register_is_refused_in_version_two = answered (codes "version 2\nnative n256 0\n") (ok ∷ refused Line ∷ [])

-- Replies

-- A native that is made is named.
abbrev pub another_reply : Transcript
another_reply = answered (codes "native n0 0\n") (ok ∷ [])

-- No number is used again.
abbrev pub number_used_again : Transcript
number_used_again = answered (codes "native n0 0\nnative n1 0\n") (made (native 1) ∷ made (native 1) ∷ [])

-- No number is left out.
abbrev pub number_left_out : Transcript
number_left_out = answered (codes "native n0 0\n") (made (native 2) ∷ [])

-- A native that could not be made takes no number.
abbrev pub number_taken_without_memory : Transcript
number_taken_without_memory = answered (codes "native n0 0\nnative n0 0\n") (without_memory ∷ made (native 2) ∷ [])

-- A slot reads as what was written to it.
abbrev pub slot_is_read_as_empty : Transcript
slot_is_read_as_empty = answered (codes "native n0 1\nset n0 0 n0\nget n1 n0 0\n") (made (native 1) ∷ ok ∷ replying [] nothing_there ∷ [])

-- A command that passes its checks is not refused.
abbrev pub refused_without_cause : Transcript
refused_without_cause = answered (codes "drop n0\n") (refused Empty ∷ [])

-- A command that fails a check is refused.
abbrev pub done_in_place_of_a_refusal : Transcript
done_in_place_of_a_refusal = answered (codes "preserve s0\n") (ok ∷ [])

-- A command is refused for the first check that it fails.
abbrev pub refused_for_another_cause : Transcript
refused_for_another_cause = answered (codes "preserve s0\n") (refused Kind ∷ [])

-- An entry that was taken out is not read.
abbrev pub taken_out_entry_is_read : Transcript
taken_out_entry_is_read = answered (codes "weakmap s0\nwset s0 s0 s0\nwset s0 s0 none\nwget s1 s0 s0\n")
    (made (object 1) ∷ ok ∷ ok ∷ made (object 1) ∷ [])

-- Another map keeps its entry of the same key.
abbrev pub entry_of_another_map_is_taken_out : Transcript
entry_of_another_map_is_taken_out = answered (codes "weakmap s0\nweakmap s1\nwset s0 s0 s0\nwset s1 s0 s0\nwset s0 s0 none\nwget s2 s1 s0\n")
    (made (object 1) ∷ made (object 2) ∷ ok ∷ ok ∷ ok ∷ replying [] nothing_there ∷ [])

-- The map keeps its entry of another key.
abbrev pub entry_of_another_key_is_taken_out : Transcript
entry_of_another_key_is_taken_out = answered (codes "weakmap s0\nscript s1 0\nwset s0 s0 s0\nwset s0 s1 s0\nwset s0 s0 none\nwget s2 s0 s1\n")
    (made (object 1) ∷ made (object 2) ∷ ok ∷ ok ∷ ok ∷ replying [] nothing_there ∷ [])

-- A proxy has no slots.
abbrev pub slot_of_a_proxy_is_read : Transcript
slot_of_a_proxy_is_read = answered (codes "script s0 0\nproxy s1 s0\ntake s2 s1 0\n")
    (made (object 1) ∷ made (object 2) ∷ replying [] nothing_there ∷ [])

-- A slot that a proxy has not is refused as that of a plain object is, and not as a weak map is.
abbrev pub proxy_is_taken_for_a_map : Transcript
proxy_is_taken_for_a_map = answered (codes "script s0 0\nproxy s1 s0\ntake s2 s1 0\n")
    (made (object 1) ∷ made (object 2) ∷ refused Kind ∷ [])

-- What is moved is named.
abbrev pub moved_native_is_not_named : Transcript
moved_native_is_not_named = answered (codes "version 2\nnative n0 1\nset n0 0 n0\nmove n0 0 n0 0\n") (ok ∷ made (native 1) ∷ ok ∷ ok ∷ [])

-- A slot from which something was moved is empty.
abbrev pub moved_native_is_read_where_it_was : Transcript
moved_native_is_read_where_it_was = answered (codes "version 2\nnative n0 2\nset n0 0 n0\nmove n0 1 n0 0\nget n1 n0 0\n")
    (ok ∷ made (native 1) ∷ ok ∷ made (native 1) ∷ made (native 1) ∷ [])

-- What is moved to where it is stays there.
abbrev pub native_moved_onto_itself_is_lost : Transcript
native_moved_onto_itself_is_lost = answered (codes "version 2\nnative n0 1\nset n0 0 n0\nmove n0 0 n0 0\nget n1 n0 0\n")
    (ok ∷ made (native 1) ∷ ok ∷ made (native 1) ∷ replying [] nothing_there ∷ [])

-- Wants of memory

-- A copy of a native register takes no memory.
abbrev pub copy_of_a_native_wants_memory : Transcript
copy_of_a_native_wants_memory = answered (codes "copy n0 n1\n") (without_memory ∷ [])

-- A copy of a script register takes no memory.
abbrev pub copy_of_a_script_object_wants_memory : Transcript
copy_of_a_script_object_wants_memory = answered (codes "copy s0 s1\n") (without_memory ∷ [])

-- A drop takes no memory.
abbrev pub drop_wants_memory : Transcript
drop_wants_memory = answered (codes "drop n0\n") (without_memory ∷ [])

-- The writing of a native's slot takes no memory.
abbrev pub set_wants_memory : Transcript
set_wants_memory = answered (codes "native n0 1\nset n0 0 none\n") (made (native 1) ∷ without_memory ∷ [])

-- The reading of a native's slot takes no memory.
abbrev pub get_wants_memory : Transcript
get_wants_memory = answered (codes "native n0 1\nget n1 n0 0\n") (made (native 1) ∷ without_memory ∷ [])

-- The writing of a script object's slot takes no memory.
abbrev pub put_wants_memory : Transcript
put_wants_memory = answered (codes "script s0 1\nput s0 0 none\n") (made (object 1) ∷ without_memory ∷ [])

-- The reading of a script object's slot takes no memory.
abbrev pub take_wants_memory : Transcript
take_wants_memory = answered (codes "script s0 1\ntake s1 s0 0\n") (made (object 1) ∷ without_memory ∷ [])

-- The wrapping of a native whose reflector is listed takes no memory.
abbrev pub wrap_of_a_listed_reflector_wants_memory : Transcript
wrap_of_a_listed_reflector_wants_memory = answered (codes "native n0 0\nwrap s0 n0\nwrap s1 n0\n")
    (made (native 1) ∷ made (reflector 1) ∷ without_memory ∷ [])

-- The unwrapping of a reflector takes no memory.
abbrev pub unwrap_wants_memory : Transcript
unwrap_wants_memory = answered (codes "native n0 0\nwrap s0 n0\nunwrap n1 s0\n") (made (native 1) ∷ made (reflector 1) ∷ without_memory ∷ [])

-- The preserving of a reflector takes no memory.
abbrev pub preserve_wants_memory : Transcript
preserve_wants_memory = answered (codes "native n0 0\nwrap s0 n0\npreserve s0\n") (made (native 1) ∷ made (reflector 1) ∷ without_memory ∷ [])

-- An entry that is there already takes no memory when it is set again.
abbrev pub replaced_entry_wants_memory : Transcript
replaced_entry_wants_memory = answered (codes "weakmap s0\nwset s0 s0 s0\nwset s0 s0 s0\n") (made (object 1) ∷ ok ∷ without_memory ∷ [])

-- The taking out of an entry takes no memory.
abbrev pub taken_out_entry_wants_memory : Transcript
taken_out_entry_wants_memory = answered (codes "weakmap s0\nwset s0 s0 none\n") (made (object 1) ∷ without_memory ∷ [])

-- The reading of an entry takes no memory.
abbrev pub wget_wants_memory : Transcript
wget_wants_memory = answered (codes "weakmap s0\nwget s1 s0 s0\n") (made (object 1) ∷ without_memory ∷ [])

-- The exposing of a slot takes no memory.
abbrev pub expose_wants_memory : Transcript
expose_wants_memory = answered (codes "native n0 1\nexpose n0 0\n") (made (native 1) ∷ without_memory ∷ [])

-- Gc takes no memory.
abbrev pub gc_wants_memory : Transcript
gc_wants_memory = answered (codes "gc\n") (without_memory ∷ [])

-- Units of a marking take none.
abbrev pub mark_wants_memory : Transcript
mark_wants_memory = answered (codes "version 2\nmark 1\n") (ok ∷ without_memory ∷ [])

-- A move takes no memory.
abbrev pub move_wants_memory : Transcript
move_wants_memory = answered (codes "version 2\nnative n0 1\nmove n0 0 n0 0\n") (ok ∷ made (native 1) ∷ without_memory ∷ [])

-- To ask for a version takes none.
abbrev pub version_wants_memory : Transcript
version_wants_memory = answered (codes "version 2\n") (without_memory ∷ [])

-- A wrapping that the graph refuses asks no memory.
abbrev pub refused_wrap_wants_memory : Transcript
refused_wrap_wants_memory = answered (codes "wrap s0 n0\n") (without_memory ∷ [])

-- An entry that the graph refuses asks no memory.
abbrev pub refused_wset_wants_memory : Transcript
refused_wset_wants_memory = answered (codes "wset s0 s1 s2\n") (without_memory ∷ [])

-- A proxy that the graph refuses asks no memory.
abbrev pub refused_proxy_wants_memory : Transcript
refused_proxy_wants_memory = answered (codes "proxy s0 s1\n")
    (without_memory ∷ [])

-- Want of memory is no other refusal.
abbrev pub full_in_place_of_want_of_memory : Transcript
full_in_place_of_want_of_memory = answered (codes "native n0 0\n") (refused Full ∷ [])

-- Censuses

-- A census leaves nothing out.
abbrev pub census_leaves_one_out : Transcript
census_leaves_one_out = answered (codes "native n0 0\ncensus\n") (made (native 1) ∷ lists [] ∷ [])

-- A census lists nothing that was freed.
abbrev pub census_lists_what_was_freed : Transcript
census_lists_what_was_freed = answered (codes "native n0 0\ndrop n0\ncensus\n")
    (made (native 1) ∷ done_after (Freed (native 1) ∷ []) ∷ lists (native 1 ∷ []) ∷ [])

-- A census lists nothing that could not be made.
abbrev pub census_lists_what_was_not_made : Transcript
census_lists_what_was_not_made = answered (codes "native n0 0\ncensus\n") (without_memory ∷ lists (native 1 ∷ []) ∷ [])

-- A census lists natives first.
abbrev pub census_lists_script_objects_first : Transcript
census_lists_script_objects_first = answered (codes "script s0 0\nnative n0 0\ncensus\n")
    (made (object 1) ∷ made (native 1) ∷ listing (object 1 ∷ native 1 ∷ []) (Census 2) ∷ [])

-- A census lists natives by rising number.
abbrev pub census_lists_in_falling_order : Transcript
census_lists_in_falling_order = answered (codes "native n0 0\nnative n1 0\ncensus\n")
    (made (native 1) ∷ made (native 2) ∷ listing (native 2 ∷ native 1 ∷ []) (Census 2) ∷ [])

-- A reflector that was made again is listed last.
abbrev pub census_lists_a_reflector_in_its_old_place : Transcript
census_lists_a_reflector_in_its_old_place = answered (codes "native n0 0\nwrap s0 n0\nscript s1 0\ndrop s0\ngc\nwrap s0 n0\ncensus\n")
    (made (native 1) ∷ made (reflector 1) ∷ made (object 1) ∷ ok ∷ done_after (Freed (reflector 1) ∷ []) ∷ made (reflector 1) ∷ listing (native 1 ∷ reflector 1 ∷ object 1 ∷ []) (Census 3) ∷ [])

-- A reflector that was there keeps its place when its native is wrapped again.
abbrev pub census_lists_a_wrapped_reflector_last : Transcript
census_lists_a_wrapped_reflector_last = answered (codes "native n0 0\nwrap s0 n0\nscript s1 0\nwrap s2 n0\ncensus\n")
    (made (native 1) ∷ made (reflector 1) ∷ made (object 1) ∷ made (reflector 1) ∷ listing (native 1 ∷ object 1 ∷ reflector 1 ∷ []) (Census 3) ∷ [])

-- A reflector is listed once.
abbrev pub census_lists_a_reflector_twice : Transcript
census_lists_a_reflector_twice = answered (codes "native n0 0\nwrap s0 n0\nwrap s1 n0\ncensus\n")
    (made (native 1) ∷ made (reflector 1) ∷ made (reflector 1) ∷ listing (native 1 ∷ reflector 1 ∷ reflector 1 ∷ []) (Census 3) ∷ [])

-- A census tells how many names it lists.
abbrev pub census_tells_another_number : Transcript
census_tells_another_number = answered (codes "native n0 0\ncensus\n") (made (native 1) ∷ listing (native 1 ∷ []) (Census 2) ∷ [])

-- A census does not end without that number.
abbrev pub census_tells_no_number : Transcript
census_tells_no_number = answered (codes "native n0 0\ncensus\n")
    (made (native 1) ∷ record { events = []; listed = native 1 ∷ []; steps = []; reply = None } ∷ [])

-- A census frees nothing.
abbrev pub freed_by_a_census : Transcript
freed_by_a_census = answered (codes "native n0 0\ndrop n0\ncensus\n") (made (native 1) ∷ ok ∷ replying (Freed (native 1) ∷ []) (Census 0) ∷ [])

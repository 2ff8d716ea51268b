-- WRONG EVENTS: transcripts whose last answer has one event too many, too few, or in a wrong place.
use Rattle.std.specs.Prelude.{[], ◌∷◌, codes}
use Rattle.cc_names.specs.Names.{native, object, reflector}
use Rattle.cc_model.specs.declared.item.Refusal.TheVariants.{Empty, NoMemory}
use Rattle.cc_model.specs.declared.item.Reply.TheVariants.{Named, Refused, Nothing as nothing_there}
use Rattle.cc_model.specs.declared.item.Event.TheVariants.{Unlinked, Freed, Abandoned}
use Rattle.cc_model.specs.Answers.{replying}
use Rattle.cc_worked.specs.Transcripts.{Transcript, answered, made, ok, done_after, without_memory}

-- What is freed and unlinked

-- A refused command does nothing.
abbrev pub freed_by_a_refused_command : Transcript
freed_by_a_refused_command = answered (codes "native n0 0\ndrop n0\nset n0 0 none\n")
    (made (native 1) ∷ ok ∷ replying (Freed (native 1) ∷ []) (Refused Empty) ∷ [])

-- A command that was refused memory does nothing.
abbrev pub freed_without_memory : Transcript
freed_without_memory = answered (codes "native n0 0\ndrop n0\nnative n0 0\n")
    (made (native 1) ∷ ok ∷ replying (Freed (native 1) ∷ []) (Refused NoMemory) ∷ [])

-- What was never made is not freed.
abbrev pub freed_before_it_was_made : Transcript
freed_before_it_was_made = answered (codes "collect\n") (done_after (Freed (native 1) ∷ []) ∷ [])

-- Nothing is freed twice.
abbrev pub freed_twice : Transcript
freed_twice = answered (codes "native n0 0\ndrop n0\n") (made (native 1) ∷ done_after (Freed (native 1) ∷ Freed (native 1) ∷ []) ∷ [])

-- What was freed is not freed again later.
abbrev pub freed_again : Transcript
freed_again = answered (codes "native n0 0\ndrop n0\ncollect\n")
    (made (native 1) ∷ done_after (Freed (native 1) ∷ []) ∷ done_after (Freed (native 1) ∷ []) ∷ [])

-- What a register holds is not freed.
abbrev pub freed_while_a_register_holds_it : Transcript
freed_while_a_register_holds_it = answered (codes "native n0 0\ncollect\n") (made (native 1) ∷ done_after (Freed (native 1) ∷ []) ∷ [])

-- What a held native has in a slot is not freed.
abbrev pub freed_while_a_slot_holds_it : Transcript
freed_while_a_slot_holds_it = answered (codes "native n0 1\nnative n1 0\nset n0 0 n1\ndrop n1\n")
    (made (native 1) ∷ made (native 2) ∷ ok ∷ done_after (Freed (native 2) ∷ []) ∷ [])

-- A native lives as long as its reflector.
abbrev pub freed_while_its_reflector_is_held : Transcript
freed_while_its_reflector_is_held = answered (codes "native n0 0\nwrap s0 n0\ndrop n0\n")
    (made (native 1) ∷ made (reflector 1) ∷ done_after (Freed (native 1) ∷ []) ∷ [])

-- A preserved reflector lives as long as its native.
abbrev pub preserved_reflector_is_freed : Transcript
preserved_reflector_is_freed = answered (codes "native n0 0\nwrap s0 n0\npreserve s0\ndrop s0\ngc\n")
    (made (native 1) ∷ made (reflector 1) ∷ ok ∷ ok ∷ done_after (Freed (reflector 1) ∷ []) ∷ [])

-- A reflector is preserved where a slot of it is emptied.
abbrev pub reflector_with_an_emptied_slot_is_freed : Transcript
reflector_with_an_emptied_slot_is_freed = answered (codes "native n0 0\nwrap s0 n0\nput s0 0 none\ndrop s0\ngc\n")
    (made (native 1) ∷ made (reflector 1) ∷ ok ∷ ok ∷ done_after (Freed (reflector 1) ∷ []) ∷ [])

-- A reflector is preserved where it becomes a key.
abbrev pub reflector_that_is_a_key_is_freed : Transcript
reflector_that_is_a_key_is_freed = answered (codes "native n0 0\nwrap s1 n0\nweakmap s0\nwset s0 s1 s0\ndrop s1\ngc\n")
    (made (native 1) ∷ made (reflector 1) ∷ made (object 1) ∷ ok ∷ ok ∷ done_after (Freed (reflector 1) ∷ []) ∷ [])

-- A value lives as long as its map and its key.
abbrev pub value_is_freed_while_map_and_key_are_held : Transcript
value_is_freed_while_map_and_key_are_held = answered (codes "weakmap s0\nscript s1 0\nwset s0 s0 s1\ndrop s1\ngc\n")
    (made (object 1) ∷ made (object 2) ∷ ok ∷ ok ∷ done_after (Freed (object 2) ∷ []) ∷ [])

-- A reflector is preserved where it gets a proxy.
abbrev pub reflector_that_is_a_delegate_is_freed : Transcript
reflector_that_is_a_delegate_is_freed = answered (codes "native n0 0\nwrap s0 n0\nproxy s1 s0\ndrop s0\ndrop s1\ngc\n")
    (made (native 1) ∷ made (reflector 1) ∷ made (object 1) ∷ ok ∷ ok ∷ done_after (Freed (reflector 1) ∷ []) ∷ [])

-- A delegate lives as long as its proxy.
abbrev pub delegate_is_freed_while_its_proxy_is_held : Transcript
delegate_is_freed_while_its_proxy_is_held = answered (codes "script s0 0\nproxy s1 s0\ndrop s0\ngc\n")
    (made (object 1) ∷ made (object 2) ∷ ok ∷ done_after (Freed (object 1) ∷ []) ∷ [])

-- A proxy that is a key lives as long as its map and its delegate.
abbrev pub proxy_key_is_freed_while_map_and_delegate_are_held : Transcript
proxy_key_is_freed_while_map_and_delegate_are_held = answered (codes "weakmap s0\nproxy s1 s0\nwset s0 s1 s0\ndrop s1\ngc\n")
    (made (object 1) ∷ made (object 2) ∷ ok ∷ ok ∷ done_after (Freed (object 2) ∷ []) ∷ [])

-- So does the value of such a key.
abbrev pub value_of_a_proxy_key_is_freed_while_map_and_delegate_are_held : Transcript
value_of_a_proxy_key_is_freed_while_map_and_delegate_are_held = answered (codes "weakmap s0\nproxy s1 s0\nscript s2 0\nwset s0 s1 s2\ndrop s1\ndrop s2\ngc\n")
    (made (object 1) ∷ made (object 2) ∷ made (object 3) ∷ ok ∷ ok ∷ ok ∷ done_after (Freed (object 3) ∷ []) ∷ [])

-- A drop frees no script object.
abbrev pub script_object_is_freed_by_a_drop : Transcript
script_object_is_freed_by_a_drop = answered (codes "script s0 0\ndrop s0\n") (made (object 1) ∷ done_after (Freed (object 1) ∷ []) ∷ [])

-- A drop frees no reflector, though it may free the native.
abbrev pub reflector_is_freed_by_a_drop : Transcript
reflector_is_freed_by_a_drop = answered (codes "native n0 0\nwrap s0 n0\ndrop s0\ndrop n0\n")
    (made (native 1) ∷ made (reflector 1) ∷ ok ∷ done_after (Freed (native 1) ∷ Freed (reflector 1) ∷ []) ∷ [])

-- A put frees no script object.
abbrev pub script_object_is_freed_by_a_put : Transcript
script_object_is_freed_by_a_put = answered (codes "script s0 1\nscript s1 0\nput s0 0 s1\ndrop s1\nput s0 0 none\n")
    (made (object 1) ∷ made (object 2) ∷ ok ∷ ok ∷ done_after (Freed (object 2) ∷ []) ∷ [])

-- The making of another script object frees none.
abbrev pub script_object_is_freed_by_the_making_of_another : Transcript
script_object_is_freed_by_the_making_of_another = answered (codes "script s0 0\nscript s0 0\n")
    (made (object 1) ∷ replying (Freed (object 1) ∷ []) (Named (object 2)) ∷ [])

-- No script object is freed where suspects are forgotten.
abbrev pub script_object_is_freed_by_forget : Transcript
script_object_is_freed_by_forget = answered (codes "version 2\nscript s0 0\ndrop s0\nforget\n")
    (ok ∷ made (object 1) ∷ ok ∷ done_after (Freed (object 1) ∷ []) ∷ [])

-- A slice may free script objects, but none that a held native has in a slot.
abbrev pub script_object_is_freed_by_a_slice_while_a_native_holds_it : Transcript
script_object_is_freed_by_a_slice_while_a_native_holds_it = answered (codes "native n0 1\nscript s0 0\nset n0 0 s0\ndrop s0\nslice 1\n")
    (made (native 1) ∷ made (object 1) ∷ ok ∷ ok ∷ done_after (Freed (object 1) ∷ []) ∷ [])

-- A collect may free script objects, but no value of a held map and a held key.
abbrev pub value_is_freed_by_a_collect_while_map_and_key_are_held : Transcript
value_is_freed_by_a_collect_while_map_and_key_are_held = answered (codes "weakmap s0\nscript s1 0\nwset s0 s0 s1\ndrop s1\ncollect\n")
    (made (object 1) ∷ made (object 2) ∷ ok ∷ ok ∷ done_after (Freed (object 2) ∷ []) ∷ [])

-- Units of a marking may free script objects, but none that a register holds.
abbrev pub script_object_is_freed_by_mark_while_held : Transcript
script_object_is_freed_by_mark_while_held = answered (codes "version 2\nscript s0 0\nmark 1\n")
    (ok ∷ made (object 1) ∷ done_after (Freed (object 1) ∷ []) ∷ [])

-- A script object that was freed by units of a marking is not freed by gc again.
abbrev pub script_object_freed_by_mark_is_freed_again : Transcript
script_object_freed_by_mark_is_freed_again = answered (codes "version 2\nscript s0 0\ndrop s0\nmark 9\ngc\n")
    (ok ∷ made (object 1) ∷ ok ∷ done_after (Freed (object 1) ∷ []) ∷ done_after (Freed (object 1) ∷ []) ∷ [])

-- What was never made is not unlinked.
abbrev pub unlinked_before_it_was_made : Transcript
unlinked_before_it_was_made = answered (codes "collect\n") (done_after (Unlinked (native 1) ∷ []) ∷ [])

-- What was freed is not unlinked.
abbrev pub unlinked_after_it_was_freed : Transcript
unlinked_after_it_was_freed = answered (codes "native n0 0\ndrop n0\ncollect\n")
    (made (native 1) ∷ ok ∷ done_after (Freed (native 1) ∷ Unlinked (native 1) ∷ []) ∷ [])

-- What a register holds is not unlinked.
abbrev pub unlinked_while_held : Transcript
unlinked_while_held = answered (codes "native n0 0\ncollect\n") (made (native 1) ∷ done_after (Unlinked (native 1) ∷ []) ∷ [])

-- A drop unlinks nothing.
abbrev pub unlinked_by_a_drop : Transcript
unlinked_by_a_drop = answered (codes "native n0 0\ndrop n0\n") (made (native 1) ∷ done_after (Unlinked (native 1) ∷ []) ∷ [])

-- The making of another native unlinks nothing.
abbrev pub unlinked_by_the_making_of_another : Transcript
unlinked_by_the_making_of_another = answered (codes "native n0 0\ndrop n0\nnative n0 0\n")
    (made (native 1) ∷ ok ∷ replying (Unlinked (native 1) ∷ []) (Named (native 2)) ∷ [])

-- A native that is moved is held by the slot that takes it.
abbrev pub moved_native_is_freed : Transcript
moved_native_is_freed = answered (codes "version 2\nnative n0 1\nnative n1 1\nnative n2 0\nset n0 0 n2\ndrop n2\nmove n1 0 n0 0\n")
    (ok ∷ made (native 1) ∷ made (native 2) ∷ made (native 3) ∷ ok ∷ ok ∷ replying (Freed (native 3) ∷ []) (Named (native 3)) ∷ [])

-- A move may free, and unlinks nothing.
abbrev pub unlinked_by_a_move : Transcript
unlinked_by_a_move = answered (codes "version 2\nnative n0 1\nnative n1 0\nset n0 0 n1\ndrop n1\nnative n1 1\nmove n0 0 n1 0\n")
    (ok ∷ made (native 1) ∷ made (native 2) ∷ ok ∷ ok ∷ made (native 3) ∷ replying (Unlinked (native 2) ∷ []) nothing_there ∷ [])

-- No script object is unlinked.
abbrev pub script_object_is_unlinked : Transcript
script_object_is_unlinked = answered (codes "script s0 0\ndrop s0\ngc\n") (made (object 1) ∷ ok ∷ done_after (Unlinked (object 1) ∷ []) ∷ [])

-- No reflector is unlinked.
abbrev pub reflector_is_unlinked : Transcript
reflector_is_unlinked = answered (codes "native n0 0\nwrap s0 n0\ndrop s0\ngc\n")
    (made (native 1) ∷ made (reflector 1) ∷ ok ∷ done_after (Unlinked (reflector 1) ∷ []) ∷ [])

-- Units of a marking unlink no script object either.
abbrev pub script_object_is_unlinked_by_mark : Transcript
script_object_is_unlinked_by_mark = answered (codes "version 2\nscript s0 0\ndrop s0\nmark 1\n")
    (ok ∷ made (object 1) ∷ ok ∷ done_after (Unlinked (object 1) ∷ []) ∷ [])

-- One collection unlinks by rising number.
abbrev pub unlinked_in_falling_order : Transcript
unlinked_in_falling_order = answered (codes "native n0 0\nnative n1 0\ndrop n0\ndrop n1\nslice 9\n")
    (made (native 1) ∷ made (native 2) ∷ ok ∷ ok ∷ done_after (Unlinked (native 2) ∷ Unlinked (native 1) ∷ []) ∷ [])

-- One collection unlinks nothing twice.
abbrev pub unlinked_twice : Transcript
unlinked_twice = answered (codes "native n0 0\ndrop n0\nslice 9\n")
    (made (native 1) ∷ ok ∷ done_after (Unlinked (native 1) ∷ Unlinked (native 1) ∷ []) ∷ [])

-- Gc ends one collection at most.
abbrev pub unlinked_in_falling_order_by_gc : Transcript
unlinked_in_falling_order_by_gc = answered (codes "native n0 0\nnative n1 0\ndrop n0\ndrop n1\ngc\n")
    (made (native 1) ∷ made (native 2) ∷ ok ∷ ok ∷ done_after (Unlinked (native 2) ∷ Unlinked (native 1) ∷ []) ∷ [])

-- So does a mark, which ends the one that runs.
abbrev pub unlinked_in_falling_order_by_mark : Transcript
unlinked_in_falling_order_by_mark = answered (codes "version 2\nnative n0 0\nnative n1 0\ndrop n0\ndrop n1\nmark 1\n")
    (ok ∷ made (native 1) ∷ made (native 2) ∷ ok ∷ ok ∷ done_after (Unlinked (native 2) ∷ Unlinked (native 1) ∷ []) ∷ [])

-- A collect ends two collections at most.
abbrev pub unlinked_in_three_runs : Transcript
unlinked_in_three_runs = answered (codes "native n0 0\nnative n1 0\nnative n2 0\ndrop n0\ndrop n1\ndrop n2\ncollect\n")
    (made (native 1) ∷ made (native 2) ∷ made (native 3) ∷ ok ∷ ok ∷ ok ∷ done_after (Unlinked (native 3) ∷ Unlinked (native 2) ∷ Unlinked (native 1) ∷ []) ∷ [])

-- Abandonments

-- A slice that is refused memory abandons its collection.
abbrev pub refused_slice_abandons_nothing : Transcript
refused_slice_abandons_nothing = answered (codes "slice 1\n") (without_memory ∷ [])

-- A collect that is refused memory abandons its collection.
abbrev pub refused_collect_abandons_nothing : Transcript
refused_collect_abandons_nothing = answered (codes "collect\n") (without_memory ∷ [])

-- A slice abandons its collection once.
abbrev pub refused_slice_abandons_twice : Transcript
refused_slice_abandons_twice = answered (codes "slice 1\n") (replying (Abandoned ∷ Abandoned ∷ []) (Refused NoMemory) ∷ [])

-- A collect abandons its collection once.
abbrev pub refused_collect_abandons_twice : Transcript
refused_collect_abandons_twice = answered (codes "collect\n") (replying (Abandoned ∷ Abandoned ∷ []) (Refused NoMemory) ∷ [])

-- Nothing follows the abandonment of a collection that was refused memory.
abbrev pub freed_after_the_abandonment : Transcript
freed_after_the_abandonment = answered (codes "native n0 0\ndrop n0\ncollect\n")
    (made (native 1) ∷ ok ∷ replying (Abandoned ∷ Freed (native 1) ∷ []) (Refused NoMemory) ∷ [])

-- Script objects are freed before it, and none behind it.
abbrev pub script_object_is_freed_after_the_abandonment : Transcript
script_object_is_freed_after_the_abandonment = answered (codes "script s0 0\ndrop s0\nslice 1\n")
    (made (object 1) ∷ ok ∷ replying (Abandoned ∷ Freed (object 1) ∷ []) (Refused NoMemory) ∷ [])

-- A slice that is done abandons nothing.
abbrev pub slice_abandons_and_is_done : Transcript
slice_abandons_and_is_done = answered (codes "slice 1\n") (done_after (Abandoned ∷ []) ∷ [])

-- A collect that is done abandons nothing.
abbrev pub collect_abandons_and_is_done : Transcript
collect_abandons_and_is_done = answered (codes "collect\n") (done_after (Abandoned ∷ []) ∷ [])

-- Gc abandons the one collection that runs.
abbrev pub gc_abandons_twice : Transcript
gc_abandons_twice = answered (codes "gc\n") (done_after (Abandoned ∷ Abandoned ∷ []) ∷ [])

-- Gc abandons the collection that runs before it frees anything.
abbrev pub gc_abandons_late : Transcript
gc_abandons_late = answered (codes "script s0 0\ndrop s0\ngc\n") (made (object 1) ∷ ok ∷ done_after (Freed (object 1) ∷ Abandoned ∷ []) ∷ [])

-- A mark abandons the one collection that runs.
abbrev pub mark_abandons_twice : Transcript
mark_abandons_twice = answered (codes "version 2\nmark 1\n") (ok ∷ done_after (Abandoned ∷ Abandoned ∷ []) ∷ [])

-- A mark abandons the collection that runs before it frees anything.
abbrev pub mark_abandons_late : Transcript
mark_abandons_late = answered (codes "version 2\nscript s0 0\ndrop s0\nmark 9\n")
    (ok ∷ made (object 1) ∷ ok ∷ done_after (Freed (object 1) ∷ Abandoned ∷ []) ∷ [])

-- A mark whose collection was refused memory is done all the same.
abbrev pub mark_abandons_and_is_refused : Transcript
mark_abandons_and_is_refused = answered (codes "version 2\nmark 1\n") (ok ∷ replying (Abandoned ∷ []) (Refused NoMemory) ∷ [])

-- No other command abandons a collection.
abbrev pub drop_abandons : Transcript
drop_abandons = answered (codes "drop n0\n") (done_after (Abandoned ∷ []) ∷ [])

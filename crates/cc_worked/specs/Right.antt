-- RIGHT TRANSCRIPTS, at the limits of what is lawful.
use Rattle.std.specs.Prelude.{[], ◌∷◌, ◌++◌, codes, replicate}
use Rattle.cc_names.specs.declared.register.Reg.TheVariants.{N, S}
use Rattle.cc_names.specs.Names.{native, object, reflector}
use Rattle.cc_model.specs.declared.item.Refusal.TheVariants.{Long, Line, NoMemory}
use Rattle.cc_model.specs.declared.item.Reason.TheVariants.{Root, Edge, Pair}
use Rattle.cc_model.specs.declared.item.Reply.TheVariants.{Refused, Nothing as nothing_there}
use Rattle.cc_model.specs.declared.item.Event.TheVariants.{Unlinked, Freed, Abandoned}
use Rattle.cc_model.specs.Answers.{no_answer, replying}
use Rattle.cc_worked.specs.Transcripts.{Transcript, answered, made, lists, ok, path, done_after, refused, without_memory}

-- What makes an object or an entry may be refused memory, and then nothing was made.
abbrev pub memory_may_be_refused : Transcript
memory_may_be_refused = answered (codes "native n0 0\nscript s0 0\nweakmap s0\nnative n0 0\nwrap s0 n0\nweakmap s0\nwset s0 s0 s0\ncensus\n")
    (without_memory ∷ without_memory ∷ without_memory ∷ made (native 1) ∷ without_memory ∷ made (object 1) ∷ without_memory ∷ lists (native 1 ∷ object 1 ∷ []) ∷ [])

-- A reflector that was freed may be refused memory when it is to be made again.
abbrev pub reflector_may_be_refused_again : Transcript
reflector_may_be_refused_again = answered (codes "native n0 0\nwrap s0 n0\ndrop s0\ngc\nwrap s0 n0\n")
    (made (native 1) ∷ made (reflector 1) ∷ ok ∷ done_after (Freed (reflector 1) ∷ []) ∷ without_memory ∷ [])

-- A slice or a collect that is refused memory frees what it frees, and then abandons its collection.
abbrev pub refused_collections_abandon : Transcript
refused_collections_abandon = answered (codes "native n0 0\ndrop n0\nslice 1\ncollect\n")
    (made (native 1) ∷ ok ∷ replying (Unlinked (native 1) ∷ Freed (native 1) ∷ Abandoned ∷ []) (Refused NoMemory) ∷ replying (Abandoned ∷ []) (Refused NoMemory) ∷ [])

-- Gc abandons the collection that runs, and then frees.
abbrev pub gc_abandons_first : Transcript
gc_abandons_first = answered (codes "script s0 0\ndrop s0\ngc\n") (made (object 1) ∷ ok ∷ done_after (Abandoned ∷ Freed (object 1) ∷ []) ∷ [])

-- So does a mark.
abbrev pub mark_abandons_first : Transcript
mark_abandons_first = answered (codes "version 2\nscript s0 0\ndrop s0\nmark 9\n")
    (ok ∷ made (object 1) ∷ ok ∷ done_after (Abandoned ∷ Freed (object 1) ∷ []) ∷ [])

-- A slice, a collect, a gc and a mark free script objects.
abbrev pub script_objects_are_freed_by_what_collects : Transcript
script_objects_are_freed_by_what_collects = answered (codes "version 2\nscript s0 0\nscript s0 0\nscript s0 0\nscript s0 0\nscript s0 0\nslice 1\ncollect\ngc\nmark 1\n")
    (ok ∷ made (object 1) ∷ made (object 2) ∷ made (object 3) ∷ made (object 4) ∷ made (object 5) ∷ done_after (Freed (object 4) ∷ []) ∷ done_after (Freed (object 1) ∷ []) ∷ done_after (Freed (object 3) ∷ []) ∷ done_after (Freed (object 2) ∷ []) ∷ [])

-- A slice that is refused memory may have freed script objects and natives before.
abbrev pub refused_slice_frees_script_objects : Transcript
refused_slice_frees_script_objects = answered (codes "native n0 0\nwrap s0 n0\ndrop s0\ndrop n0\nslice 1\n")
    (made (native 1) ∷ made (reflector 1) ∷ ok ∷ ok ∷ replying (Freed (reflector 1) ∷ Freed (native 1) ∷ Abandoned ∷ []) (Refused NoMemory) ∷ [])

-- A reflector that a slice freed is made again, and goes last.
abbrev pub reflector_freed_by_a_slice_is_made_again : Transcript
reflector_freed_by_a_slice_is_made_again = answered (codes "native n0 0\nwrap s0 n0\nscript s1 0\ndrop s0\nslice 1\nwrap s0 n0\ncensus\n")
    (made (native 1) ∷ made (reflector 1) ∷ made (object 1) ∷ ok ∷ done_after (Freed (reflector 1) ∷ []) ∷ made (reflector 1) ∷ lists (native 1 ∷ object 1 ∷ reflector 1 ∷ []) ∷ [])

-- Units of a marking may free a native and unlink another, and may leave what is garbage.
abbrev pub garbage_stays_behind_a_mark : Transcript
garbage_stays_behind_a_mark = answered (codes "version 2\nnative n0 0\nnative n1 0\nscript s0 0\ndrop n0\ndrop n1\ndrop s0\nmark 9\nmark 9\n")
    (ok ∷ made (native 1) ∷ made (native 2) ∷ made (object 1) ∷ ok ∷ ok ∷ ok ∷ done_after (Unlinked (native 2) ∷ Freed (native 1) ∷ []) ∷ ok ∷ [])

-- A collect ends two collections, each of which unlinks by rising number.
abbrev pub two_collections_end : Transcript
two_collections_end = answered (codes "native n0 0\nnative n1 0\ndrop n0\ndrop n1\ncollect\n")
    (made (native 1) ∷ made (native 2) ∷ ok ∷ ok ∷ done_after (Unlinked (native 2) ∷ Freed (native 2) ∷ Unlinked (native 1) ∷ Freed (native 1) ∷ []) ∷ [])

-- A native may be unlinked and not be freed, be unlinked again, and be freed by a drop later.
abbrev pub garbage_stays_for_a_while : Transcript
garbage_stays_for_a_while = answered (codes "native n0 0\ndrop n0\nslice 1\ngc\ndrop n1\n")
    (made (native 1) ∷ ok ∷ done_after (Unlinked (native 1) ∷ []) ∷ done_after (Unlinked (native 1) ∷ []) ∷ done_after (Freed (native 1) ∷ []) ∷ [])

-- A value is freed where its key is.
abbrev pub value_goes_with_its_key : Transcript
value_goes_with_its_key = answered (codes "weakmap s0\nscript s1 0\nscript s2 0\nwset s0 s1 s2\ndrop s1\ndrop s2\ngc\n")
    (made (object 1) ∷ made (object 2) ∷ made (object 3) ∷ ok ∷ ok ∷ ok ∷ done_after (Freed (object 2) ∷ Freed (object 3) ∷ []) ∷ [])

-- A proxy may be refused memory, and then no reflector was preserved.
abbrev pub proxy_may_be_refused_memory : Transcript
proxy_may_be_refused_memory = answered (codes "native n0 0\nwrap s0 n0\nproxy s1 s0\ndrop s0\ngc\ncensus\n")
    (made (native 1) ∷ made (reflector 1) ∷ without_memory ∷ ok ∷ done_after (Freed (reflector 1) ∷ []) ∷ lists (native 1 ∷ []) ∷ [])

-- A proxy that is a key is freed where its delegate is.
abbrev pub proxy_key_goes_with_its_delegate : Transcript
proxy_key_goes_with_its_delegate = answered (codes "weakmap s0\nscript s1 0\nproxy s2 s1\nwset s0 s2 s0\ndrop s1\ndrop s2\ngc\n")
    (made (object 1) ∷ made (object 2) ∷ made (object 3) ∷ ok ∷ ok ∷ ok ∷ done_after (Freed (object 2) ∷ Freed (object 3) ∷ []) ∷ [])

-- A long line, one that is not in the grammar, a blank one and a comment are answered each in its way.
abbrev pub lines_that_ask_nothing : Transcript
lines_that_ask_nothing = answered ((replicate 121 97 ++ 10 ∷ []) ++ codes "dorp n0\n\n% drop n0\n")
    (refused Long ∷ refused Line ∷ no_answer ∷ no_answer ∷ [])

-- A slot that takes something gives up what it held, which may be freed.
abbrev pub move_frees_what_the_slot_held : Transcript
move_frees_what_the_slot_held = answered (codes "version 2\nnative n0 1\nnative n1 0\nset n0 0 n1\ndrop n1\nnative n1 1\nmove n0 0 n1 0\n")
    (ok ∷ made (native 1) ∷ made (native 2) ∷ ok ∷ ok ∷ made (native 3) ∷ replying (Freed (native 2) ∷ []) nothing_there ∷ [])

-- Blank lines and comments leave version 2 to be asked for.
abbrev pub version_two_behind_a_comment : Transcript
version_two_behind_a_comment = answered (codes "% c\n\nversion 2\nnative n1023 256\n") (no_answer ∷ no_answer ∷ ok ∷ made (native 1) ∷ [])

-- A census lists natives and then script objects, and a reflector that was made again goes last.
abbrev pub census_in_order : Transcript
census_in_order = answered (codes "script s0 0\nnative n0 0\nwrap s1 n0\ndrop s1\ngc\nscript s1 0\nwrap s2 n0\ncensus\n")
    (made (object 1) ∷ made (native 1) ∷ made (reflector 1) ∷ ok ∷ done_after (Freed (reflector 1) ∷ []) ∷ made (object 2) ∷ made (reflector 1) ∷ lists (native 1 ∷ object 1 ∷ object 2 ∷ reflector 1 ∷ []) ∷ [])

-- The steps of a path stand in the order in which they were found.
abbrev pub path_in_order : Transcript
path_in_order = answered (codes "version 2\nweakmap s0\nscript s1 0\nproxy s2 s1\nscript s3 0\nnative n0 1\nset n0 0 s1\nwset s0 s2 s3\ndrop s1\ndrop s2\ndrop s3\nwhy @4\n")
    (ok ∷ made (object 1) ∷ made (object 2) ∷ made (object 3) ∷ made (object 4) ∷ made (native 1) ∷ ok ∷ ok ∷ ok ∷ ok ∷ ok ∷ path ((native 1, Root (N 0)) ∷ (object 1, Root (S 0)) ∷ (object 2, Edge (native 1)) ∷ (object 3, Pair (object 1) (object 2)) ∷ (object 4, Pair (object 1) (object 3)) ∷ []) ∷ [])

-- A path may be refused memory, also where there is none.
abbrev pub path_may_be_refused_memory : Transcript
path_may_be_refused_memory = answered (codes "version 2\nnative n0 0\nwhy #1\nwhy #2\nwhy #1\nwhy #2\n")
    (ok ∷ made (native 1) ∷ without_memory ∷ without_memory ∷ path ((native 1, Root (N 0)) ∷ []) ∷ replying [] nothing_there ∷ [])

-- What stays for a while follows from nothing all the same.
abbrev pub garbage_follows_from_nothing : Transcript
garbage_follows_from_nothing = answered (codes "version 2\nnative n0 0\ndrop n0\nwhy #1\nslice 1\nwhy #1\ngc\nwhy #1\n")
    (ok ∷ made (native 1) ∷ ok ∷ replying [] nothing_there ∷ done_after (Unlinked (native 1) ∷ []) ∷ replying [] nothing_there ∷ done_after (Freed (native 1) ∷ []) ∷ replying [] nothing_there ∷ [])

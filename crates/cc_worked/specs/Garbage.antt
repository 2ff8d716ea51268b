-- CENSUSES AND GARBAGE: transcripts that end in a census which lists what is not reached, or leaves out what is.
use Rattle.std.specs.Prelude.{[], ◌∷◌, codes}
use Rattle.cc_names.specs.Names.{native, object, reflector}
use Rattle.cc_model.specs.declared.item.Refusal.TheVariants.{Line, Empty, NoMemory}
use Rattle.cc_model.specs.declared.item.Reply.TheVariants.{Refused, Nothing as nothing_there}
use Rattle.cc_model.specs.declared.item.Event.TheVariants.{Freed, Abandoned}
use Rattle.cc_model.specs.Answers.{no_answer, replying}
use Rattle.cc_worked.specs.Transcripts.{Transcript, answered, made, lists, ok, done_after, refused}

-- Garbage after `gc`, `collect` and `gc`

-- A native that no register reaches is gone after gc, collect and gc.
abbrev pub garbage_is_kept : Transcript
garbage_is_kept = answered (codes "native n0 0\ndrop n0\ngc\ncollect\ngc\ncensus\n")
    (made (native 1) ∷ ok ∷ ok ∷ ok ∷ ok ∷ lists (native 1 ∷ []) ∷ [])

-- A further gc may stand before the row.
abbrev pub garbage_is_kept_after_two_gcs : Transcript
garbage_is_kept_after_two_gcs = answered (codes "native n0 0\ndrop n0\ngc\ngc\ncollect\ngc\ncensus\n")
    (made (native 1) ∷ ok ∷ ok ∷ ok ∷ ok ∷ ok ∷ lists (native 1 ∷ []) ∷ [])

-- A collect and a gc after the row make it whole again.
abbrev pub garbage_is_kept_after_two_collections : Transcript
garbage_is_kept_after_two_collections = answered (codes "native n0 0\ndrop n0\ngc\ncollect\ngc\ncollect\ngc\ncensus\n")
    (made (native 1) ∷ ok ∷ ok ∷ ok ∷ ok ∷ ok ∷ ok ∷ lists (native 1 ∷ []) ∷ [])

-- A gc after the row begins a new one.
abbrev pub garbage_is_kept_after_two_rows : Transcript
garbage_is_kept_after_two_rows = answered (codes "native n0 0\ndrop n0\ngc\ncollect\ngc\ngc\ncollect\ngc\ncensus\n")
    (made (native 1) ∷ ok ∷ ok ∷ ok ∷ ok ∷ ok ∷ ok ∷ ok ∷ lists (native 1 ∷ []) ∷ [])

-- Lines that ask nothing may stand in the row.
abbrev pub garbage_is_kept_between_blank_lines : Transcript
garbage_is_kept_between_blank_lines = answered (codes "native n0 0\ndrop n0\ngc\n\ncollect\n% between\ngc\n\ncensus\n")
    (made (native 1) ∷ ok ∷ ok ∷ no_answer ∷ ok ∷ no_answer ∷ ok ∷ no_answer ∷ lists (native 1 ∷ []) ∷ [])

-- A script object that no register reaches is gone.
abbrev pub script_object_is_kept : Transcript
script_object_is_kept = answered (codes "script s0 0\ndrop s0\ngc\ncollect\ngc\ncensus\n")
    (made (object 1) ∷ ok ∷ ok ∷ ok ∷ ok ∷ lists (object 1 ∷ []) ∷ [])

-- A reflector that no register reaches is gone.
abbrev pub reflector_is_kept : Transcript
reflector_is_kept = answered (codes "native n0 0\nwrap s0 n0\ndrop s0\ngc\ncollect\ngc\ncensus\n")
    (made (native 1) ∷ made (reflector 1) ∷ ok ∷ ok ∷ ok ∷ ok ∷ lists (native 1 ∷ reflector 1 ∷ []) ∷ [])

-- A reflector whose entry was taken out is not preserved by that, and is gone.
abbrev pub reflector_of_a_taken_out_entry_is_kept : Transcript
reflector_of_a_taken_out_entry_is_kept = answered (codes "native n0 0\nwrap s1 n0\nweakmap s0\nwset s0 s1 none\ndrop s1\ngc\ncollect\ngc\ncensus\n")
    (made (native 1) ∷ made (reflector 1) ∷ made (object 1) ∷ ok ∷ ok ∷ ok ∷ ok ∷ ok ∷ lists (native 1 ∷ reflector 1 ∷ object 1 ∷ []) ∷ [])

-- A proxy that no register reaches is gone, though its delegate is held.
abbrev pub proxy_is_kept : Transcript
proxy_is_kept = answered (codes "script s0 0\nproxy s1 s0\ndrop s1\ngc\ncollect\ngc\ncensus\n")
    (made (object 1) ∷ made (object 2) ∷ ok ∷ ok ∷ ok ∷ ok ∷ lists (object 1 ∷ object 2 ∷ []) ∷ [])

-- An entry keeps neither its key nor the delegate of that.
abbrev pub delegate_of_a_key_is_kept : Transcript
delegate_of_a_key_is_kept = answered (codes "weakmap s0\nscript s1 0\nproxy s2 s1\nwset s0 s2 s0\ndrop s1\ndrop s2\ngc\ncollect\ngc\ncensus\n")
    (made (object 1) ∷ made (object 2) ∷ made (object 3) ∷ ok ∷ ok ∷ ok ∷ ok ∷ ok ∷ ok ∷ lists (object 1 ∷ object 2 ∷ object 3 ∷ []) ∷ [])

-- What a register reaches is listed. Such a transcript is not lawful either, since only a free line takes a name out.
abbrev pub reached_native_is_missing : Transcript
reached_native_is_missing = answered (codes "native n0 0\ngc\ncollect\ngc\ncensus\n")
    (made (native 1) ∷ done_after (Freed (native 1) ∷ []) ∷ ok ∷ ok ∷ lists [] ∷ [])

-- Garbage that may stay

-- Garbage may be listed where no row stands before the census.
abbrev pub no_gc_at_all : Transcript
no_gc_at_all = answered (codes "native n0 0\ndrop n0\ncensus\n") (made (native 1) ∷ ok ∷ lists (native 1 ∷ []) ∷ [])

-- It may be listed where the first gc is missing.
abbrev pub no_first_gc : Transcript
no_first_gc = answered (codes "native n0 0\ndrop n0\ncollect\ngc\ncensus\n") (made (native 1) ∷ ok ∷ ok ∷ ok ∷ lists (native 1 ∷ []) ∷ [])

-- It may be listed where the collect is missing.
abbrev pub no_collect : Transcript
no_collect = answered (codes "native n0 0\ndrop n0\ngc\ngc\ncensus\n") (made (native 1) ∷ ok ∷ ok ∷ ok ∷ lists (native 1 ∷ []) ∷ [])

-- It may be listed where the second gc is missing.
abbrev pub no_last_gc : Transcript
no_last_gc = answered (codes "native n0 0\ndrop n0\ngc\ncollect\ncensus\n") (made (native 1) ∷ ok ∷ ok ∷ ok ∷ lists (native 1 ∷ []) ∷ [])

-- A second collect between them ends the row.
abbrev pub two_collects : Transcript
two_collects = answered (codes "native n0 0\ndrop n0\ngc\ncollect\ncollect\ngc\ncensus\n")
    (made (native 1) ∷ ok ∷ ok ∷ ok ∷ ok ∷ ok ∷ lists (native 1 ∷ []) ∷ [])

-- A gc after the row ends it, and begins a new one.
abbrev pub one_gc_more : Transcript
one_gc_more = answered (codes "native n0 0\ndrop n0\ngc\ncollect\ngc\ngc\ncensus\n")
    (made (native 1) ∷ ok ∷ ok ∷ ok ∷ ok ∷ ok ∷ lists (native 1 ∷ []) ∷ [])

-- A refused line ends the row after the first gc.
abbrev pub refused_line_after_the_first : Transcript
refused_line_after_the_first = answered (codes "native n0 0\ndrop n0\ngc\npreserve s0\ncollect\ngc\ncensus\n")
    (made (native 1) ∷ ok ∷ ok ∷ refused Empty ∷ ok ∷ ok ∷ lists (native 1 ∷ []) ∷ [])

-- A refused line ends the row after the collect.
abbrev pub refused_line_after_the_second : Transcript
refused_line_after_the_second = answered (codes "native n0 0\ndrop n0\ngc\ncollect\npreserve s0\ngc\ncensus\n")
    (made (native 1) ∷ ok ∷ ok ∷ ok ∷ refused Empty ∷ ok ∷ lists (native 1 ∷ []) ∷ [])

-- A refused line ends the row after the second gc.
abbrev pub refused_line_after_the_third : Transcript
refused_line_after_the_third = answered (codes "native n0 0\ndrop n0\ngc\ncollect\ngc\npreserve s0\ncensus\n")
    (made (native 1) ∷ ok ∷ ok ∷ ok ∷ ok ∷ refused Empty ∷ lists (native 1 ∷ []) ∷ [])

-- A line that is not in the grammar ends the row.
abbrev pub bad_line_between : Transcript
bad_line_between = answered (codes "native n0 0\ndrop n0\ngc\ndorp n0\ncollect\ngc\ncensus\n")
    (made (native 1) ∷ ok ∷ ok ∷ refused Line ∷ ok ∷ ok ∷ lists (native 1 ∷ []) ∷ [])

-- A slice ends the row.
abbrev pub slice_between : Transcript
slice_between = answered (codes "native n0 0\ndrop n0\ngc\nslice 1\ncollect\ngc\ncensus\n")
    (made (native 1) ∷ ok ∷ ok ∷ ok ∷ ok ∷ ok ∷ lists (native 1 ∷ []) ∷ [])

-- Units of a marking end the row.
abbrev pub mark_between : Transcript
mark_between = answered (codes "version 2\nnative n0 0\ndrop n0\ngc\nmark 9\ncollect\ngc\ncensus\n")
    (ok ∷ made (native 1) ∷ ok ∷ ok ∷ ok ∷ ok ∷ ok ∷ lists (native 1 ∷ []) ∷ [])

-- A mark is no gc.
abbrev pub mark_in_place_of_the_last_gc : Transcript
mark_in_place_of_the_last_gc = answered (codes "version 2\nscript s0 0\ndrop s0\ngc\ncollect\nmark 9\ncensus\n")
    (ok ∷ made (object 1) ∷ ok ∷ ok ∷ ok ∷ ok ∷ lists (object 1 ∷ []) ∷ [])

-- A collect that was refused memory ends the row.
abbrev pub collect_without_memory : Transcript
collect_without_memory = answered (codes "native n0 0\ndrop n0\ngc\ncollect\ngc\ncensus\n")
    (made (native 1) ∷ ok ∷ ok ∷ replying (Abandoned ∷ []) (Refused NoMemory) ∷ ok ∷ lists (native 1 ∷ []) ∷ [])

-- Why ends the row, also after the second gc.
abbrev pub garbage_may_stay_after_a_why : Transcript
garbage_may_stay_after_a_why = answered (codes "version 2\nnative n0 0\ndrop n0\ngc\ncollect\ngc\nwhy #1\ncensus\n")
    (ok ∷ made (native 1) ∷ ok ∷ ok ∷ ok ∷ ok ∷ replying [] nothing_there ∷ lists (native 1 ∷ []) ∷ [])

-- A census ends the row: the second gc stands behind it.
abbrev pub garbage_may_stay_after_a_census : Transcript
garbage_may_stay_after_a_census = answered (codes "native n0 0\ndrop n0\ngc\ncollect\ncensus\ngc\ncensus\n")
    (made (native 1) ∷ ok ∷ ok ∷ ok ∷ lists (native 1 ∷ []) ∷ ok ∷ lists (native 1 ∷ []) ∷ [])

-- A drop after the row makes garbage, which may be listed.
abbrev pub garbage_may_stay_after_a_drop : Transcript
garbage_may_stay_after_a_drop = answered (codes "native n0 1\nset n0 0 n0\ngc\ncollect\ngc\ndrop n0\ncensus\n")
    (made (native 1) ∷ ok ∷ ok ∷ ok ∷ ok ∷ ok ∷ lists (native 1 ∷ []) ∷ [])
